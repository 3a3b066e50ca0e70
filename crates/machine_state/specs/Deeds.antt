-- What a served request does: what it demands of the choice, reads, does with locks, changes and
-- answers. The writes among its events are computed from the changes.
use Rattle.std.specs.Prelude.{ℕ, List, [], ◌∷◌, ◌++◌, map, Option, Some, None}
use Rattle.jvm_base.specs.declared.name.Name.{Name}
use Rattle.jvm_base.specs.declared.value.Value.{Value}
use Rattle.jvm_base.specs.declared.value.Value.TheVariants.{Ref}
use Rattle.jvm_base.specs.declared.value.ObjectBody.TheVariants.{Fields, Text}
use Rattle.program_image.specs.Program.{Program}
use Rattle.program_image.specs.Words.{zeros_of}
use Rattle.machine_state.specs.BootClasses.{string}
use Rattle.machine_state.specs.declared.request.Answer.{Answer}
use Rattle.machine_state.specs.declared.request.Answer.TheVariants.{Gives, Raises}
use Rattle.machine_state.specs.Changes.{Change, Made}
use Rattle.machine_state.specs.Events.{Place, Held, LockEvent, Event, Reads, Locks, writes}

-- makes are the classes of the made objects, waiters those of whom the choice must pick one;
-- reads and locks are the events that no change shows
pub record Deed : Type 0 where
  pub makes : List ℕ
  pub waiters : List ℕ
  pub reads : List (Place × Held)
  pub locks : List LockEvent
  pub changes : List Change
  pub answer : Answer

-- the reads as events
abbrev pub reads_of : List (Place × Held) → List Event
reads_of [] = []
reads_of (r ∷ rs) = Reads r.0 r.1 ∷ reads_of rs

-- all that a deed tells: reads, writes, then locks
abbrev pub events_of : Deed → List Event
events_of d = reads_of d.reads ++ (writes d.changes ++ map Locks d.locks)

-- ---- kinds of deeds

-- nothing happens but the answer
abbrev pub quiet : Option Value → Deed
quiet v =
    record { makes = []; waiters = []; reads = []; locks = []; changes = []; answer = Gives v }

-- a place is read
abbrev pub reading : Place → Held → Option Value → Deed
reading p h v = record (quiet v) { reads = (p, h) ∷ [] }

-- the state is changed
abbrev pub changing : List Change → Option Value → Deed
changing cs v = record (quiet v) { changes = cs }

-- and further, by one change
abbrev pub with_change : Change → Deed → Deed
with_change c d = record d { changes = d.changes ++ c ∷ [] }

-- something is done with a lock
abbrev pub locking : LockEvent → List Change → Deed
locking e cs =
    record
    { makes = []; waiters = []; reads = []; locks = e ∷ []; changes = cs; answer = Gives None }

-- an exception of a class is made and raised
abbrev pub faulted : Program → Name → ℕ → Deed
faulted p name c = record {
  makes = c ∷ [];
  waiters = [];
  reads = [];
  locks = [];
  changes = Made name (Fields (zeros_of p c)) ∷ [];
  answer = Raises name;
}

-- a String is made
abbrev pub making_text : Name → List (Place × Held) → List ℕ → Deed
making_text name reads us = record {
  makes = string ∷ [];
  waiters = [];
  reads = reads;
  locks = [];
  changes = Made name (Text us) ∷ [];
  answer = Gives (Some (Ref name));
}
