-- How the code tells what a served request does.
use Rattle.std.specs.Prelude.{◌≡◌, ℕ, Bool, true, List, [], ◌∷◌, ◌++◌, map, Option, Some, None}
use Rattle.jvm_base.specs.Names.{named, no_name}
use Rattle.jvm_base.specs.declared.name.Name.{Name}
use Rattle.jvm_base.specs.declared.value.ObjectBody.{ObjectBody}
use Rattle.jvm_base.specs.declared.value.ObjectBody.TheVariants.{Text}
use Rattle.machine_state.specs.declared.request.Answer.{Answer}
use Rattle.machine_state.specs.declared.served.Effect.{Effect}
use Rattle.machine_state.specs.declared.served.Effect.TheVariants as effect
use Rattle.machine_state.specs.declared.served.Effects.{Effects}
use Rattle.machine_state.specs.declared.served.Effects.TheVariants as effects
use Rattle.machine_state.specs.declared.served.Served.{Served}
use Rattle.machine_state.specs.declared.served.Wish.{Wish}
use Rattle.machine_state.specs.declared.served.Wish.TheVariants as wish
use Rattle.machine_state.specs.declared.state.Choice.{Choice}
use Rattle.machine_state.specs.Changes.{Change, Made, SetsField, SetsElement, SetsContent, Owned, Freed, Sleeps, Moved, MovedAll, Becomes, Started, Finished, Lost, Printed}
use Rattle.machine_state.specs.Deeds.{Deed}
use Rattle.machine_state.specs.Serve.{pick_fits, name_fits}
use Rattle.machine_state.specs.State.{State, Heap, body_at}

-- the effects in order
abbrev pub effect_list : Effects → List Effect
effect_list effects.Nothing = []
effect_list (effects.One a) = a ∷ []
effect_list (effects.Two a b) = a ∷ b ∷ []
effect_list (effects.Many es) = es

-- the content of a String or buffer
abbrev pub content_of : Option ObjectBody → List ℕ
content_of (Some (Text us)) = us
content_of _ = []

-- the change that an effect is, in a heap
abbrev pub change_of : Heap → Effect → Change
change_of heap (effect.Made n b) = Made n b
change_of heap (effect.SetsField n i v) = SetsField n i v
change_of heap (effect.SetsElement n i v) = SetsElement n i v
change_of heap (effect.Appends n us) = SetsContent n (content_of (body_at heap n) ++ us)
change_of heap (effect.Owned n o) = Owned n o
change_of heap (effect.Freed n) = Freed n
change_of heap (effect.Sleeps n t) = Sleeps n t
change_of heap (effect.Moved n t) = Moved n t
change_of heap (effect.MovedAll n) = MovedAll n
change_of heap (effect.Becomes c s) = Becomes c s
change_of heap (effect.Started n) = Started n
change_of heap (effect.Finished t) = Finished t
change_of heap (effect.Lost u) = Lost u
change_of heap (effect.Printed bytes) = Printed bytes

-- the changes that effects are
abbrev pub changes_of : Heap → Effects → List Change
changes_of heap es = map (change_of heap) (effect_list es)

-- the choice's pick that a run takes: the first waiter, or 0 where nobody is to be picked
abbrev pub first_pick : List ℕ → ℕ
first_pick [] = 0
first_pick (w ∷ ws) = w

-- and its name: that of the first object that is made, of a node and an index
abbrev pub fresh_name : ℕ → ℕ → List ℕ → Name
fresh_name node index [] = no_name
fresh_name node index (c ∷ cs) = named node c index

-- the run's own choice for a deed
abbrev pub fresh_choice : ℕ → ℕ → ℕ → Deed → Choice
fresh_choice t node index d = record {
  thread = t;
  pick = first_pick d.waiters;
  name = fresh_name node index d.makes;
}

-- the choice is the one that is wished for a deed
abbrev pub Meets : Wish → Deed → Choice → Type 0
Meets (wish.Exactly wished) d c = c ≡ wished
Meets (wish.Fresh t node index) d c = c ≡ fresh_choice t node index d

-- what is told of a deed is right: of the choice's pick and name, its changes, its answer. Where the
-- name doesn't fit there may be no names for what would be made, and no changes need be told
pub record IsServed (m : State) (w : Wish) (d : Deed) (s : Served) : Type 0 where
  pub choice : Meets w d s.choice
  pub pick : s.pick_fits ≡ pick_fits s.choice.pick d.waiters
  pub name : s.name_fits ≡ name_fits m.heap s.choice.name d.makes
  pub changes : s.name_fits ≡ true → changes_of m.heap s.effects ≡ d.changes
  pub answer : s.answer ≡ d.answer

-- of what is done by choice: nothing is told where nothing can be done, whatever the choice
abbrev pub IsServing : State → Wish → (Choice → Option Deed) → Option Served → Type 0
IsServing m w deed None = (c : Choice) → deed c ≡ None
IsServing m w deed (Some s) = (d : Deed) × (deed s.choice ≡ Some d) × IsServed m w d s
