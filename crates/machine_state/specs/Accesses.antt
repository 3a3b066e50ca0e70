-- Each read gives the last write of its place: said of the list of events alone, of which the last
-- stands first.
use Rattle.std.specs.Prelude.{◌≡◌, ℕ, Bool, false, ◌==◌, ◌&&◌, if◌then◌else◌, List, [], ◌∷◌, Option, Some, None}
use Rattle.jvm_base.specs.Names.{name_eq}
use Rattle.program_image.specs.Program.{Program}
use Rattle.machine_state.specs.declared.state.Choice.{Choice}
use Rattle.machine_state.specs.Events.{Place, FieldOf, ElementOf, ContentOf, Held, Told, Event, Reads, Writes, Locks}
use Rattle.machine_state.specs.Runs.{run_events}
use Rattle.machine_state.specs.Start.{start, start_events}

-- the two places are one
abbrev pub place_eq : Place → Place → Bool
place_eq (FieldOf n i) (FieldOf m j) = name_eq n m && i == j
place_eq (ElementOf n i) (ElementOf m j) = name_eq n m && i == j
place_eq (ContentOf n) (ContentOf m) = name_eq n m
place_eq _ _ = false

-- what a place holds after an event
abbrev pub after_event : Place → Event → Option Held → Option Held
after_event p (Writes q h) before = if place_eq p q then Some h else before
after_event p (Reads q h) before = before
after_event p (Locks l) before = before

-- the value of the last write of a place
abbrev pub last_write : Place → List Told → Option Held
last_write p [] = None
last_write p (e ∷ es) = after_event p e.event (last_write p es)

-- a read of what was written last, or no read
abbrev pub IsLast : Event → List Told → Type 0
IsLast (Reads p h) es = last_write p es ≡ Some h
IsLast (Writes p h) es = Unit {0}
IsLast (Locks l) es = Unit {0}

-- each read gives the last write
abbrev pub LastWrite : List Told → Type 0
LastWrite [] = Unit {0}
LastWrite (e ∷ es) = IsLast e.event es × LastWrite es

-- in every run of every program
abbrev pub LastWriteLaw : Type 0
LastWriteLaw =
    (p : Program) (args : List (List ℕ)) (order : List Choice)
    → LastWrite (run_events p (start p args) (start_events p args) order)
