-- The names in the order of a run.
use Rattle.std.specs.Prelude.{◌≡◌, ◌⊎◌, ◌<◌, ◌≤◌, ◌^◌, ℕ, List, length}
use Rattle.std.specs.List.{AllByRecursion}
use Rattle.jvm_base.specs.Names.{no_name}
use Rattle.program_image.specs.Program.{Program}
use Rattle.machine_state.specs.declared.state.Choice.{Choice}
use Rattle.machine_state.specs.State.{State}
use Rattle.machine_state.specs.Runs.{LeadsTo}
use Rattle.program_reads.specs.Whole.{IsWhole}
use Rattle.order_text.specs.Spelling.{HasClass}

-- the choice names nothing, or an object of a class of the program
abbrev pub IsNamed : Program → Choice → Type 0
IsNamed p c = (c.name ≡ no_name) ⊎ (c.name.class < length p.classes)

-- so does each choice of a run
abbrev pub NamesLaw : Type 0
NamesLaw =
    (p : Program) (args : List (List ℕ)) (order : List Choice) (last : State)
    → IsWhole p → LeadsTo p args order last → AllByRecursion (IsNamed p) order

-- each legal order of the program has a text, whatever its arguments
abbrev pub HaveTexts : Program → Type 0
HaveTexts p =
    (args : List (List ℕ)) (order : List Choice) (last : State)
    → LeadsTo p args order last → AllByRecursion HasClass order

-- so it is where each number of a class has 24 bits
abbrev pub HaveTextsLaw : Type 0
HaveTextsLaw = (p : Program) → IsWhole p → length p.classes ≤ 2 ^ 24 → HaveTexts p
