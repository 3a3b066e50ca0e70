-- What a call comes to, and what its report speaks of.
use Rattle.std.specs.Prelude.{◌≡◌, ◌⊎◌, ℕ, List, [], Option, Some, None}
use Rattle.cjvm_io.specs.Shelves.{Files}
use Rattle.cjvm_io.specs.Sinks.{Showing}
use Rattle.machine_state.specs.declared.state.Choice.{Choice}
use Rattle.one_jvm.specs.declared.outcome.Stop.{Stop}
use Rattle.one_jvm.specs.declared.outcome.Stop.TheVariants.{Done}
use Rattle.one_jvm.specs.declared.outcome.Refusal.{Refusal}
use Rattle.one_jvm.specs.declared.outcome.Refusal.TheVariants.{Link, Flow}
use Rattle.one_jvm.specs.declared.top.Verdict.{Verdict}
use Rattle.one_jvm.specs.Words.{IsCheck, ShowsOrder}
use Rattle.one_jvm.specs.Verdicts.{Names, HasReplay}
use Rattle.one_jvm.specs.Replays.{EndsAs}
use Rattle.one_jvm.specs.Answers.{Faults, Because, Ran, Agrees, IsToldText, IsNamed, IsEndText, IsShown}

-- what the end of a run tells, or a refusal of the words' files
abbrev pub IsToldOf : Option Files → List (List ℕ) → List Choice → Option Stop → Option Refusal
    → List ℕ → Type 0
IsToldOf told words order stop None text = IsEndText told words order stop text
IsToldOf told words order stop (Some (Link e)) text = Names told words (IsToldText (Link e) text)
IsToldOf told words order stop (Some (Flow e)) text = Names told words (IsToldText (Flow e) text)
IsToldOf told words order stop _ text = Unit {0}

-- a check tells nothing so, nor does a run whose threads have all ended without an exception
abbrev pub IsSilent : Option Stop → List ℕ → Type 0
IsSilent None text = text ≡ []
IsSilent (Some Done) text = text ≡ []
IsSilent _ text = Unit {0}

-- the name of the file that a refusal names, where there is one
abbrev pub NamesRefused : List (List ℕ) → Option Refusal → List ℕ → Type 0
NamesRefused words None name = Unit {0}
NamesRefused words (Some e) name = IsNamed words e name

-- such a text, or the name of the file that a refusal names
abbrev pub Speaks : List (List ℕ) → Option Refusal → List ℕ → List ℕ → Type 0
Speaks words None text subject = subject ≡ text
Speaks words (Some (Link e)) text subject = subject ≡ text
Speaks words (Some (Flow e)) text subject = subject ≡ text
Speaks words (Some e) text subject = IsNamed words e subject

-- ---- what a call comes to before its report

-- the end whose status a call has, where it isn't refused: that of its run or replay; a check has none
abbrev pub EndsSo : List (List ℕ) → Option Files → Option Stop → Option Stop → Option Refusal
    → Type 0
EndsSo words told stop end (Some e) = Unit {0}
EndsSo words told (Some s) end None = end ≡ Some s
EndsSo words told None end None =
    (IsCheck words × (end ≡ None))
    ⊎ ((s : Stop) × (end ≡ Some s) × HasReplay (EndsAs s) told words)

-- what holds of a verdict with these parts
pub record IsJudged (words : List (List ℕ)) (told : Option Files) (faults : Faults)
    (before now : Showing) (order : List Choice) (stop end : Option Stop)
    (refusal : Option Refusal) (text listing name : List ℕ) : Type 0 where
  pub cause : Because words told faults refusal
  pub run : Ran words told before now order stop refusal
  pub agrees : Agrees words stop refusal
  pub ends : EndsSo words told stop end refusal
  pub tells : IsToldOf told words order stop refusal text
  pub silent : refusal ≡ None → IsSilent end text
  pub showing : IsShown words order stop refusal listing
  pub named : NamesRefused words refusal name
  pub quiet : stop ≡ Some Done → ¬ ShowsOrder words → refusal ≡ None

abbrev pub Judged : List (List ℕ) → Option Files → Faults → Showing → Showing → Verdict → Type 0
Judged words told faults before now v =
    IsJudged words told faults before now v.order v.stop v.end v.refusal v.text.items v.listing
    v.name.now
