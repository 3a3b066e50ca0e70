-- What linking answers: nothing is refused, or the first refusal of a list.
use Rattle.std.specs.Prelude.{◌≡◌, ℕ, Bool, List, [], ◌∷◌, Some, Result, MatchResult, slice_get, if◌then◌else◌}
use Rattle.class_format.specs.declared.class.ClassFile.{ClassFile}
use Rattle.class_names.specs.Classes.{this_name}
use Rattle.link_rules.specs.declared.error.LinkErr.{LinkErr}
use Rattle.link_rules.specs.declared.error.LinkErr.TheVariants.{Bad, NoMemory}
use Rattle.link_rules.specs.declared.error.LinkWhy.{LinkWhy}

-- the first of some refusals; want of memory may be answered at any time
abbrev pub IsFirst : List LinkErr → LinkErr → Type 0
IsFirst refusals NoMemory = Unit {0}
IsFirst refusals e = slice_get refusals 0 ≡ Some e

-- an answer is right where there is no refusal, or it is the first
abbrev pub IsAnswer : {A : Type 0} → List LinkErr → Result A LinkErr → Type 0
IsAnswer refusals r = MatchResult r (λ _. refusals ≡ []) (IsFirst refusals)

-- a refusal of a file
abbrev pub refusal : LinkWhy → ClassFile → List ℕ → LinkErr
refusal why f other = Bad why (this_name f) other

-- it, where a test holds
abbrev pub refused_if : Bool → LinkWhy → ClassFile → List ℕ → List LinkErr
refused_if b why f other = if b then refusal why f other ∷ [] else []
