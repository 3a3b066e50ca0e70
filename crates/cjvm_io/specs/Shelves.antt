-- Files by name.
use Rattle.std.specs.Prelude.{◌≡◌, ◌⊎◌, ℕ, ◌<◌, ◌≤◌, cond, bytes_eq, map, string_bytes, String, Vec, List, [], ◌∷◌, length, Option, Some, None, Result, IfOk, IsErrOf}
use Rattle.cjvm_io.specs.declared.shelf.ShelfErr.{ShelfErr}
use Rattle.cjvm_io.specs.declared.shelf.ShelfErr.TheVariants.{NotThere, TooLong, Failed}
use Rattle.cjvm_io.specs.Faults.{Rose}

-- names with their bytes
abbrev pub Files : Type 0
Files = List (List ℕ × List ℕ)

-- named files as names with their bytes
abbrev pub named_bytes : {A : Type 0} → List (String A × Vec ℕ A) → Files
named_bytes files = map (λ f. (string_bytes f.0, f.1.items)) files

-- the bytes under a name: the first entry counts
abbrev pub bytes_under : Files → List ℕ → Option (List ℕ)
bytes_under [] name = None
bytes_under (f ∷ fs) name = cond (bytes_eq f.0 name) (Some f.1) (bytes_under fs name)

-- the file of this name is longer than the limit
pub record HasLonger (fs : Files) (name : List ℕ) (limit : ℕ) : Type 0 where
  pub bytes : List ℕ
  pub has : bytes_under fs name ≡ Some bytes
  pub long : limit < length bytes

-- what a read of a name answers where these are the files and T holds bytes; it is too long exactly
-- where the file is longer, or a fault struck
pub record AnswersFrom {T : Type 0} (bytes_of : T → List ℕ) (fs : Files) (name : List ℕ)
    (limit : ℕ) (result : Result T ShelfErr) : Type 0 where
  pub ok : IfOk result (λ v. bytes_under fs name ≡ Some (bytes_of v))
  pub not_there : IsErrOf result NotThere → bytes_under fs name ≡ None
  pub too_long : IsErrOf result TooLong → HasLonger fs name limit
  pub is_too_long : HasLonger fs name limit → IsErrOf result TooLong ⊎ IsErrOf result Failed

-- what a read of a name answers: never more bytes than the limit, and where the files are told, theirs
pub record ShelfAnswers {T : Type 0} (bytes_of : T → List ℕ) (told : Option Files)
    (name : List ℕ) (limit : ℕ) (result : Result T ShelfErr) : Type 0 where
  pub bound : IfOk result (λ v. length (bytes_of v) ≤ limit)
  pub of_told : (fs : Files) → told ≡ Some fs → AnswersFrom bytes_of fs name limit result

-- the count did not fall, and rose where the answer is Failed
pub record HasFaultCause {T : Type 0} (before now : ℕ) (result : Result T ShelfErr) : Type 0 where
  pub later : before ≤ now
  pub failed : IsErrOf result Failed → Rose before now
