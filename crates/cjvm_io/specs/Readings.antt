-- Reading all that a reader has left.
use Rattle.std.specs.Prelude.{◌≡◌, ℕ, ◌<◌, ◌≤◌, List, length, Option, Result, Ok, Err, IfSome}
use Rattle.cjvm_io.specs.declared.shelf.ShelfErr.{ShelfErr}
use Rattle.cjvm_io.specs.declared.shelf.ShelfErr.TheVariants.{NotThere, TooLong, Failed, NoMemory}

-- these are all bytes that were left, and at most so many
pub record ReadsAll (left : Option (List ℕ)) (limit : ℕ) (bytes : List ℕ) : Type 0 where
  pub bound : length bytes ≤ limit
  pub all : IfSome left (λ xs. bytes ≡ xs)

-- what reading answers, where T holds bytes; it is too long only where more bytes were left
abbrev pub ReadsWhole : {T : Type 0} → (T → List ℕ) → Option (List ℕ) → ℕ → Result T ShelfErr
    → Type 0
ReadsWhole bytes_of left limit (Ok v) = ReadsAll left limit (bytes_of v)
ReadsWhole bytes_of left limit (Err TooLong) = IfSome left (λ xs. limit < length xs)
ReadsWhole bytes_of left limit (Err NotThere) = ⊥
ReadsWhole bytes_of left limit (Err Failed) = Unit {0}
ReadsWhole bytes_of left limit (Err NoMemory) = Unit {0}
