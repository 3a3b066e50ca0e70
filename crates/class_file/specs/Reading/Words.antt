-- Reading from front to back, with the first refusal that is met. These words are our own.
use Rattle.std.specs.Prelude.{ℕ, zero, suc, List, [], ◌∷◌, ◌++◌, length, take, drop, Result, Ok, Err, nat_lt, if◌then◌else◌}
use Rattle.std.specs.Int.{Width, w16, byte_len, from_be_bytes}
use Rattle.class_file.specs.declared.error.ClassErr.{ClassErr}
use Rattle.class_file.specs.declared.error.ClassErr.TheVariants.{Cut}
use Rattle.jvm_base.specs.Told.{Gives}
use Rattle.class_file.specs.Reasons.{told}
pub use Rattle.jvm_base.specs.Refusing.{◌>>=◌, need, want}
pub use Rattle.class_file.specs.Place.{Place, offset_of, after}

-- a reader that was at one place and is now at another has read that, unless memory ran out
abbrev pub Reads : {X : Type 0} → Place → Result X ClassErr → Result (X × Place) ClassErr → Type 0
Reads now result read = Gives told (λ x. (x, now)) result read

-- so many bytes, and the place after them
abbrev pub bytes_at : ℕ → Place → Result (List ℕ × Place) ClassErr
bytes_at n p = if nat_lt (length p.rest) n then Err (Cut p.total) else Ok (take n p.rest, after n p)

-- a number of a width, its most significant byte first (JVMS2 4)
abbrev pub number_at : Width → Place → Result (ℕ × Place) ClassErr
number_at w p =
    if nat_lt (length p.rest) (byte_len w) then Err (Cut p.total) else Ok
    (from_be_bytes w (take (byte_len w) p.rest), after (byte_len w) p)

-- one part after the other, so many of them, each with what the earlier ones came to
unfoldable pub each_at : {S : Type 0} → (S → Place → Result (S × Place) ClassErr) → ℕ → S → Place
    → Result (S × Place) ClassErr
each_at part zero s p = Ok (s, p)
each_at part (suc n) s p = do
  x ← part s p
  each_at part n x.0 x.1

-- a count of two bytes, and so many parts
unfoldable pub counted_at : {S : Type 0} → (S → Place → Result (S × Place) ClassErr) → S → Place
    → Result (S × Place) ClassErr
counted_at part s p = do
  count ← number_at w16 p
  each_at part count.0 s count.1

-- a part that adds an item to a list
abbrev pub adding : {X : Type 0} → (List X → Place → Result (X × Place) ClassErr) → List X
    → Place → Result (List X × Place) ClassErr
adding item xs p = do
  x ← item xs p
  Ok (xs ++ x.0 ∷ [], x.1)

-- a count of two bytes, and so many items, each read with the earlier ones known
abbrev pub listed_at : {X : Type 0} → (List X → Place → Result (X × Place) ClassErr) → Place
    → Result (List X × Place) ClassErr
listed_at item p = counted_at (adding item) [] p
