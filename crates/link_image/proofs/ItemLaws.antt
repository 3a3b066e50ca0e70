-- What tables tell of a file's pool.
use Rattle.std.proofs.Common.{◌≡◌, ℕ, ◌<◌, List, [], length, Option, Some, None, sym}
use Rattle.std.specs.Prelude.{IfSome}
use Rattle.std.proofs.lemmas.List.Quantifiers.{position-Some}
use Rattle.class_names.specs.Known.{is_name}
use Rattle.link_arrays.specs.Literals.{literal_number}

-- the number of a literal is one of theirs
pub literal_within : (literals : List (List ℕ)) (text : List ℕ) (number : Option ℕ) → number ≡ literal_number literals text → IfSome number (λ k. k < length literals)
literal_within literals text None e = tt
literal_within literals text (Some k) e = (position-Some (is_name text) literals k [] (sym e)).0
