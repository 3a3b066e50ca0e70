-- Where the first thread that is queued for a class stands.
use Rattle.std.specs.Prelude.{◌≡◌, ◌<◌, ℕ, List, None, length, slice_get}
use Rattle.std.specs.List.{remove}
use Rattle.class_init.specs.Classes.{first_for, without_first}
use Rattle.class_init.specs.declared.classes.ClassRequest.{ClassRequest}

-- it stands there
pub record IsFirstAt (c : ℕ) (qs : List ClassRequest) (i : ℕ) : Type 0 where
  pub within : i < length qs
  pub first : first_for c qs ≡ slice_get qs i
  pub rest : without_first c qs ≡ remove qs i

-- there is none
pub record HasNone (c : ℕ) (qs : List ClassRequest) : Type 0 where
  pub first : first_for c qs ≡ None
  pub rest : without_first c qs ≡ qs
