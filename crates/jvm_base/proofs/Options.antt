-- What tests and values behind them say of each other.
use Rattle.std.proofs.Common.{◌≡◌, ◌⊎◌, inl, inr, Bool, true, false, cond, not, ◌&&◌, Option, Some, None, refl, subst}
use Rattle.std.specs.Prelude.{option_map, option_and_then}

pub some_is : {A : Type 0} (x y : A) → Some x ≡ Some y → x ≡ y
some_is x y e = cc

pub map_some : {A B : Type 0} (f : A → B) (o : Option A) (y : B) → option_map f o ≡ Some y → (x : A) × (o ≡ Some x) × (f x ≡ y)
map_some f None y e = absurd cc
map_some f (Some x) y e = (x, refl, some_is (f x) y e)

pub then_some : {A B : Type 0} (f : A → Option B) (o : Option A) (y : B) → option_and_then f o ≡ Some y → (x : A) × (o ≡ Some x) × (f x ≡ Some y)
then_some f None y e = absurd cc
then_some f (Some x) y e = (x, refl, e)

pub if_some : {A : Type 0} (b : Bool) (o : Option A) (y : A) → cond b o None ≡ Some y → (b ≡ true) × (o ≡ Some y)
if_some true o y e = (refl, e)
if_some false o y e = absurd cc

-- a value that one of several tests chose
pub choice : {A : Type 0} (P : A → Type 0) (b : Bool) (y : A) (others : Option A) → (b ≡ true → P y) → ((x : A) → others ≡ Some x → P x) → (x : A) → cond b (Some y) others ≡ Some x → P x
choice P true y others h k x e = subst P (some_is y x e) (h refl)
choice P false y others h k x e = k x e

pub no_choice : {A : Type 0} (P : A → Type 0) (x : A) → None ≡ Some x → P x
no_choice P x e = absurd cc

pub and_parts : (a b : Bool) → (a && b) ≡ true → (a ≡ true) × (b ≡ true)
and_parts true b e = (refl, e)
and_parts false b e = absurd cc

pub not_true : (b : Bool) → not b ≡ true → b ≡ false
not_true true e = absurd cc
not_true false e = refl

pub not_false : (b : Bool) → not b ≡ false → b ≡ true
not_false true e = refl
not_false false e = absurd cc

pub is_not : (b : Bool) → b ≡ false → not b ≡ true
is_not true e = absurd cc
is_not false e = refl

pub chosen : {A : Type 0} (b : Bool) (x y z : A) → cond b x y ≡ z → ((b ≡ true) × (x ≡ z)) ⊎ ((b ≡ false) × (y ≡ z))
chosen true x y z e = inl (refl, e)
chosen false x y z e = inr (refl, e)
