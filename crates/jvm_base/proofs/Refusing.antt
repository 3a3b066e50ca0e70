-- What computing up to the first refusal came to, taken apart.
use Rattle.std.proofs.Common.{◌≡◌, ◌⊎◌, inl, inr, Bool, true, false, Option, Some, None, Result, Ok, Err, refl, ap, ◌∙◌}
use Rattle.jvm_base.specs.Refusing.{◌>>=◌, need, want}

-- ---- what is there

pub ok_is : {A E : Type 0} (x y : A) → (let r : Result A E = Ok x in r ≡ Ok y) → x ≡ y
ok_is x y e = cc

-- the value of a step that was not refused
pub bind_ok : {A B E : Type 0} (r : Result A E) (f : A → Result B E) (y : B) → (r >>= f) ≡ Ok y → (x : A) × (r ≡ Ok x) × (f x ≡ Ok y)
bind_ok (Ok x) f y e = (x, refl, e)
bind_ok (Err d) f y e = absurd cc

-- the step that was refused
pub bind_err : {A B E : Type 0} (r : Result A E) (f : A → Result B E) (d : E) → (r >>= f) ≡ Err d → (r ≡ Err d) ⊎ ((x : A) × (r ≡ Ok x) × (f x ≡ Err d))
bind_err (Ok x) f d h = inr (x, refl, h)
bind_err (Err e) f d h = inl (let g : e ≡ d = cc in rw g refl)

-- a test that held
pub need_ok : {B E : Type 0} (b : Bool) (d : E) (f : Unit {0} → Result B E) (y : B) → (need b d >>= f) ≡ Ok y → (b ≡ true) × (f tt ≡ Ok y)
need_ok true d f y e = (refl, e)
need_ok false d f y e = absurd cc

-- a test that failed, or held
pub need_err : {B E : Type 0} (b : Bool) (d : E) (f : Unit {0} → Result B E) (e : E) → (need b d >>= f) ≡ Err e → ((b ≡ false) × (d ≡ e)) ⊎ ((b ≡ true) × (f tt ≡ Err e))
need_err true d f e h = inr (refl, h)
need_err false d f e h = inl (refl, cc)

-- a value that was there
pub want_ok : {A B E : Type 0} (o : Option A) (d : E) (f : A → Result B E) (y : B) → (want o d >>= f) ≡ Ok y → (x : A) × (o ≡ Some x) × (f x ≡ Ok y)
want_ok (Some x) d f y e = (x, refl, e)
want_ok None d f y e = absurd cc

-- a value that is there
pub want_is : {A E : Type 0} (o : Option A) (d : E) (x : A) → want o d ≡ Ok x → o ≡ Some x
want_is (Some y) d x h = let e : y ≡ x = cc in ap Some e
want_is None d x h = absurd cc

-- a value that is not there
pub want_err : {A E : Type 0} (o : Option A) (d e : E) → want o d ≡ Err e → (o ≡ None) × (e ≡ d)
want_err (Some y) d e h = absurd cc
want_err None d e h = (refl, let g : e ≡ d = cc in g)

-- ---- steps that go on

pub bind_then : {A B E : Type 0} (r : Result A E) (x : A) (f : A → Result B E) (y : Result B E) → r ≡ Ok x → f x ≡ y → (r >>= f) ≡ y
bind_then r x f y e h = ap (λ r. r >>= f) e ∙ h

pub need_then : {B E : Type 0} (b : Bool) (d : E) (f : Unit {0} → Result B E) (y : Result B E) → b ≡ true → f tt ≡ y → (need b d >>= f) ≡ y
need_then true d f y e h = h
need_then false d f y e h = absurd cc

-- what follows a refused step is refused
pub fails_then : {A B E : Type 0} (r : Result A E) (f : A → Result B E) (e : E) → r ≡ Err e → (r >>= f) ≡ Err e
fails_then r f e h = ap (λ r. r >>= f) h
