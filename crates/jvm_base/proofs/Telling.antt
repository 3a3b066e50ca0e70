-- A refusal stays the first one, whatever would be computed next.
use Rattle.std.proofs.Common.{Option, Some, None, Result, refl}
use Rattle.jvm_base.specs.Refusing.{◌>>=◌}
use Rattle.jvm_base.specs.Told.{Fails}

-- a refusal of the first step is the whole's
pub fails_on : {A B E F : Type 0} (told : E → Option F) (e : E) (r : Result A F) (f : A → Result B F) → Fails told e r → Fails told e (r >>= f)
fails_on {A} {B} {E} {F} told e r f h =
    let cases : (o : Option F) → Fails (λ (d : E). o) e r → Fails (λ (d : E). o) e (r >>= f) = λ o. elim o as (λ o. Fails (λ (d : E). o) e r → Fails (λ (d : E). o) e (r >>= f)) [
      | None ↦ λ k. tt
      | Some d ↦ λ k. rw k refl
    ] in
    cases (told e) h
