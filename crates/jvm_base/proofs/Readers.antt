-- What reading by a computing word says of the spelling that it reads.
use Rattle.std.proofs.Common.{◌≡◌, ℕ, List, Option, Some, None, Result, Ok, Err, ap, subst, ◌∙◌}
use Rattle.std.specs.Prelude.{◌≢◌, IfOk, IfErr}
use Rattle.jvm_base.specs.declared.units.NameErr.{NameErr}
use Rattle.jvm_base.specs.declared.units.NameErr.TheVariants.{BadUtf, BadDesc, NoMemory}
use Rattle.jvm_base.specs.Reads.{Reads, Refuses, SpellsNone}
use Rattle.jvm_base.proofs.Refusing.{want_err, want_is}

-- what is read is spelled so, and what is spelled so is read
pub record IsReader {X : Type 0} (read : List ℕ → Option X) (text : X → List ℕ) (Fits : X → Type 0) : Type 0 where
  pub takes : (t : List ℕ) (x : X) → read t ≡ Some x → Fits x × (t ≡ text x)
  pub again : (x : X) → Fits x → read (text x) ≡ Some x

pub found : {X : Type 0} (read : List ℕ → Option X) (text : X → List ℕ) (Fits : X → Type 0) → IsReader read text Fits → (refusal : NameErr) (r : Result X NameErr) (t : List ℕ) → Reads refusal r (read t) → IfOk r (λ x. Fits x × (t ≡ text x))
found read text Fits reader refusal (Ok x) t h = reader.takes t x (want_is (read t) refusal x h)
found read text Fits reader refusal (Err e) t h = tt

pub only : {X : Type 0} (read : List ℕ → Option X) (text : X → List ℕ) (Fits : X → Type 0) → IsReader read text Fits → (refusal : NameErr) (r : Result X NameErr) (t : List ℕ) → Reads refusal r (read t) → (x : X) → Fits x → t ≡ text x → Reads refusal r (Some x)
only read text Fits reader refusal r t h x fits e = subst (λ o. Reads refusal r o) (ap read e ∙ reader.again x fits) h

none_of : {X : Type 0} (read : List ℕ → Option X) (text : X → List ℕ) (Fits : X → Type 0) → IsReader read text Fits → (t : List ℕ) → read t ≡ None → (x : X) → Fits x → t ≢ text x
none_of read text Fits reader t none x fits = λ e. let again : read t ≡ Some x = ap read e ∙ reader.again x fits in absurd cc

pub refused : {X : Type 0} (read : List ℕ → Option X) (text : X → List ℕ) (Fits : X → Type 0) → IsReader read text Fits → (refusal : NameErr) (r : Result X NameErr) (t : List ℕ) → Reads refusal r (read t) → IfErr r (Refuses refusal (SpellsNone Fits text t))
refused read text Fits reader refusal (Ok x) t h = tt
refused read text Fits reader refusal (Err NoMemory) t h = tt
refused read text Fits reader refusal (Err BadUtf) t h = let k = want_err (read t) refusal BadUtf h in (k.1, none_of read text Fits reader t k.0)
refused read text Fits reader refusal (Err BadDesc) t h = let k = want_err (read t) refusal BadDesc h in (k.1, none_of read text Fits reader t k.0)
