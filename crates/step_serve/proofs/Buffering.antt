-- Methods of buffers by their numbers.
use Rattle.std.proofs.Common.{◌≡◌, ◌≢◌, ℕ, Bool, true, false, ◌==◌, List, [], ◌∷◌, Some, None, refl, sym, ap, ◌∙◌}
use Rattle.std.specs.Prelude.{if◌then◌else◌}
use Rattle.jvm_base.specs.declared.name.Name.{Name}
use Rattle.machine_state.specs.Bodies.{buffer_by, measuring, appending}
use Rattle.machine_state.specs.Deeds.{Deed, quiet, making_text}
use Rattle.machine_state.specs.Events.{ContentOf, Content}
use Rattle.machine_state.specs.Intrinsics.{new_buffer, buffer_text, buffer_length}
use Rattle.machine_state.proofs.NameTests.{test_false}

pub by_new : (name n : Name) (k : ℕ) (us ts : List ℕ) → k ≡ 9 → quiet None ≡ buffer_by name n k us ts
by_new name n k us ts e = ap (λ (j : ℕ). buffer_by name n j us ts) (sym e)

pub by_text : (name n : Name) (k : ℕ) (us ts : List ℕ) → k ≡ 16 → making_text name ((ContentOf n, Content ts) ∷ []) ts ≡ buffer_by name n k us ts
by_text name n k us ts e = ap (λ (j : ℕ). buffer_by name n j us ts) (sym e)

pub by_length : (name n : Name) (k : ℕ) (us ts : List ℕ) → k ≡ 17 → measuring n ts ≡ buffer_by name n k us ts
by_length name n k us ts e = ap (λ (j : ℕ). buffer_by name n j us ts) (sym e)

-- by three tests
abbrev tested : Name → Name → ℕ → List ℕ → List ℕ → Bool → Bool → Bool → Deed
tested name n k us ts a b c =
    if a then quiet None
    else (if b then making_text name ((ContentOf n, Content ts) ∷ []) ts
    else (if c then measuring n ts else appending n k us ts))

pub by_other : (name n : Name) (k : ℕ) (us ts : List ℕ) → k ≢ 9 → k ≢ 16 → k ≢ 17 → appending n k us ts ≡ buffer_by name n k us ts
by_other name n k us ts x y z =
    sym (ap (λ (a : Bool). tested name n k us ts a (k == buffer_text) (k == buffer_length)) (test_false k 9 x)
    ∙ ap (λ (b : Bool). tested name n k us ts false b (k == buffer_length)) (test_false k 16 y)
    ∙ ap (λ (c : Bool). tested name n k us ts false false c) (test_false k 17 z))
