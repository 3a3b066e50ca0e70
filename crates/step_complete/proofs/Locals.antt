-- The locals of a call.
use Rattle.std.proofs.Common.{◌≡◌, ℕ, zero, suc, pos, ◌+◌, ◌-◌, ◌<◌, ◌≤◌, List, [], ◌∷◌, ◌++◌, length, take, replicate, refl, sym, ap, ◌∙◌, arith}
use Rattle.std.proofs.lemmas.List.{take_all}
use Rattle.jvm_base.specs.declared.value.Value.{Value}
use Rattle.jvm_base.specs.declared.value.Value.TheVariants.{Int}
use Rattle.machine_state.specs.Frames.{padded}

-- where there is no value
padded-none : (n : ℕ) → padded n [] ≡ replicate n (Int (pos 0))
padded-none zero = refl
padded-none (suc n) = ap (λ (vs : List Value). Int (pos 0) ∷ vs) (padded-none n)

-- where there are fewer values than locals
pub padded-more : (vs : List Value) (n m : ℕ) → n ≡ length vs + m → padded n vs ≡ vs ++ replicate m (Int (pos 0))
padded-more [] n m e = padded-none n ∙ ap (λ (k : ℕ). replicate k (Int (pos 0))) (omega arith)
padded-more (v ∷ vs) zero m e = absurd (omega arith)
padded-more (v ∷ vs) (suc n) m e = ap (λ (ws : List Value). v ∷ ws) (padded-more vs n m (omega arith))

-- where there are enough
pub padded-enough : (vs : List Value) (n : ℕ) → n ≤ length vs → padded n vs ≡ vs
padded-enough vs zero h = refl
padded-enough [] (suc n) h = absurd (omega arith)
padded-enough (v ∷ vs) (suc n) h = ap (λ (ws : List Value). v ∷ ws) (padded-enough vs n (omega arith))

-- what is filled up
pub filled : (vs : List Value) (len n : ℕ) → len ≡ length vs → len < n → take n vs ++ replicate (n - len) (Int (pos 0)) ≡ padded n vs
filled vs len n e h =
    ap (λ (ws : List Value). ws ++ replicate (n - len) (Int (pos 0))) (take_all n vs (omega arith))
    ∙ sym (padded-more vs n (n - len) (omega arith))
