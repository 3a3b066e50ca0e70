-- The lowest of rules, as the table of instructions has it.
use Rattle.std.specs.Prelude.{◌==◌, if◌then◌else◌}
use Rattle.std.proofs.lemmas.Bool.Decides.{eqb_tells}
use Rattle.jvm_base.specs.Words.{from}
use Rattle.flow_types.specs.declared.flow_type.FlowType.{FlowType}
use Rattle.instruction_table.specs.declared.rule.TheConstants as rule
use Rattle.flow_verifier.specs.Given.{depth_rules, after_rules}
use Rattle.std.proofs.Common.{◌≡◌, ◌∙◌, sym, ap, inl, inr, ℕ, List, [], ◌∷◌, ◌++◌, Option, Some, None, true, false, refl}
use Rattle.instruction_table.specs.LowestRule.{lower, lowest}
use Rattle.instruction_table.specs.Working.{is_empty}
use Rattle.instruction_table.proofs.LowestLaws as laws

pub lowest_append : (xs ys : List ℕ) → lowest (xs ++ ys) ≡ lower (lowest xs) (lowest ys)
lowest_append xs ys = laws.lowest_append xs ys

pub none_is_empty : (rs : List ℕ) → lowest rs ≡ None → rs ≡ []
none_is_empty rs e = laws.none_broken rs e

pub none_broken : (rs : List ℕ) → lowest rs ≡ None → is_empty rs ≡ true
none_broken rs e = rw (laws.none_broken rs e) refl

pub some_broken : (rs : List ℕ) (r : ℕ) → lowest rs ≡ Some r → is_empty rs ≡ false
some_broken [] r e = absurd cc
some_broken (x ∷ xs) r e = refl

-- four lists of rules
pub combined : (a b c d : List ℕ) (w x y z : Option ℕ) → w ≡ lowest a → x ≡ lowest b → y ≡ lowest c → z ≡ lowest d → lower w (lower x (lower y z)) ≡ lowest (a ++ (b ++ (c ++ d)))
combined a b c d w x y z e f g h =
    rw (e, f, g, h)
    (sym (laws.lowest_append a (b ++ (c ++ d)) ∙ ap (lower (lowest a)) (laws.lowest_append b (c ++ d) ∙ ap (lower (lowest b)) (laws.lowest_append c d))))

-- no depth where an operand is missing
pub no_depth : (max : ℕ) (rules : List ℕ) (ts : List FlowType) → Some rule.MISSING ≡ lowest rules → None ≡ lowest (after_rules max rules ts)
no_depth max rules ts e = rw (sym e) refl

pub depth_after : (max : ℕ) (rules : List ℕ) (ts : List FlowType) (broken : Option ℕ) → broken ≡ lowest rules → (broken ≡ Some rule.MISSING → ⊥) → lowest (depth_rules max ts) ≡ lowest (after_rules max rules ts)
depth_after max rules ts broken e n = found (lowest rules) (λ f. n (e ∙ f))
  where
    found : (o : Option ℕ) → (o ≡ Some rule.MISSING → ⊥) → lowest (depth_rules max ts) ≡ lowest (if from false (λ r. r == rule.MISSING) o then [] else depth_rules max ts)
    found None n = refl
    found (Some r) n = elim (eqb_tells r rule.MISSING) [ inl p ↦ absurd (n (ap Some (p.1))) | inr p ↦ rw (p.0) refl ]
