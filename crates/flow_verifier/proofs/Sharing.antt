-- Stacks that meet, by the types above them.
use Rattle.std.proofs.Common.{◌≡◌, refl, arith, ℕ, true, false, List, [], ◌∷◌, length, Option, Some, None, inl, inr}
use Rattle.std.proofs.lemmas.Bool.{cases_Bool}
use Rattle.flow_types.specs.Types.{joined}
use Rattle.flow_types.specs.declared.flow_type.FlowType.{FlowType}
use Rattle.flow_types.specs.TypeLists.{types_joined, stacks_joined, is_operand}
use Rattle.flow_types.proofs.Lists.{unlike_lengths}
use Rattle.shared_types.specs.Trees.{all_operands}

pub deep_unlike : (supers : List (Option ℕ)) (xs ys : List FlowType) → (length xs ≡ length ys → ⊥) → stacks_joined supers xs ys ≡ None
deep_unlike supers xs ys h = unlike_lengths supers xs ys h

pub some_stack : (supers : List (Option ℕ)) (xs ys : List FlowType) → length xs ≡ length ys → all_operands (types_joined supers xs ys) ≡ true → stacks_joined supers xs ys ≡ Some (types_joined supers xs ys)
some_stack supers [] [] h e = refl
some_stack supers [] (y ∷ ys) h e = absurd (omega arith)
some_stack supers (x ∷ xs) [] h e = absurd (omega arith)
some_stack supers (x ∷ xs) (y ∷ ys) h e =
    elim (cases_Bool (is_operand (joined supers x y))) [
      | inl q ↦ let m : all_operands (types_joined supers xs ys) ≡ true = rw q at e in rw (q, some_stack supers xs ys (omega arith) m) refl
      | inr q ↦ let m : false ≡ true = rw q at e in absurd cc
    ]

pub no_stack : (supers : List (Option ℕ)) (xs ys : List FlowType) → length xs ≡ length ys → all_operands (types_joined supers xs ys) ≡ false → stacks_joined supers xs ys ≡ None
no_stack supers [] [] h e = absurd cc
no_stack supers [] (y ∷ ys) h e = absurd (omega arith)
no_stack supers (x ∷ xs) [] h e = absurd (omega arith)
no_stack supers (x ∷ xs) (y ∷ ys) h e =
    elim (cases_Bool (is_operand (joined supers x y))) [
      | inl q ↦ let m : all_operands (types_joined supers xs ys) ≡ false = rw q at e in rw (q, no_stack supers xs ys (omega arith) m) refl
      | inr q ↦ rw q refl
    ]
