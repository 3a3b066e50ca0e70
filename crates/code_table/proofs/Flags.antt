-- Flags of addresses, as instructions are marked one by one.
use Rattle.std.proofs.Common.{◌≡◌, ◌≢◌, ℕ, ◌<◌, ◌==◌, ◌||◌, List, [], ◌∷◌, ◌++◌, length, Bool, true, false, get_or, set, replicate, refl, sym, ◌∙◌, inl, inr, arith}
use Rattle.std.proofs.lemmas.Bool.{cases_Bool, cases_lt}
use Rattle.std.proofs.lemmas.List.{get_or-replicate, get_or_past, length-replicate, get_or-set_same, get_or-set_other, length-set}
use Rattle.std.proofs.Math.Path.{fun_ext}
use Rattle.std.proofs.lemmas.Bool.Decides.{nat_tests}
use Rattle.std.proofs.lemmas.List.Folds.{list_any-append}
use Rattle.code_table.specs.declared.code.Placed.{Placed}
use Rattle.code_table.specs.Targets.{is_start, flag_at}

-- a flag that is set
or_true : (b : Bool) → (b || (true || false)) ≡ true
or_true true = refl
or_true false = refl

-- a flag that stays
or_false : (b : Bool) → (b || (false || false)) ≡ b
or_false true = refl
or_false false = refl

-- there is a flag for each address of the code, set where one of these instructions begins
pub record Marks (flags : List Bool) (ops : List Placed) (len : ℕ) : Type 0 where
  pub size : length flags ≡ len
  pub here : (at : ℕ) → flag_at flags at ≡ is_start ops at

-- no flag is set at first
none_at : (len at : ℕ) → get_or (replicate len false) at false ≡ false
none_at len at = elim (cases_lt at len) [
  | inl below ↦ get_or-replicate len at false false below
  | inr above ↦ get_or_past (replicate len false) at false (omega (arith, length-replicate {A = Bool}))
]

-- flags of no instructions
pub none_marked : (len : ℕ) → Marks (replicate len false) [] len
unfolding flag_at is_start
none_marked len = record { size = length-replicate len false; here = λ at. none_at len at }

-- a flag is set at this place, and the others stay
one_set : (flags : List Bool) (ops : List Placed) (p : Placed) (at : ℕ) → p.at < length flags → flag_at flags at ≡ is_start ops at → flag_at (set flags p.at true) at ≡ (is_start ops at || (p.at == at || false))
unfolding flag_at is_start
one_set flags ops p at within same = elim (cases_Bool (p.at == at)) [
  | inl is_it ↦ let e : at ≡ p.at = grind (arith, nat_tests) in rw is_it (rw e (get_or-set_same flags p.at true false within) ∙ sym (or_true (is_start ops at)))
  | inr other ↦ let d : at ≢ p.at = grind (arith, nat_tests) in rw other (get_or-set_other flags p.at at true false d ∙ same ∙ sym (or_false (is_start ops at)))
]

-- flags of one instruction more
pub one_marked : (flags : List Bool) (ops : List Placed) (len : ℕ) (p : Placed) → p.at < len → Marks flags ops len → Marks (set flags p.at true) (ops ++ p ∷ []) len
unfolding is_start
one_marked flags ops len p within h = record {
  size = length-set flags p.at true ∙ h.size;
  here = λ at. one_set flags ops p at (let e = h.size in omega arith) (h.here at) ∙ sym (list_any-append (λ (q : Placed). q.at == at) ops (p ∷ []));
}

-- flags of all instructions
pub all_marked : (flags : List Bool) (ops : List Placed) (len : ℕ) → Marks flags ops len → flag_at flags ≡ is_start ops
all_marked flags ops len h = fun_ext h.here
