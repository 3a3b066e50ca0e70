-- The kinds of `newarray` have numbers below 12.
use Rattle.std.proofs.Common.{◌≡◌, ℕ, ◌+◌, ◌<◌, ◌≤◌, ◌==◌, Bool, true, false, ◌&&◌, List, [], ◌∷◌, length, Option, Some, None, refl, sym, ap, ◌∙◌, get_or, arith, inl, inr}
use Rattle.std.specs.Prelude.{slice_get}
use Rattle.std.specs.List.{position_from}
use Rattle.std.proofs.lemmas.Bool.Decides.{nat_tests}
use Rattle.std.proofs.lemmas.Option.{slice_get-get_or}
use Rattle.std.proofs.lemmas.Iterator.Adapters.{position_from-zero}
use Rattle.jvm_base.specs.declared.desc.Elem.{Elem}
use Rattle.jvm_base.specs.declared.desc.Elem.TheVariants as elem
use Rattle.jvm_base.specs.Words.{from}
use Rattle.flow_types.proofs.TreeLaws.{cases_lt}
use Rattle.program_image.specs.declared.info.ArrayInfo.{ArrayInfo}
use Rattle.program_image.specs.declared.info.ClassInfo.{ClassInfo}
use Rattle.program_image.specs.Program.{Program}
use Rattle.machine_state.specs.Classes.{kind_number, array_class_of}
use Rattle.program_reads.specs.Finding.{is_of_kind}
use Rattle.program_reads.specs.Kept.{AreKinds}

few_kinds : (e : Elem) → kind_number e < 12
few_kinds elem.Boolean = omega arith
few_kinds elem.Char = omega arith
few_kinds elem.Byte = omega arith
few_kinds elem.Short = omega arith
few_kinds elem.Int = omega arith
few_kinds elem.Long = omega arith
few_kinds elem.Float = omega arith
few_kinds elem.Double = omega arith
few_kinds (elem.Object name) = omega arith

other_kind : (k n : ℕ) → n < 12 → 12 ≤ k → (n == k) ≡ false
other_kind k n h l = grind (arith, nat_tests)

and_false : (a b : Bool) → b ≡ false → (a && b) ≡ false
and_false true b e = e
and_false false b e = refl

no_kind : (k : ℕ) (array : Option ArrayInfo) → 12 ≤ k → from false (λ a. a.dims == 1 && kind_number a.elem == k) array ≡ false
no_kind k None h = refl
no_kind k (Some a) h = and_false (a.dims == 1) (kind_number a.elem == k) (other_kind k (kind_number a.elem) (few_kinds a.elem) h)

none_from : (k i : ℕ) (ks : List ClassInfo) → 12 ≤ k → position_from (is_of_kind k) i ks ≡ None
none_from k i [] h = refl
none_from k i (x ∷ ks) h = rw (no_kind k x.array h) (none_from k (i + 1) ks h)

-- no class is of arrays of a kind above
pub none_of_kind : (p : Program) (k : ℕ) → 12 ≤ k → array_class_of p k ≡ 0
none_of_kind p k h = ap (from 0 (λ c. c)) (position_from-zero (is_of_kind k) p.classes ∙ none_from k 0 p.classes h)

-- all kinds
pub kinds_are : (p : Program) (kinds : List ℕ) → length kinds ≡ 12 → ((k c : ℕ) → slice_get kinds k ≡ Some c → c ≡ array_class_of p k) → AreKinds p kinds
kinds_are p kinds n h k = by (slice_get kinds k) refl
  where
    past : slice_get kinds k ≡ None → 12 ≤ k
    past e =
        elim (cases_lt k 12) [
          | inl l ↦ absurd (let q : slice_get kinds k ≡ Some (get_or kinds k 0) = slice_get-get_or kinds k 0 (omega arith) in cc)
          | inr l ↦ l
        ]

    by : (o : Option ℕ) → slice_get kinds k ≡ o → from 0 (λ c. c) o ≡ array_class_of p k
    by (Some c) e = h k c e
    by None e = sym (none_of_kind p k (past e))
