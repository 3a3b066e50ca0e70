-- Classes of arrays, found from the last class to the first.
use Rattle.std.proofs.Common.{◌≡◌, ℕ, ◌+◌, ◌<◌, true, false, List, length, replicate, Option, Some, None, refl, sym, ap, ◌∙◌, subst, arith, inl, inr}
use Rattle.std.specs.Prelude.{slice_get, slice_set, nat_eq}
use Rattle.std.specs.Option.{option_eq}
use Rattle.std.proofs.lemmas.Bool.Decides.{eqb_tells}
use Rattle.std.proofs.lemmas.List.{get_or-replicate, length-replicate}
use Rattle.std.proofs.lemmas.Option.{slice_get-get_or}
use Rattle.jvm_base.specs.Words.{from}
use Rattle.program_image.specs.declared.info.ArrayInfo.{ArrayInfo}
use Rattle.program_image.specs.declared.info.ClassInfo.{ClassInfo}
use Rattle.program_image.specs.Program.{Program}
use Rattle.program_image.specs.Subclass.{part_in}
use Rattle.program_reads.specs.Finding.{first_from, is_over}
use Rattle.program_reads.specs.Kept.{AreOver}
use Rattle.program_reads.proofs.First.{first_hit, first_miss, first_past, first_of_all}
use Rattle.program_reads.proofs.Lists.{set_there, set_elsewhere, set_count}

-- each class's first class of arrays among the classes from a number on
pub record AreOverFrom (ks : List ClassInfo) (n : ℕ) (over : List ℕ) : Type 0 where
  pub count : length over ≡ length ks
  pub each : (c : ℕ) → c < length ks → slice_get over c ≡ Some (first_from (is_over c) n ks)

-- at first, none
pub over_none : (ks : List ClassInfo) (n : ℕ) → n ≡ length ks → AreOverFrom ks n (replicate n 0)
over_none ks n e = record {
  count = length-replicate n 0 ∙ e;
  each = λ c h.
      let l : c < length (replicate n 0) = rw (length-replicate {A = ℕ} n 0) (omega arith) in
      slice_get-get_or (replicate n 0) c 0 l ∙ ap Some (get_or-replicate n c 0 0 (omega arith) ∙ sym (first_past (is_over c) n ks (omega arith)));
}

-- by the part
over_part : (c : ℕ) (array : Option ArrayInfo) → from false (λ a. option_eq nat_eq a.part (Some c)) array ≡ option_eq nat_eq (from None (λ a. a.part) array) (Some c)
over_part c None = refl
over_part c (Some a) = refl

-- a class that isn't one of arrays of references
pub over_kept : (ks : List ClassInfo) (i : ℕ) (over : List ℕ) (info : ClassInfo) → slice_get ks i ≡ Some info → part_in info ≡ None → AreOverFrom ks (i + 1) over → AreOverFrom ks i over
over_kept ks i over info e h o = record {
  count = o.count;
  each = λ c l.
      o.each c l ∙ ap Some (sym (first_miss (is_over c) i ks info e (over_part c info.array ∙ ap (λ q. option_eq nat_eq q (Some c)) h)));
}

-- one that is
pub over_set : (ks : List ClassInfo) (i q : ℕ) (over : List ℕ) (info : ClassInfo) → slice_get ks i ≡ Some info → part_in info ≡ Some q → AreOverFrom ks (i + 1) over → AreOverFrom ks i (slice_set over q i)
over_set ks i q over info e h o = record {
  count = set_count over q i ∙ o.count;
  each = λ c l. elim (eqb_tells q c) [
    | inl w ↦ subst (λ d. slice_get (slice_set over q i) d ≡ Some (first_from (is_over d) i ks)) w.1
        (set_there over q i (let a : c < length over = rw o.count l in let b : q ≡ c = w.1 in omega arith) ∙ ap Some (sym (first_hit (is_over q) i ks info e (over_part q info.array ∙ ap (λ p. option_eq nat_eq p (Some q)) h ∙ same q))))
    | inr w ↦ set_elsewhere over q c i w.1 ∙ o.each c l ∙ ap Some (sym (first_miss (is_over c) i ks info e (over_part c info.array ∙ ap (λ p. option_eq nat_eq p (Some c)) h ∙ w.0)))
  ];
}
  where
    same : (n : ℕ) → nat_eq n n ≡ true
    same n = grind (arith, eqb_tells)

-- from the first class on it is the whole
pub over_all : (p : Program) (over : List ℕ) → AreOverFrom p.classes 0 over → AreOver p over
over_all p over o = record {
  count = o.count;
  each = λ c l. o.each c l ∙ ap Some (first_of_all (is_over c) p.classes);
}
