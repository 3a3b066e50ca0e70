-- Marks of the places of a class's statics.
use Rattle.std.proofs.Common.{◌≡◌, ℕ, ◌+◌, ◌<◌, ◌==◌, Bool, true, false, ◌||◌, List, length, replicate, take, Some, refl, sym, ap, ◌∙◌, subst, arith, inl, inr}
use Rattle.std.specs.Prelude.{slice_get, slice_set}
use Rattle.std.specs.List.{list_any}
use Rattle.std.proofs.lemmas.Bool.Decides.{eqb_tells}
use Rattle.std.proofs.lemmas.List.{get_or-replicate, length-replicate}
use Rattle.std.proofs.lemmas.Option.{slice_get-get_or, slice_get_within}
use Rattle.jvm_base.specs.Words.{from}
use Rattle.frame_ops.proofs.Sizes.{any_next}
use Rattle.program_image.specs.declared.info.FieldInfo.{FieldInfo}
use Rattle.program_image.specs.Program.{Program}
use Rattle.program_image.specs.Words.{fields_of}
use Rattle.machine_state.specs.Classes.{is_constant}
use Rattle.program_reads.specs.Finding.{is_constant_at}
use Rattle.program_reads.specs.Kept.{AreConstants}
use Rattle.program_reads.proofs.Lists.{set_there, set_elsewhere, set_count}

-- for the first fields
pub record AreMarksFor (fields : List FieldInfo) (n : ℕ) (marks : List Bool) : Type 0 where
  pub count : length marks ≡ length fields
  pub each : (place : ℕ) →
      place < length fields → slice_get marks place ≡ Some (list_any (is_constant_at place) (take n fields))

-- at first, none
pub marks_none : (fields : List FieldInfo) → AreMarksFor fields 0 (replicate (length fields) false)
marks_none fields = record {
  count = length-replicate (length fields) false;
  each = λ place h.
      let l : place < length (replicate (length fields) false) = rw (length-replicate (length fields) false) h in
      slice_get-get_or (replicate (length fields) false) place false l ∙ ap Some (get_or-replicate (length fields) place false false h);
}

-- one more field, by whether it is marked
any_with : (fields : List FieldInfo) (i : ℕ) (f : FieldInfo) (b : Bool) (place : ℕ) → slice_get fields i ≡ Some f → is_constant_at place f ≡ b → list_any (is_constant_at place) (take (i + 1) fields) ≡ (list_any (is_constant_at place) (take i fields) || b)
any_with fields i f b place e h = any_next (is_constant_at place) fields i ∙ ap (λ o. list_any (is_constant_at place) (take i fields) || from false (is_constant_at place) o) e ∙ ap (λ c. list_any (is_constant_at place) (take i fields) || c) h

or_true : (b : Bool) → (b || true) ≡ true
or_true true = refl
or_true false = refl

or_false : (b : Bool) → (b || false) ≡ b
or_false true = refl
or_false false = refl

-- it isn't, at any place that is kept
pub marks_kept : (fields : List FieldInfo) (marks : List Bool) (i : ℕ) (f : FieldInfo) → slice_get fields i ≡ Some f → ((place : ℕ) → place < length fields → is_constant_at place f ≡ false) → AreMarksFor fields i marks → AreMarksFor fields (i + 1) marks
marks_kept fields marks i f e h m = record {
  count = m.count;
  each = λ place l. m.each place l ∙ ap Some (sym (any_with fields i f false place e (h place l) ∙ or_false _));
}

-- it is, at its place
pub marks_set : (fields : List FieldInfo) (marks : List Bool) (i : ℕ) (f : FieldInfo) → slice_get fields i ≡ Some f → ((place : ℕ) → is_constant_at place f ≡ (f.place == place)) → AreMarksFor fields i marks → AreMarksFor fields (i + 1) (slice_set marks f.place true)
marks_set fields marks i f e h m = record {
  count = set_count marks f.place true ∙ m.count;
  each = λ place l. elim (eqb_tells f.place place) [
    | inl w ↦
        let a : f.place < length marks = (let b : f.place ≡ place = w.1 in rw m.count (omega arith)) in
        subst (λ d. slice_get (slice_set marks f.place true) d ≡ Some (list_any (is_constant_at d) (take (i + 1) fields))) w.1
        (set_there marks f.place true a ∙ ap Some (sym (any_with fields i f true f.place e (h f.place ∙ subst (λ d. (f.place == d) ≡ true) (sym w.1) w.0) ∙ or_true _)))
    | inr w ↦ set_elsewhere marks f.place place true w.1 ∙ m.each place l ∙ ap Some (sym (any_with fields i f false place e (h place ∙ w.0) ∙ or_false _))
  ];
}

-- a mark that is kept
pub mark_is : (p : Program) (rows : List (List Bool)) (c place : ℕ) (marks : List Bool) (mark : Bool) → AreConstants p rows → slice_get rows c ≡ Some marks → Some mark ≡ slice_get marks place → mark ≡ is_constant p c place
mark_is p rows c place marks mark k e h =
    let m = k.each c marks e in
    let l : place < length (fields_of p c) = (let a = slice_get_within marks place mark (sym h) in let b = m.count in omega arith) in
    same (h ∙ m.each place l)
  where
    same : {a b : Bool} → Some a ≡ Some b → a ≡ b
    same q = cc
