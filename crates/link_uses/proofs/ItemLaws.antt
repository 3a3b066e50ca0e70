-- What a table has for an item is the member that the item names.
use Rattle.std.proofs.Common.{◌≡◌, ℕ, ◌<◌, ◌+◌, ◌-◌, nat_lt, true, List, [], ◌∷◌, ◌++◌, length, length-append, get_or, Option, Some, None, slice_get, slice_index_or, subst, inl, inr, refl, sym, ap, ◌∙◌, arith}
use Rattle.std.proofs.Math.ListN.{get_or-append}
use Rattle.std.proofs.Math.Seq.{get_or-append_seam}
use Rattle.std.proofs.lemmas.Bool.{cases_lt}
use Rattle.std.proofs.lemmas.List.{get_or_default, get_or-append_right}
use Rattle.std.proofs.lemmas.Bool.Decides.{nat_tests}
use Rattle.std.proofs.lemmas.Option.{slice_get-get_or}
use Rattle.jvm_base.specs.declared.pool.PoolItem.{PoolItem}
use Rattle.jvm_base.specs.declared.pool.PoolItem.TheVariants.{Field, Method, InterfaceMethod}
use Rattle.jvm_base.specs.Words.{from}
use Rattle.class_format.specs.declared.class.ClassFile.{ClassFile}
use Rattle.class_names.specs.Texts.{member_of, member_in}
use Rattle.link_uses.specs.declared.lookup.Found.{Found}
use Rattle.link_uses.specs.Lookups.{found_field, found_method}
use Rattle.link_uses.specs.Items.{found_of, found_at_index, AreItems, HaveItems, is_field_item, is_method_item}

inside : (i n : ℕ) → true ≡ nat_lt i n → i < n
inside i n e = grind (arith, nat_tests)

-- what a slice has at an index
pub got : {A : Type 0} (xs : List A) (i : ℕ) (x : A) → true ≡ nat_lt i (length xs) → x ≡ get_or xs i x → slice_get xs i ≡ Some x
got xs i x t e = slice_get-get_or xs i x (inside i (length xs) t) ∙ ap (λ z. Some z) (sym e)

-- the field of an item that is one
pub field_kept : (all : List ClassFile) (pool : List PoolItem) (found : List (Option Found)) (i : ℕ) (x : Option Found) → AreItems all pool found → slice_get found i ≡ Some x → is_field_item (slice_get pool i) ≡ true → x ≡ found_field all (member_in pool i)
unfolding found_at_index
field_kept all pool found i x h e t = h i x e ∙ by (slice_get pool i) t
  where
    by : (o : Option PoolItem) → is_field_item o ≡ true → from None (found_of all pool) o ≡ found_field all (member_of pool o)
    by (Some (Field class pair)) t = refl
    by _ t = absurd cc

-- the method of an item that is one
pub method_kept : (all : List ClassFile) (pool : List PoolItem) (found : List (Option Found)) (i : ℕ) (x : Option Found) → AreItems all pool found → slice_get found i ≡ Some x → is_method_item (slice_get pool i) ≡ true → x ≡ found_method all (member_in pool i)
unfolding found_at_index
method_kept all pool found i x h e t = h i x e ∙ by (slice_get pool i) t
  where
    by : (o : Option PoolItem) → is_method_item o ≡ true → from None (found_of all pool) o ≡ found_method all (member_of pool o)
    by (Some (Method class pair)) t = refl
    by (Some (InterfaceMethod class pair)) t = refl
    by _ t = absurd cc

-- the table of a file among those of several
pub items_at : (all files : List ClassFile) (tables : List (List (Option Found))) (i : ℕ) (f : ClassFile) (found : List (Option Found)) → HaveItems all files tables → i < length files → f ≡ slice_index_or files i f → found ≡ slice_index_or tables i found → AreItems all f.pool found
items_at all files tables i f found h inside ef et =
    subst (λ z. AreItems all f.pool z) (sym et) (subst (λ (z : ClassFile). AreItems all z.pool (slice_index_or tables i found)) (sym ef) (h.each i f found inside))

-- one more table is that of the next file
pub items_more : (all files : List ClassFile) (tables : List (List (Option Found))) (row : List (Option Found)) (n : ℕ) (g : ClassFile) → length tables ≡ n → n < length files → g ≡ slice_index_or files n g → AreItems all g.pool row → ((i : ℕ) (f : ClassFile) (found : List (Option Found)) → i < n → AreItems all (slice_index_or files i f).pool (slice_index_or tables i found)) → (i : ℕ) (f : ClassFile) (found : List (Option Found)) → i < n + 1 → AreItems all (slice_index_or files i f).pool (slice_index_or (tables ++ row ∷ []) i found)
items_more all files tables row n g e inside eg right each i f found h = elim (cases_lt i n) [
  | inl less ↦
      let old : i < length tables = omega arith in
      subst (AreItems all (slice_index_or files i f).pool) (sym (get_or-append tables (row ∷ []) found i old)) (each i f found less)
  | inr more ↦
      let s : i ≡ n = omega arith in
      let t : i ≡ length tables = omega arith in
      let last : slice_index_or (tables ++ row ∷ []) i found ≡ row = ap (λ k. slice_index_or (tables ++ row ∷ []) k found) t ∙ get_or-append_seam tables row [] found in
      let file : slice_index_or files i f ≡ g = ap (λ k. slice_index_or files k f) s ∙ get_or_default files n f g inside ∙ sym eg in
      subst (AreItems all (slice_index_or files i f).pool) (sym last) (subst (λ (z : ClassFile). AreItems all z.pool row) (sym file) right)
]

-- the table of a file among those of two lists, one behind the other
joined_at : (all front files : List ClassFile) (first rest : List (List (Option Found))) (i : ℕ) (f : ClassFile) (found : List (Option Found)) → HaveItems all front first → HaveItems all files rest → i < length (front ++ files) → AreItems all (slice_index_or (front ++ files) i f).pool (slice_index_or (first ++ rest) i found)
joined_at all front files first rest i f found h more inside = elim (cases_lt i (length front)) [
  | inl less ↦
      let same = h.same in
      let there : i < length first = omega arith in
      let file : slice_index_or (front ++ files) i f ≡ slice_index_or front i f = get_or-append front files f i less in
      let table : slice_index_or (first ++ rest) i found ≡ slice_index_or first i found = get_or-append first rest found i there in
      subst (AreItems all (slice_index_or (front ++ files) i f).pool) (sym table) (subst (λ (z : ClassFile). AreItems all z.pool (slice_index_or first i found)) (sym file) (h.each i f found less))
  | inr past ↦
      let n : ℕ = length front in
      let long = length-append front files in
      let there : i - n < length files = omega arith in
      let file : slice_index_or (front ++ files) i f ≡ slice_index_or files (i - n) f = get_or-append_right front files n i f refl past in
      let table : slice_index_or (first ++ rest) i found ≡ slice_index_or rest (i - n) found = get_or-append_right first rest n i found h.same past in
      subst (AreItems all (slice_index_or (front ++ files) i f).pool) (sym table) (subst (λ (z : ClassFile). AreItems all z.pool (slice_index_or rest (i - n) found)) (sym file) (more.each (i - n) f found there))
]

-- the tables of two lists of files
pub items_joined : (all front files : List ClassFile) (first rest : List (List (Option Found))) → HaveItems all front first → HaveItems all files rest → HaveItems all (front ++ files) (first ++ rest)
items_joined all front files first rest h more = record {
  same = length-append first rest ∙ ap (λ n. n + length rest) h.same ∙ ap (λ n. length front + n) more.same ∙ sym (length-append front files);
  each = λ i f found inside. joined_at all front files first rest i f found h more inside;
}
