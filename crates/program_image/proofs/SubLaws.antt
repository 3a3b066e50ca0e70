-- The test of a subclass is the least relation.
use Rattle.std.proofs.Common.{◌≡◌, ℕ, zero, suc, Bool, true, false, inl, inr, ◌<◌, ◌≤◌, ◌==◌, List, [], ◌∷◌, Option, Some, None, length, map, slice_index, slice_index_or, sym, ◌∙◌, ap, subst, refl, arith}
use Rattle.std.specs.List.{Contains, list_any}
use Rattle.std.proofs.lemmas.List.{get_or_default, get_or_read}
use Rattle.std.proofs.lemmas.List.Elements.{Contains-get_or}
use Rattle.std.proofs.Math.ListN.{length-map}
use Rattle.hierarchy.specs.Hierarchy.{row_of, Under, IsRanked, IsWithin}
use Rattle.hierarchy.specs.Hierarchy.Under.{directly, over}
use Rattle.hierarchy.specs.Walks.{has}
use Rattle.hierarchy.specs.Closure.{IsUpwards}
use Rattle.hierarchy.proofs.Tests.{or_split, or_left, or_right, equal_from, equal_to, any_item, any_from, not_true}
use Rattle.hierarchy.proofs.Under.{then, above_in}
use Rattle.program_image.specs.declared.info.ClassInfo.{ClassInfo}
use Rattle.program_image.specs.Subclass.{above, all_above, part_of, both, IsSub, sub_by, is_sub_of}
use Rattle.program_image.specs.Subclass.IsSub.{same, up, parts}
use Rattle.std.proofs.Math.ListN.{get_or-map}
use Rattle.std.specs.Prelude.{IsTrue, ◌↔◌}
use Rattle.std.specs.Option.{option_to_list}
use Rattle.hierarchy.proofs.LoopLaws.{has_some, has_in}
use Rattle.program_image.specs.declared.ancestry.Ancestry.{Ancestry}
use Rattle.program_image.specs.Built.Ancestry.{IsAncestry, parts_in}
use Rattle.program_image.proofs.Rows.{above_all, part_all}

both_parts : (f : ℕ → ℕ → Bool) (a b : Option ℕ) → both f a b ≡ true → (p : ℕ) × (q : ℕ) × ((a ≡ Some p) × ((b ≡ Some q) × (f p q ≡ true)))
both_parts f (Some p) (Some q) e = (p, q, (refl, (refl, e)))
both_parts f (Some p) None e = absurd cc
both_parts f None b e = absurd cc

pub from_test : (n : ℕ) (cs : List ClassInfo) (c d : ℕ) → sub_by n cs c d ≡ true → IsSub cs c d
unfolding sub_by
from_test zero cs c d e = subst (λ z. IsSub cs c z) (equal_from c d e) same
from_test (suc n) cs c d e = elim (or_split (c == d) _ e) [
  | inl h ↦ subst (λ z. IsSub cs c z) (equal_from c d h) same
  | inr rest ↦ elim (or_split (list_any (λ k. sub_by n cs k d) (row_of (map above cs) c)) _ rest) [
    | inl h ↦ let r = any_item (λ k. sub_by n cs k d) (row_of (map above cs) c) h in up r.1.0 (from_test n cs r.0 d r.1.1)
    | inr h ↦ let r = both_parts (sub_by n cs) (part_of cs c) (part_of cs d) h in parts r.2.0 r.2.1.0 (from_test n cs r.0 r.1 r.2.1.1)
  ]
]

pub to_test : (n : ℕ) (cs : List ClassInfo) (ranks : List ℕ) (c d : ℕ) → IsRanked (map all_above cs) ranks → slice_index ranks c ≤ n → IsSub cs c d → sub_by n cs c d ≡ true
unfolding sub_by
to_test zero cs ranks c d r h same = equal_to c
to_test zero cs ranks c d r h (up {k = k} w s) = absurd (let f = r.falls c k (above_all cs c k w) in omega arith)
to_test zero cs ranks c d r h (parts {p = p} e1 e2 s) = absurd (let f = r.falls c p (part_all cs c p e1) in omega arith)
to_test (suc n) cs ranks c d r h same = or_left _ _ (equal_to c)
to_test (suc n) cs ranks c d r h (up {k = k} w s) =
    let f = r.falls c k (above_all cs c k w) in
    or_right (c == d) _ (or_left _ _ (any_from (λ k. sub_by n cs k d) (row_of (map above cs) c) k w (to_test n cs ranks k d r (omega arith) s)))
to_test (suc n) cs ranks c d r h (parts {p = p} {q = q} e1 e2 s) =
    let f = r.falls c p (part_all cs c p e1) in
    let t : sub_by n cs p q ≡ true = to_test n cs ranks p q r (omega arith) s in
    or_right (c == d) _ (or_right (list_any (λ k. sub_by n cs k d) (row_of (map above cs) c)) _ (rw (e1, e2) t))

-- what lies above in the plain rows is above in the relation
pub over_sub : (cs : List ClassInfo) (c k d : ℕ) → Under (map above cs) c k → IsSub cs k d → IsSub cs c d
over_sub cs c k d (directly w) s = up w s
over_sub cs c k d (over {k = m} w u) s = up w (over_sub cs m k d u s)

row_sub : (cs : List ClassInfo) (c k d : ℕ) (row : List ℕ) → IsUpwards (map above cs) c row → has row k ≡ true → IsSub cs k d → IsSub cs c d
row_sub cs c k d row r h s = elim (r.sound k h) [
  | inl e ↦ subst (λ z. IsSub cs z d) (sym e) s
  | inr u ↦ over_sub cs c k d u s
]

pub record Tested (cs : List ClassInfo) (ranks : List ℕ) : Type 0 where
  pub ranked : IsRanked (map all_above cs) ranks
  pub lens : length (map all_above cs) ≡ length cs

sub_to : (cs : List ClassInfo) (ranks : List ℕ) (c d : ℕ) → Tested cs ranks → IsSub cs c d → is_sub_of cs c d ≡ true
unfolding is_sub_of
sub_to cs ranks c d t s = let m = t.ranked.most c in let l = t.lens in to_test (suc (length cs)) cs ranks c d t.ranked (omega arith) s

sub_from : (cs : List ClassInfo) (c d : ℕ) → is_sub_of cs c d ≡ true → IsSub cs c d
unfolding is_sub_of
sub_from cs c d e = from_test (suc (length cs)) cs c d e

-- high stands in low's row
pub found_in_row : (cs : List ClassInfo) (ranks row : List ℕ) (low high : ℕ) → Tested cs ranks → IsUpwards (map above cs) low row → has row high ≡ true → is_sub_of cs low high ≡ true
found_in_row cs ranks row low high t r h = sub_to cs ranks low high t (row_sub cs low high high row r h same)

-- by the parts of an array in low's row
pub found_by_parts : (cs : List ClassInfo) (ranks row : List ℕ) (low high k p q : ℕ) → Tested cs ranks → IsUpwards (map above cs) low row → has row k ≡ true → part_of cs k ≡ Some p → part_of cs high ≡ Some q → is_sub_of cs p q ≡ true → is_sub_of cs low high ≡ true
found_by_parts cs ranks row low high k p q t r h e1 e2 s = sub_to cs ranks low high t (row_sub cs low k high row r h (parts e1 e2 (sub_from cs p q s)))

-- neither
none_from : (cs : List ClassInfo) (row : List ℕ) (low high : ℕ) → IsUpwards (map above cs) low row → has row high ≡ false → ((k p q : ℕ) → has row k ≡ true → part_of cs k ≡ Some p → part_of cs high ≡ Some q → is_sub_of cs p q ≡ true → ⊥) → ((p q : ℕ) → IsSub cs p q → is_sub_of cs p q ≡ true) → (k : ℕ) → has row k ≡ true → IsSub cs k high → ⊥
none_from cs row low high r not_in parts_no to k h same = absurd cc
none_from cs row low high r not_in parts_no to k h (up {k = m} w s) =
    none_from cs row low high r not_in parts_no to m (elim (r.sound k h) [
      | inl e ↦ r.whole m (directly (subst (λ z. Contains (row_of (map above cs) z) m) (sym e) w))
      | inr u ↦ r.whole m (then (map above cs) low k m u w)
    ]) s
none_from cs row low high r not_in parts_no to k h (parts {p = p} {q = q} e1 e2 s) = parts_no k p q h e1 e2 (to p q s)

pub found_none : (cs : List ClassInfo) (ranks row : List ℕ) (low high : ℕ) → Tested cs ranks → IsUpwards (map above cs) low row → has row high ≡ false → ((k p q : ℕ) → has row k ≡ true → part_of cs k ≡ Some p → part_of cs high ≡ Some q → is_sub_of cs p q ≡ true → ⊥) → is_sub_of cs low high ≡ false
found_none cs ranks row low high t r not_in parts_no =
    not_true (is_sub_of cs low high) (λ e. none_from cs row low high r not_in parts_no (λ p q s. sub_to cs ranks p q t s) low r.itself (sub_from cs low high e))

pub tested : (cs : List ClassInfo) (ranks : List ℕ) → IsRanked (map all_above cs) ranks → Tested cs ranks
tested cs ranks r = record { ranked = r; lens = length-map cs all_above }

-- an item of a row stands in it
pub has_item : (row : List ℕ) (i : ℕ) → i < length row → has row (slice_index row i) ≡ true
has_item row i h = any_from (λ y. y == slice_index row i) row (slice_index row i) (Contains-get_or row i 0 h) (equal_to (slice_index row i))

pub place_of : (row : List ℕ) (k : ℕ) → has row k ≡ true → (i : ℕ) × ((i < length row) × (slice_index row i ≡ k))
place_of row k h =
    let r = any_item (λ y. y == k) row h in
    let w = r.1.0 in
    (w.0, (w.1, get_or_default row w.0 0 r.0 w.1 ∙ w.2 ∙ equal_from r.0 k r.1.1))

pub part_in_range : (cs : List ClassInfo) (c p : ℕ) → IsWithin (map all_above cs) → part_of cs c ≡ Some p → p < length cs
part_in_range cs c p within e = let l : length (map all_above cs) ≡ length cs = length-map cs all_above in let h = (above_in (map all_above cs) c p within (part_all cs c p e)).1 in omega arith

-- the set of classes above a class, as it is read
pub row_read : (cs : List ClassInfo) (a : Ancestry) (low : ℕ) (r items : List ℕ) → IsAncestry cs a → low < length cs → r ≡ slice_index_or a.above low r → items ≡ r → items ≡ row_of a.above low
row_read cs a low r items anc inside is same_items =
    let l : length (map above cs) ≡ length cs = length-map cs above in
    let h : low < length a.above = (let e = anc.closed.same in omega arith) in
    same_items ∙ get_or_read a.above low r h is []

-- the parts of the arrays above a class, as they are kept
parts_above : (cs : List ClassInfo) (a : Ancestry) (low : ℕ) (r items : List ℕ) → IsAncestry cs a → low < length cs → r ≡ slice_index_or a.parts low r → items ≡ r → items ≡ parts_in cs (row_of a.above low)
parts_above cs a low r items anc inside is same_items =
    let l : length (map above cs) ≡ length cs = length-map cs above in
    let m : length a.parts ≡ length a.above = ap length anc.parts ∙ length-map a.above (parts_in cs) in
    let h : low < length a.parts = (let e = anc.closed.same in omega arith) in
    same_items ∙ get_or_read a.parts low r h is [] ∙ ap (λ t. row_of t low) anc.parts ∙ get_or-map (parts_in cs) a.above low []

-- what an option's list has is what it holds
option_has : (o : Option ℕ) (p : ℕ) → has (option_to_list o) p ≡ true → o ≡ Some p
option_has None p e = absurd cc
option_has (Some x) p e = elim (or_split (x == p) false e) [ inl h ↦ ap Some (equal_from x p h) | inr h ↦ absurd cc ]

-- each part is that of an array in the row
part_from : (cs : List ClassInfo) (row : List ℕ) (p : ℕ) → has (parts_in cs row) p ≡ true → (k : ℕ) × ((has row k ≡ true) × (part_of cs k ≡ Some p))
part_from cs row p e =
    let r = has_some (λ k. option_to_list (part_of cs k)) row p e in
    (r.0, (any_from (λ y. y == r.0) row r.0 r.1.0 (equal_to r.0), option_has (part_of cs r.0) p r.1.1))

-- the part of each array in the row is one
part_into : (cs : List ClassInfo) (row : List ℕ) (k p : ℕ) → has row k ≡ true → part_of cs k ≡ Some p → has (parts_in cs row) p ≡ true
part_into cs row k p h e =
    let r = any_item (λ y. y == k) row h in
    let w : Contains row k = subst (Contains row) (equal_from r.0 k r.1.1) r.1.0 in
    let one : has (p ∷ []) p ≡ true = or_left (p == p) false (equal_to p) in
    has_in (λ j. option_to_list (part_of cs j)) row p k w (ap (λ o. has (option_to_list o) p) e ∙ one)

-- the array at one place of the parts
pub record PartAt (cs : List ClassInfo) (row : List ℕ) (p : ℕ) : Type 0 where
  pub array : ℕ
  pub in_row : has row array ≡ true
  pub is_part : part_of cs array ≡ Some p

pub part_at : (cs : List ClassInfo) (a : Ancestry) (low : ℕ) (r items : List ℕ) (i : ℕ) → IsAncestry cs a → low < length cs → r ≡ slice_index_or a.parts low r → items ≡ r → i < length items → PartAt cs (row_of a.above low) (slice_index items i)
part_at cs a low r items i anc inside is same_items h =
    let e = parts_above cs a low r items anc inside is same_items in
    let f = part_from cs (row_of a.above low) (slice_index items i) (subst (λ z. has z (slice_index items i) ≡ true) e (has_item items i h)) in
    record { array = f.0; in_row = f.1.0; is_part = f.1.1 }

-- the place of a part among those that are kept
pub place_of_part : (cs : List ClassInfo) (a : Ancestry) (low : ℕ) (r items : List ℕ) (k p : ℕ) → IsAncestry cs a → low < length cs → r ≡ slice_index_or a.parts low r → items ≡ r → has (row_of a.above low) k ≡ true → part_of cs k ≡ Some p → (i : ℕ) × ((i < length items) × (slice_index items i ≡ p))
place_of_part cs a low r items k p anc inside is same_items h e =
    place_of items p (subst (λ z. has z p ≡ true) (sym (parts_above cs a low r items anc inside is same_items)) (part_into cs (row_of a.above low) k p h e))

-- and it is the set of what lies above the class
pub row_kept : (cs : List ClassInfo) (a : Ancestry) (low : ℕ) → IsAncestry cs a → low < length cs → IsUpwards (map above cs) low (row_of a.above low)
row_kept cs a low anc inside = anc.closed.each low (let l : length (map above cs) ≡ length cs = length-map cs above in omega arith)

-- the test tells the relation
pub sub_told : (cs : List ClassInfo) (ranks : List ℕ) (c d : ℕ) (b : Bool) → IsRanked (map all_above cs) ranks → b ≡ is_sub_of cs c d → IsTrue b ↔ IsSub cs c d
sub_told cs ranks c d b r e = (λ t. sub_from cs c d (sym e ∙ t), λ s. e ∙ sub_to cs ranks c d (tested cs ranks r) s)
