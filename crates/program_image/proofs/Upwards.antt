-- A walk upwards.
use Rattle.std.proofs.Common.{◌≡◌, ℕ, ◌+◌, ◌<◌, Option, Some, None, List, [], ◌∷◌, length, map, slice_get, slice_index, sym, ◌∙◌, ap, subst, refl, arith, append-nil, inl, inr, true, false, is_some}
use Rattle.std.specs.List.{Contains, flat_map}
use Rattle.std.specs.Option.{option_to_list}
use Rattle.std.proofs.lemmas.List.{length-map}
use Rattle.std.proofs.lemmas.List.Elements.{Contains-append_left}
use Rattle.hierarchy.specs.Hierarchy.{row_of, IsRanked, IsWithin}
use Rattle.hierarchy.specs.Walks.{all_from, first_some, or_else}
use Rattle.hierarchy.proofs.WalkLaws.{walk_unfolds}
use Rattle.program_image.specs.declared.info.ClassInfo.{ClassInfo}
use Rattle.program_image.specs.declared.info.MethodInfo.{MethodInfo}
use Rattle.program_image.specs.Subclass.{above, all_above}
use Rattle.program_image.specs.Selection.{over_class, open_in, found_up}
use Rattle.program_image.proofs.Rows.{got, row_some, row_none, nothing, above_all}
use Rattle.hierarchy.proofs.Under.{above_in}

-- the first that is found from a class on, or from none
abbrev pub found_from : List ClassInfo → List MethodInfo → ℕ → Option ℕ → Option ℕ
found_from classes methods called None = None
found_from classes methods called (Some k) = found_up classes methods called k

-- the rank of a class, or none's
abbrev pub rank_in : List ℕ → Option ℕ → ℕ
rank_in ranks None = 0
rank_in ranks (Some k) = slice_index ranks k + 1

-- a class, where there is one, is one of so many
abbrev pub IsAt : ℕ → Option ℕ → Type 0
IsAt n None = Unit {0}
IsAt n (Some k) = k < n

-- the superclass lies above
over_above : (cs : List ClassInfo) (c k : ℕ) → Contains (row_of (map over_class cs) c) k → Contains (row_of (map all_above cs) c) k
over_above cs c k w = elim (got cs c) [
  | inl e ↦ absurd (nothing k (subst (λ z. Contains z k) (row_none over_class cs c e) w))
  | inr g ↦ above_all cs c k (subst (λ z. Contains z k) (sym (row_some above cs c g.0 g.1)) (Contains-append_left (over_class g.0) g.0.interfaces k (subst (λ z. Contains z k) (row_some over_class cs c g.0 g.1) w)))
]

over_ranked : (cs : List ClassInfo) (ranks : List ℕ) → IsRanked (map all_above cs) ranks → IsRanked (map over_class cs) ranks
over_ranked cs ranks r =
    let a : length (map all_above cs) ≡ length cs = length-map cs all_above in
    let b : length (map over_class cs) ≡ length cs = length-map cs over_class in
    record { all = r.all ∙ a ∙ sym b; falls = λ c k w. r.falls c k (over_above cs c k w); most = λ c. let m = r.most c in omega arith }

rest_up : (cs : List ClassInfo) (ms : List MethodInfo) (called : ℕ) (o : Option ℕ) → first_some (open_in cs ms called) (flat_map (all_from (map over_class cs)) (option_to_list o)) ≡ found_from cs ms called o
rest_up cs ms called None = refl
rest_up cs ms called (Some k) = ap (first_some (open_in cs ms called)) (append-nil (all_from (map over_class cs) k))

-- one class upwards
pub up_unfolds : (cs : List ClassInfo) (ms : List MethodInfo) (ranks : List ℕ) (called k : ℕ) (info : ClassInfo) → IsRanked (map all_above cs) ranks → slice_get cs k ≡ Some info → found_up cs ms called k ≡ or_else (open_in cs ms called k) (found_from cs ms called info.super_class)
up_unfolds cs ms ranks called k info r e =
    let f : ℕ → Option ℕ = open_in cs ms called in
    ap (first_some f) (walk_unfolds (map over_class cs) ranks (over_ranked cs ranks r) k)
    ∙ ap (λ row. or_else (f k) (first_some f (flat_map (all_from (map over_class cs)) row))) (row_some over_class cs k info e)
    ∙ ap (or_else (f k)) (rest_up cs ms called info.super_class)

pub up_above : (cs : List ClassInfo) (k : ℕ) (info : ClassInfo) (j : ℕ) → slice_get cs k ≡ Some info → info.super_class ≡ Some j → Contains (row_of (map all_above cs) k) j
up_above cs k info j e s = over_above cs k j (subst (λ z. Contains z j) (sym (row_some over_class cs k info e)) (let one : Contains (j ∷ []) j = (0, omega arith, refl) in subst (λ o. Contains (option_to_list o) j) (sym s) one))

pub up_at : (cs : List ClassInfo) (k : ℕ) (info : ClassInfo) (o : Option ℕ) → IsWithin (map all_above cs) → slice_get cs k ≡ Some info → info.super_class ≡ o → IsAt (length cs) o
up_at cs k info None within e s = tt
up_at cs k info (Some j) within e s = let l : length (map all_above cs) ≡ length cs = length-map cs all_above in let h = (above_in (map all_above cs) k j within (up_above cs k info j e s)).1 in omega arith

pub up_falls : (cs : List ClassInfo) (ranks : List ℕ) (k : ℕ) (info : ClassInfo) (o : Option ℕ) → IsRanked (map all_above cs) ranks → slice_get cs k ≡ Some info → info.super_class ≡ o → rank_in ranks o < rank_in ranks (Some k)
up_falls cs ranks k info None r e s = omega arith
up_falls cs ranks k info (Some j) r e s = let f = r.falls k j (up_above cs k info j e s) in omega arith

pub some_first : {A : Type 0} (o r : Option A) → is_some o ≡ true → or_else o r ≡ o
some_first (Some x) r e = refl
some_first None r e = absurd cc

pub none_first : {A : Type 0} (o r : Option A) → is_some o ≡ false → or_else o r ≡ r
none_first (Some x) r e = absurd cc
none_first None r e = refl
