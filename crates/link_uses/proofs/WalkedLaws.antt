-- Look-ups in the tables are look-ups in the walks.
use Rattle.std.proofs.Common.{◌≡◌, ℕ, ◌<◌, List, [], ◌∷◌, ◌++◌, Option, Some, None, length, ap, sym, ◌∙◌, refl, arith, inl, inr}
use Rattle.std.specs.List.{flat_map}
use Rattle.std.proofs.lemmas.Bool.{cases_lt}
use Rattle.std.proofs.Math.ListN.{get_or-eq_default}
use Rattle.hierarchy.specs.Hierarchy.{row_of, IsRanked, IsWithin}
use Rattle.hierarchy.specs.Joined.{AreJoined}
use Rattle.hierarchy.specs.Walks.{all_from, first_some, or_else, IsWalked}
use Rattle.hierarchy.proofs.Joining.{walked_in}
use Rattle.hierarchy.proofs.WalkLaws.{walk_unfolds, first_new}
use Rattle.class_format.specs.declared.class.ClassFile.{ClassFile}
use Rattle.link_members.specs.declared.row_table.Step.TheVariants.{Interfaces}
use Rattle.link_members.proofs.RowLaws.{rows_within}
use Rattle.link_rules.specs.Numbers.{interface_rows}
use Rattle.link_uses.specs.Tables.{AreTables}

-- the first answer over a row of the table is the first over the walk
pub first_walked : {A : Type 0} (f : ℕ → Option A) (rows table : List (List ℕ)) (c : ℕ) → IsWalked rows table → c < length rows → first_some f (row_of table c) ≡ first_some f (all_from rows c)
first_walked f rows table c w h = ap (first_some f) (w.each c h) ∙ first_new f [] (all_from rows c)

or_both : {A : Type 0} (a b c d : Option A) → d ≡ or_else b c → or_else a d ≡ or_else (or_else a b) c
or_both None b c d e = e
or_both (Some x) b c d e = refl

-- the first answer over lists of lists
first_both : {A : Type 0} (f : ℕ → Option A) (xs ys : List ℕ) → first_some f (xs ++ ys) ≡ or_else (first_some f xs) (first_some f ys)
first_both f [] ys = refl
first_both f (x ∷ xs) ys = or_both (f x) (first_some f xs) (first_some f ys) (first_some f (xs ++ ys)) (first_both f xs ys)

pub first_flat : {A : Type 0} (f : ℕ → Option A) (g : ℕ → List ℕ) (xs : List ℕ) → first_some f (flat_map g xs) ≡ first_some (λ k. first_some f (g k)) xs
first_flat f g [] = refl
first_flat f g (x ∷ xs) = first_both f (g x) (flat_map g xs) ∙ ap (or_else (first_some f (g x))) (first_flat f g xs)

or_parts : {A : Type 0} (a b : Option A) → or_else a b ≡ None → (a ≡ None) × (b ≡ None)
or_parts None b e = (refl, e)
or_parts (Some x) b e = absurd cc

-- where no item has an answer of its own
pub first_beyond : {A : Type 0} (f : ℕ → Option A) (g h : ℕ → Option A) (xs : List ℕ) → first_some f xs ≡ None → ((k : ℕ) → f k ≡ None → h k ≡ g k) → first_some h xs ≡ first_some g xs
first_beyond f g h [] none e = refl
first_beyond f g h (x ∷ xs) none e =
    let parts = or_parts (f x) (first_some f xs) none in
    ap (λ z. or_else z (first_some h xs)) (e x parts.0) ∙ ap (or_else (g x)) (first_beyond f g h xs parts.1 e)

-- the answers over the walk over interfaces from a class that has none itself
pub beyond_itself : {A : Type 0} (f : ℕ → Option A) (rows table : List (List ℕ)) (ranks : List ℕ) (k : ℕ) → IsWalked rows table → IsRanked rows ranks → f k ≡ None → first_some f (row_of table k) ≡ first_some f (flat_map (all_from rows) (row_of rows k))
beyond_itself f rows table ranks k w r none = elim (cases_lt k (length rows)) [
  | inl inside ↦
      first_walked f rows table k w inside ∙ ap (first_some f) (walk_unfolds rows ranks r k) ∙ ap (λ z. or_else z (first_some f (flat_map (all_from rows) (row_of rows k)))) none
  | inr past ↦
      let same = w.same in
      let t : row_of table k ≡ [] = get_or-eq_default table [] {n = k} (omega arith) in
      let e : row_of rows k ≡ [] = get_or-eq_default rows [] {n = k} past in
      ap (first_some f) t ∙ sym (ap (λ z. first_some f (flat_map (all_from rows) z)) e)
]

-- the methods in the interfaces of some classes that have none themselves
pub beyond_classes : {A : Type 0} (f : ℕ → Option A) (rows table : List (List ℕ)) (ranks xs : List ℕ) → IsWalked rows table → IsRanked rows ranks → first_some f xs ≡ None → first_some (λ k. first_some f (row_of table k)) xs ≡ first_some f (flat_map (λ k. flat_map (all_from rows) (row_of rows k)) xs)
beyond_classes f rows table ranks xs w r none =
    let g : ℕ → List ℕ = λ k. flat_map (all_from rows) (row_of rows k) in
    first_beyond f (λ k. first_some f (g k)) (λ k. first_some f (row_of table k)) xs none (λ k e. beyond_itself f rows table ranks k w r e) ∙ sym (first_flat f g xs)

pub or_first : {A : Type 0} (a b : Option A) (x : A) → a ≡ Some x → Some x ≡ or_else a b
or_first (Some y) b x e = sym e
or_first None b x e = absurd cc

pub or_second : {A : Type 0} (a b : Option A) → a ≡ None → or_else a b ≡ b
or_second None b e = refl
or_second (Some y) b e = absurd cc

-- what stands behind an answer matters only where there is none
or_beyond : {A : Type 0} (a b c : Option A) → (a ≡ None → b ≡ c) → or_else a b ≡ or_else a c
or_beyond None b c h = h refl
or_beyond (Some x) b c h = refl

-- two questions that agree have one first answer
pub first_same : {A : Type 0} (f g : ℕ → Option A) (xs : List ℕ) → ((k : ℕ) → f k ≡ g k) → first_some f xs ≡ first_some g xs
first_same f g [] h = refl
first_same f g (x ∷ xs) h = ap (λ o. or_else o (first_some f xs)) (h x) ∙ ap (or_else (g x)) (first_same f g xs h)

-- the first answer over the joined rows is the first over the rows one after the other
first_joined : {A : Type 0} (f : ℕ → Option A) (lists table joined : List (List ℕ)) (c : ℕ) → AreJoined lists table joined → c < length lists → first_some f (row_of joined c) ≡ first_some (λ k. first_some f (row_of table k)) (row_of lists c)
first_joined f lists table joined c j h =
    ap (first_some f) (j.each c h) ∙ first_new f [] (flat_map (row_of table) (row_of lists c)) ∙ first_flat f (row_of table) (row_of lists c)

-- the answer of a class: over its walk over superclasses, then over the interfaces of them all
pub class_walked : {A : Type 0} (f kept : ℕ → Option A) (super_rows interface_rows supers interfaces met : List (List ℕ)) (ranks : List ℕ) (c : ℕ) → ((k : ℕ) → kept k ≡ f k) → IsWalked super_rows supers → IsWalked interface_rows interfaces → AreJoined supers interfaces met → IsRanked interface_rows ranks → c < length super_rows → or_else (first_some kept (row_of supers c)) (first_some kept (row_of met c)) ≡ or_else (first_some f (all_from super_rows c)) (first_some f (flat_map (λ k. flat_map (all_from interface_rows) (row_of interface_rows k)) (all_from super_rows c)))
class_walked f kept super_rows interface_rows supers interfaces met ranks c same w v j r inside =
    let h : ℕ → Option _ = λ k. first_some f (row_of interfaces k) in
    let row = row_of supers c in
    let there : c < length supers = (let l = w.same in omega arith) in
    let a : first_some kept row ≡ first_some f (all_from super_rows c) = first_same kept f row same ∙ first_walked f super_rows supers c w inside in
    let b : first_some kept (row_of met c) ≡ first_some h (all_from super_rows c) = first_same kept f (row_of met c) same ∙ first_joined f supers interfaces met c j there ∙ first_walked h super_rows supers c w inside in
    ap (λ o. or_else o (first_some kept (row_of met c))) a ∙ ap (or_else (first_some f (all_from super_rows c))) b
    ∙ or_beyond (first_some f (all_from super_rows c)) _ _ (beyond_classes f interface_rows interfaces ranks (all_from super_rows c) v r)

-- the interfaces in the walks have walks themselves
pub interfaces_within : (all : List ClassFile) (supers interfaces fields : List (List ℕ)) → AreTables all supers interfaces fields → IsWithin interfaces
interfaces_within all supers interfaces fields t = walked_in (interface_rows all) interfaces (rows_within Interfaces all) t.interface_walks
