-- The rows of a list of classes.
use Rattle.std.proofs.Common.{◌≡◌, ℕ, zero, suc, ◌⊎◌, inl, inr, ◌<◌, List, [], ◌∷◌, Option, Some, None, length, map, slice_index_or, slice_get, sym, ◌∙◌, ap, subst, refl, arith}
use Rattle.std.specs.List.{Contains}
use Rattle.std.specs.Option.{option_to_list}
use Rattle.std.proofs.lemmas.List.Elements.{Contains-append_left, Contains-append_right, Contains-get_or, All-contains}
use Rattle.std.proofs.lemmas.List.{length-map, get_or_default}
use Rattle.hierarchy.specs.Hierarchy.{row_of, IsRanked, IsWithin}
use Rattle.program_image.specs.declared.info.ClassInfo.{ClassInfo}
use Rattle.std.specs.List.{All}
use Rattle.program_image.specs.declared.info.MethodInfo.{MethodInfo}
use Rattle.program_image.specs.Condition.{IsClassWithin}
use Rattle.program_image.specs.Built.Members.{AreMethodsWithin}
use Rattle.jvm_base.specs.Words.{from}
use Rattle.program_image.specs.Subclass.{above, all_above, part_in, part_of}

pub got : {A : Type 0} (xs : List A) (i : ℕ) → (slice_get xs i ≡ None) ⊎ ((x : A) × (slice_get xs i ≡ Some x))
got xs i = elim (slice_get xs i) as (λ o. (o ≡ None) ⊎ ((x : _) × (o ≡ Some x))) [ None ↦ inl refl | Some x ↦ inr (x, refl) ]

pub row_some : {A : Type 0} (f : A → List ℕ) (xs : List A) (c : ℕ) (x : A) → slice_get xs c ≡ Some x → row_of (map f xs) c ≡ f x
row_some f [] c x e = absurd cc
row_some f (y ∷ ys) zero x e = let s : y ≡ x = cc in ap f s
row_some f (y ∷ ys) (suc c) x e = row_some f ys c x e

pub row_none : {A : Type 0} (f : A → List ℕ) (xs : List A) (c : ℕ) → slice_get xs c ≡ None → row_of (map f xs) c ≡ []
row_none f [] c e = refl
row_none f (y ∷ ys) zero e = absurd cc
row_none f (y ∷ ys) (suc c) e = row_none f ys c e

pub nothing : (k : ℕ) → Contains {X = ℕ} [] k → ⊥
nothing k w = let h = w.1 in omega arith

-- what lies above in the plain rows does in the whole rows
pub above_all : (cs : List ClassInfo) (c k : ℕ) → Contains (row_of (map above cs) c) k → Contains (row_of (map all_above cs) c) k
above_all cs c k w = elim (got cs c) [
  | inl e ↦ absurd (nothing k (subst (λ z. Contains z k) (row_none above cs c e) w))
  | inr g ↦ subst (λ z. Contains z k) (sym (row_some all_above cs c g.0 g.1)) (Contains-append_left (above g.0) (option_to_list (part_in g.0)) k (subst (λ z. Contains z k) (row_some above cs c g.0 g.1) w))
]

-- so does the part
pub part_all : (cs : List ClassInfo) (c p : ℕ) → part_of cs c ≡ Some p → Contains (row_of (map all_above cs) c) p
part_all cs c p e = elim (got cs c) [
  | inl n ↦ let none : Option ℕ = None in let q : none ≡ Some p = sym (ap (from None part_in) n) ∙ e in absurd cc
  | inr g ↦
      let q : part_in g.0 ≡ Some p = sym (ap (from None part_in) g.1) ∙ e in
      let one : Contains (p ∷ []) p = (0, omega arith, refl) in
      let h : Contains (option_to_list (part_in g.0)) p = subst (λ z. Contains (option_to_list z) p) (sym q) one in
      subst (λ z. Contains z p) (sym (row_some all_above cs c g.0 g.1)) (Contains-append_right (above g.0) (option_to_list (part_in g.0)) p h)
]

-- ranks of the whole rows are ranks of the plain ones
pub ranked_plain : (cs : List ClassInfo) (ranks : List ℕ) → IsRanked (map all_above cs) ranks → length (map above cs) ≡ length (map all_above cs) → IsRanked (map above cs) ranks
ranked_plain cs ranks r e = record { all = r.all ∙ sym e; falls = λ c k w. r.falls c k (above_all cs c k w); most = λ c. let m = r.most c in omega arith }

-- the plain rows stay within, as the whole ones do
pub within_plain : (cs : List ClassInfo) → IsWithin (map all_above cs) → IsWithin (map above cs)
within_plain cs w c d l k e m =
    let lp : length (map above cs) ≡ length cs = length-map cs above in
    let la : length (map all_above cs) ≡ length cs = length-map cs all_above in
    let at : k < length (row_of (map above cs) c) = subst (λ z. k < length z) (get_or_default (map above cs) c d [] l) m in
    let item = slice_index_or (row_of (map above cs) c) k e in
    let h : Contains (row_of (map all_above cs) c) item = above_all cs c item (Contains-get_or (row_of (map above cs) c) k e at) in
    let below : item < length (map all_above cs) = All-contains (λ x. x < length (map all_above cs)) (row_of (map all_above cs) c) item (w c [] (omega arith)) h in
    let same : slice_index_or (slice_index_or (map above cs) c d) k e ≡ item = ap (λ z. slice_index_or z k e) (get_or_default (map above cs) c d [] l) in
    omega arith

pub ranked_of : (cs : List ClassInfo) (all plain : List (List ℕ)) (ranks : List ℕ) → all ≡ map all_above cs → plain ≡ map above cs → IsRanked all ranks → IsRanked plain ranks
ranked_of cs all plain ranks ea ep r =
    let la : length (map all_above cs) ≡ length cs = length-map cs all_above in
    let lp : length (map above cs) ≡ length cs = length-map cs above in
    subst (λ z. IsRanked z ranks) (sym ep) (ranked_plain cs ranks (subst (λ z. IsRanked z ranks) ea r) (omega arith))

-- what an option holds
pub some_is : {A : Type 0} (x y : A) → Some x ≡ Some y → x ≡ y
some_is x y e = cc

-- the row of a class is what the function makes of it, where it is there
pub row_from : {A : Type 0} (f : A → List ℕ) (xs : List A) (c : ℕ) → row_of (map f xs) c ≡ from [] f (slice_get xs c)
row_from f [] c = refl
row_from f (x ∷ xs) zero = refl
row_from f (x ∷ xs) (suc c) = row_from f xs c

-- there is something at each place of a list
pub there : {A : Type 0} (xs : List A) (i : ℕ) → i < length xs → (x : A) × (slice_get xs i ≡ Some x)
there [] i h = absurd (omega arith)
there (x ∷ xs) zero h = (x, refl)
there (x ∷ xs) (suc i) h = there xs i (omega arith)

-- the methods that classes declare are below the count
pub methods_within : (classes cs : List ClassInfo) (methods ms : List MethodInfo) → cs ≡ classes → ms ≡ methods → All (IsClassWithin (length classes) (length methods)) classes → AreMethodsWithin cs (length ms)
methods_within classes cs methods ms ec em w =
    let told : AreMethodsWithin classes (length methods) = λ k d h. (w k d h).methods_in in
    subst (λ z. AreMethodsWithin z (length ms)) (sym ec) (subst (λ z. AreMethodsWithin classes (length z)) (sym em) told)
