-- How far before each item of a list the same item stands.
use Rattle.std.proofs.Common.{◌≡◌, ℕ, zero, suc, ◌+◌, ◌<◌, List, [], ◌∷◌, ◌++◌, Option, Some, None, length, map, take, slice_index_or, ◌-◌, replicate, inl, inr, refl, sym, ap, subst, ◌∙◌, arith}
use Rattle.std.specs.Prelude.{slice_get, option_map, IfSome}
use Rattle.std.proofs.Math.ListN.{set}
use Rattle.std.proofs.lemmas.List.{length_push}
use Rattle.std.proofs.lemmas.Option.{slice_get-map, slice_get-get_or}
use Rattle.jvm_base.proofs.Options.{some_is}
use Rattle.jvm_base.specs.declared.pool.PoolItem.{PoolItem}
use Rattle.link_rules.proofs.MarkLaws.{last_or_before}
use Rattle.link_image.specs.Kept.Backs.{IsBack, AreBacks, AreSeen}
use Rattle.link_image.proofs.BaseLaws.{get_set}

-- before any was seen
pub none_seen : (indices : List ℕ) (n : ℕ) → AreSeen (replicate n None) indices 0
none_seen indices n = record { before = λ t a h. absurd (none n t a h); at = λ t a h. absurd (none n t a h) }
  where
    none : (n t a : ℕ) → slice_get (replicate n None) t ≡ Some (Some a) → ⊥
    none zero t a h = absurd cc
    none (suc n) zero a h = absurd cc
    none (suc n) (suc t) a h = none n t a h

-- one more that was seen
pub seen_more : (seen : List (Option ℕ)) (indices : List ℕ) (index place : ℕ) → AreSeen seen indices place → slice_get indices place ≡ Some index → AreSeen (set seen index (Some place)) indices (place + 1)
seen_more seen indices index place s e = record {
  before = λ t a h. elim (get_set seen index (Some place) t (Some a) h) [
    | inl q ↦ let same : a ≡ place = some_is a place q.1 in omega arith
    | inr q ↦ let less = s.before t a q in omega arith
  ];
  at = λ t a h. elim (get_set seen index (Some place) t (Some a) h) [
    | inl q ↦ let same : a ≡ place = some_is a place q.1 in ap (slice_get indices) same ∙ e ∙ ap Some (sym q.0)
    | inr q ↦ s.at t a q
  ];
}

pub seen_on : (seen : List (Option ℕ)) (indices : List ℕ) (place : ℕ) → AreSeen seen indices place → AreSeen seen indices (place + 1)
seen_on seen indices place s = record { before = λ t a h. (let less = s.before t a h in omega arith); at = s.at }

-- the same index stands where it was seen
pub back_seen : (seen : List (Option ℕ)) (indices : List ℕ) (index place a d : ℕ) → AreSeen seen indices place → slice_get indices place ≡ Some index → slice_get seen index ≡ Some (Some a) → d + a ≡ place → IsBack indices place d
back_seen seen indices index place a d s e h q = (
  omega arith,
  λ b r. let same : b ≡ a = omega arith in ap (slice_get indices) same ∙ s.at index a h ∙ sym e,
)

-- an item stands where it stands
pub back_none : {A : Type 0} (xs : List A) (place : ℕ) → IsBack xs place 0
back_none xs place = (omega arith, λ a e. let same : a ≡ place = omega arith in ap (slice_get xs) same)

-- what was found so far
pub record AreFound {A : Type 0} (xs : List A) (backs : List ℕ) (count : ℕ) : Type 0 where
  pub all : length backs ≡ count
  pub each : (i d : ℕ) → slice_get backs i ≡ Some d → IsBack xs i d

pub none_found : {A : Type 0} (xs : List A) (backs : List ℕ) → backs ≡ [] → AreFound xs backs 0
none_found xs backs e = record {
  all = ap length e;
  each = λ i d h. absurd (none i d (subst (λ (z : List ℕ). slice_get z i ≡ Some d) e h));
}
  where
    none : (i d : ℕ) → slice_get [] i ≡ Some d → ⊥
    none i d h = absurd cc

pub found_more : {A : Type 0} (xs : List A) (backs new : List ℕ) (i d : ℕ) → AreFound xs backs i → IsBack xs i d → new ≡ backs ++ d ∷ [] → AreFound xs new (i + 1)
found_more xs backs new i d f e grown = record {
  all = ap length grown ∙ length_push backs d ∙ ap (λ k. k + 1) f.all;
  each = λ j b h.
      last_or_before backs d b j (subst (λ (z : List ℕ). slice_get z j ≡ Some b) grown h) (λ k z. IsBack xs k z) f.each (subst (λ k. IsBack xs k d) (sym f.all) e);
}

pub all_found : {A : Type 0} (xs : List A) (backs : List ℕ) (count : ℕ) → length xs ≡ count → AreFound xs backs count → AreBacks xs backs
all_found xs backs count n f = record { all = f.all ∙ sym n; each = f.each }

-- ---- what is made of them

taken : {A : Type 0} (xs : List A) (i k : ℕ) (x : A) → slice_get (take i xs) k ≡ Some x → slice_get xs k ≡ Some x
taken xs zero k x h = absurd cc
taken [] (suc i) k x h = absurd cc
taken (y ∷ ys) (suc i) zero x h = h
taken (y ∷ ys) (suc i) (suc k) x h = taken ys i k x h

-- what was made so many places before is what is to be made
pub made_back : {A B : Type 0} (f : A → B) (xs : List A) (backs : List ℕ) (made : List B) (i a d : ℕ) (x : A) (y : B) → AreBacks xs backs → made ≡ map f (take i xs) → slice_get backs i ≡ Some d → a + d ≡ i → slice_get xs i ≡ Some x → slice_get made a ≡ Some y → y ≡ f x
made_back {A = A} f xs backs made i a d x y are m ed ea ex ey = by (slice_get (take i xs) a) refl
  where
    at : slice_get xs a ≡ Some x
    at = (are.each i d ed).1 a ea ∙ ex

    there : option_map f (slice_get (take i xs) a) ≡ Some y
    there = sym (slice_get-map f (take i xs) a) ∙ ap (λ z. slice_get z a) (sym m) ∙ ey

    by : (o : Option A) → slice_get (take i xs) a ≡ o → y ≡ f x
    by None e = let q : option_map f None ≡ Some y = sym (ap (option_map f) e) ∙ there in absurd cc
    by (Some z) e =
        let same : z ≡ x = some_is z x (sym (taken xs i a z e) ∙ at) in
        let q : Some (f z) ≡ Some y = sym (ap (option_map f) e) ∙ there in
        sym (some_is (f z) y q) ∙ ap f same

pub made_there : {B : Type 0} (f : ℕ → B) (xs backs : List ℕ) (made : List B) (i : ℕ) → AreBacks xs backs → made ≡ map f (take i xs) → i < length xs → IfSome (slice_get made (i - slice_index_or backs i 0)) (λ y. y ≡ f (slice_index_or xs i 0))
made_there {B = B} f xs backs made i are m h = by (slice_get made (i - slice_index_or backs i 0)) refl
  where
    back : slice_get backs i ≡ Some (slice_index_or backs i 0)
    back = slice_get-get_or backs i 0 (let l = are.all in omega arith)

    at : slice_get xs i ≡ Some (slice_index_or xs i 0)
    at = slice_get-get_or xs i 0 h

    by : (o : Option B) → slice_get made (i - slice_index_or backs i 0) ≡ o → IfSome o (λ y. y ≡ f (slice_index_or xs i 0))
    by None e = tt
    by (Some y) e =
        let within = (are.each i (slice_index_or backs i 0) back).0 in
        made_back f xs backs made i (i - slice_index_or backs i 0) (slice_index_or backs i 0) (slice_index_or xs i 0) y are m back (omega arith) at e

pub map_twice : {A B C : Type 0} (f : B → C) (g : A → B) (xs : List A) → map f (map g xs) ≡ map (λ x. f (g x)) xs
map_twice f g [] = refl
map_twice f g (x ∷ xs) = ap (λ z. f (g x) ∷ z) (map_twice f g xs)

-- what is made of the indices of members is made of the members
pub made_of : {A B : Type 0} (f : List PoolItem → ℕ → B) (g : A → ℕ) (pool p : List PoolItem) (xs ys : List A) (is js : List ℕ) (made : List B) → made ≡ map (f p) is → p ≡ pool → is ≡ js → js ≡ map g ys → ys ≡ xs → made ≡ map (λ x. f pool (g x)) xs
made_of f g pool p xs ys is js made m ep ei ej ey =
    m ∙ ap (λ z. map (f z) is) ep ∙ ap (map (f pool)) (ei ∙ ej) ∙ map_twice (f pool) g ys ∙ ap (map (λ x. f pool (g x))) ey
