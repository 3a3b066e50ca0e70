-- The first places of instance fields, class by class upwards.
use Rattle.std.proofs.Common.{◌≡◌, ℕ, zero, suc, ◌+◌, ◌*◌, ◌<◌, ◌≤◌, ◌^◌, List, [], ◌∷◌, Option, Some, None, map, length, slice_index, get_or, ap, sym, ◌∙◌, subst, refl, arith, inl, inr, ◌⊎◌, take, replicate}
use Rattle.std.specs.List.{All, Contains, flat_map, sum_by, filter_map, cons_option, count_by}
use Rattle.std.specs.Option.{option_to_list}
use Rattle.std.specs.Prelude.{slice_get}
use Rattle.std.proofs.lemmas.List.{length-map, get_or_read, get_or_default}
use Rattle.std.proofs.Math.Seq.{take-length}
use Rattle.std.proofs.lemmas.Option.{slice_get_within, get_or_from_slice_get}
use Rattle.std.proofs.lemmas.List.Sums.{sum_by-append, sum_by-cons, sum_by_more_le, count_by-le-length}
use Rattle.std.proofs.Math.ListN.{set}
use Rattle.jvm_base.proofs.Options.{some_is}
use Rattle.jvm_base.specs.Words.{from}
use Rattle.class_format.specs.declared.class.ClassFile.{ClassFile}
use Rattle.class_names.specs.Classes.{super_text}
use Rattle.hierarchy.specs.Hierarchy.{row_of, IsRanked}
use Rattle.hierarchy.specs.Walks.{all_from}
use Rattle.hierarchy.proofs.WalkLaws.{walk_unfolds}
use Rattle.hierarchy.proofs.Under.{above_in}
use Rattle.link_members.specs.declared.row_table.Step.TheVariants.{Super}
use Rattle.link_members.proofs.RowLaws.{rows_within}
use Rattle.link_image.specs.Kept.Bases.{AreKnown}
use Rattle.link_rules.specs.Numbers.{number_of, super_row, super_rows}
use Rattle.link_image.specs.Fields.{is_instance, instances_at, base_of}
use Rattle.link_image.specs.Sizes.{HasFewFields}

-- a sum over lists one behind the other
pub sum_flat : {A B : Type 0} (f : B → ℕ) (g : A → List B) (xs : List A) → sum_by f (flat_map g xs) ≡ sum_by (λ x. sum_by f (g x)) xs
sum_flat f g [] = refl
sum_flat f g (x ∷ xs) =
    sum_by-append f (g x) (flat_map g xs) ∙ ap (λ n. sum_by f (g x) + n) (sum_flat f g xs) ∙ sym (sum_by-cons (λ y. sum_by f (g y)) x xs)

-- two functions that agree have one sum
pub sum_same : {A : Type 0} (f g : A → ℕ) (xs : List A) → ((x : A) → f x ≡ g x) → sum_by f xs ≡ sum_by g xs
sum_same f g [] e = refl
sum_same f g (x ∷ xs) e =
    sum_by-cons f x xs ∙ ap (λ n. n + sum_by f xs) (e x) ∙ ap (λ n. g x + n) (sum_same f g xs e) ∙ sym (sum_by-cons g x xs)

-- what comes from a class directly above: its own fields and those above it
abbrev pub through : List ClassFile → ℕ → ℕ
through all k = instances_at all k + base_of all k

pub base_sum : (all : List ClassFile) (ranks : List ℕ) → IsRanked (super_rows all) ranks → (c : ℕ) → base_of all c ≡ sum_by (through all) (row_of (super_rows all) c)
unfolding base_of
base_sum all ranks r c =
    let rows : List (List ℕ) = super_rows all in
    let f : ℕ → ℕ = instances_at all in
    sum_flat f (all_from rows) (row_of rows c)
    ∙ sum_same (λ k. sum_by f (all_from rows k)) (through all) (row_of rows c) (λ k. ap (sum_by f) (walk_unfolds rows ranks r k) ∙ sum_by-cons f k (flat_map (all_from rows) (row_of rows k)))

one_at_most : (g : List ℕ → Option ℕ) (o : Option (List ℕ)) → length (filter_map g (option_to_list o)) ≤ 1
one_at_most g None = omega arith
one_at_most g (Some t) = by (g t)
  where
    by : (o : Option ℕ) → length (cons_option o []) ≤ 1
    by None = omega arith
    by (Some k) = omega arith

-- a class has at most one superclass
pub short_row : (all : List ClassFile) (c : ℕ) → length (row_of (super_rows all) c) ≤ 1
short_row all c = row all
  where
    at : (fs : List ClassFile) (n : ℕ) → length (row_of (map (super_row all) fs) n) ≤ 1
    at [] n = omega arith
    at (f ∷ fs) zero = one_at_most (number_of all) (super_text f)
    at (f ∷ fs) (suc n) = at fs n

    row : (fs : List ClassFile) → length (row_of (map (super_row all) fs) c) ≤ 1
    row fs = at fs c

-- a class declares few fields
pub few_instances : (all : List ClassFile) (k : ℕ) → All HasFewFields all → instances_at all k < 65536
few_instances all k few = by (slice_get all k) (λ f e. few_at f e)
  where
    few_at : (f : ClassFile) → slice_get all k ≡ Some f → length f.fields < 65536
    few_at f e =
        let inside : k < length all = slice_get_within all k f e in
        let there : length (get_or all k f).fields < 2 ^ 16 = few k f inside in
        subst (λ g. length g.fields < 65536) (get_or_from_slice_get all k f f e) there

    by : (o : Option ClassFile) → ((f : ClassFile) → o ≡ Some f → length f.fields < 65536) → count_by is_instance (from [] (λ f. f.fields) o) < 65536
    by None h = omega arith
    by (Some f) h = let a = h f refl in let b = count_by-le-length is_instance f.fields in omega arith

short_sum : (f : ℕ → ℕ) (xs : List ℕ) (most : ℕ) → length xs ≤ 1 → ((k : ℕ) → Contains xs k → f k ≤ most) → sum_by f xs ≤ most
short_sum f [] most l h = omega arith
short_sum f (x ∷ []) most l h = let a = h x (0, omega arith, refl) in omega arith
short_sum f (x ∷ y ∷ ys) most l h = absurd (omega arith)

-- first places are below the rank's times what a class may have
pub base_bound : (n : ℕ) (all : List ClassFile) (ranks : List ℕ) → IsRanked (super_rows all) ranks → All HasFewFields all → (c : ℕ) → slice_index ranks c < n → base_of all c ≤ 65536 * slice_index ranks c
base_bound zero all ranks r few c h = absurd (omega arith)
base_bound (suc n) all ranks r few c h =
    subst (λ z. z ≤ 65536 * slice_index ranks c) (sym (base_sum all ranks r c))
    (short_sum (through all) (row_of (super_rows all) c) (65536 * slice_index ranks c) (short_row all c)
    (λ k w.
    let falls = r.falls c k w in
    let own = few_instances all k few in
    let rest = base_bound n all ranks r few k (omega arith) in
    omega arith))

-- with at most 32,767 classes first places stay below 2^31
pub base_small : (all : List ClassFile) (ranks : List ℕ) → IsRanked (super_rows all) ranks → All HasFewFields all → length all < 32768 → (c : ℕ) → base_of all c ≤ 2147483648
base_small all ranks r few n c =
    let m = r.most c in
    let l = length-map all (super_row all) in
    let b = base_bound (suc (slice_index ranks c)) all ranks r few c (omega arith) in
    omega arith

-- ---- what the search for a first place does

-- the row of a class as it is read
pub row_read : (all : List ClassFile) (supers : List (List ℕ)) (c : ℕ) (r items : List ℕ) → supers ≡ super_rows all → c < length all → r ≡ get_or supers c r → items ≡ r → items ≡ row_of (super_rows all) c
row_read all supers c r items e h is same =
    let l = length-map all (super_row all) in
    let n : length supers ≡ length (super_rows all) = ap length e in
    same ∙ get_or_read supers c r (omega arith) is [] ∙ ap (λ z. row_of z c) e

-- a class of the row is directly above
pub in_row : (all : List ClassFile) (c : ℕ) (items : List ℕ) (i : ℕ) → items ≡ row_of (super_rows all) c → i < length items → Contains (row_of (super_rows all) c) (get_or items i 0)
in_row all c items i e h =
    let at : get_or items i (get_or items i 0) ≡ get_or items i 0 = get_or_default items i (get_or items i 0) 0 h in
    let own : Contains items (get_or items i 0) = (i, h, at) in
    subst (λ z. Contains z (get_or items i 0)) e own

-- it is a class
pub row_inside : (all : List ClassFile) (c k : ℕ) → Contains (row_of (super_rows all) c) k → k < length all
row_inside all c k w =
    let a = (above_in (super_rows all) c k (rows_within Super all) w).1 in
    let l = length-map all (super_row all) in omega arith

-- the sum so far and what comes next are within the whole
pub sum_within : (all : List ClassFile) (ranks : List ℕ) (c : ℕ) (items : List ℕ) (i s : ℕ) → IsRanked (super_rows all) ranks → items ≡ row_of (super_rows all) c → i < length items → s ≡ sum_by (through all) (take i items) → s + through all (get_or items i 0) ≤ base_of all c
sum_within all ranks c items i s r e h q =
    let m = sum_by_more_le (through all) items i 0 h in
    let b : base_of all c ≡ sum_by (through all) items = base_sum all ranks r c ∙ ap (sum_by (through all)) (sym e) in
    omega arith

-- the sum over the whole row
pub sum_whole : (all : List ClassFile) (ranks : List ℕ) (c : ℕ) (items : List ℕ) (i s : ℕ) → IsRanked (super_rows all) ranks → items ≡ row_of (super_rows all) c → i ≡ length items → s ≡ sum_by (through all) (take i items) → s ≡ base_of all c
sum_whole all ranks c items i s r e h q =
    q ∙ ap (λ n. sum_by (through all) (take n items)) h ∙ ap (sum_by (through all)) (take-length items) ∙ ap (sum_by (through all)) e ∙ sym (base_sum all ranks r c)

pub get_set : {A : Type 0} (xs : List A) (c : ℕ) (x : A) (d : ℕ) (y : A) → slice_get (set xs c x) d ≡ Some y → ((d ≡ c) × (y ≡ x)) ⊎ (slice_get xs d ≡ Some y)
get_set [] c x d y e = inr e
get_set (z ∷ zs) zero x zero y e = inl (refl, cc)
get_set (z ∷ zs) zero x (suc d) y e = inr e
get_set (z ∷ zs) (suc c) x zero y e = inr e
get_set (z ∷ zs) (suc c) x (suc d) y e = elim (get_set zs c x d y e) [
  | inl h ↦ inl (ap suc h.0, h.1)
  | inr h ↦ inr h
]

-- one more that is known
pub known_more : (all : List ClassFile) (known : List (Option ℕ)) (c s : ℕ) → AreKnown all known → s ≡ base_of all c → AreKnown all (set known c (Some s))
known_more all known c s k e = record {
  each = λ d b h. elim (get_set known c (Some s) d (Some b) h) [
    | inl q ↦ let same : b ≡ s = some_is b s q.1 in same ∙ e ∙ ap (base_of all) (sym q.0)
    | inr q ↦ k.each d b q
  ];
}

-- before any is known
pub none_known : (all : List ClassFile) (n : ℕ) → AreKnown all (replicate n None)
none_known all n = record { each = λ c b h. absurd (none n c b h) }
  where
    none : (n c b : ℕ) → slice_get (replicate n None) c ≡ Some (Some b) → ⊥
    none zero c b h = absurd cc
    none (suc n) zero b h = absurd cc
    none (suc n) (suc c) b h = none n c b h
