-- Laws of the literals of a program.
use Rattle.std.proofs.Common.{◌≡◌, ℕ, ◌^◌, ◌<◌, ◌≤◌, Bool, true, ◌||◌, List, [], ◌∷◌, length, get_or, slice_get, Option, Some, None, ap, sym, ◌∙◌, refl, arith, inl, inr}
use Rattle.std.specs.List.{All, flat_map, list_any, IsDistinct}
use Rattle.std.specs.Cmp.{IsEquivalence}
use Rattle.std.proofs.lemmas.Bool.{cases_order, or_cases, or_left, or_right}
use Rattle.std.proofs.lemmas.List.Concat.{length-flat_map}
use Rattle.std.proofs.lemmas.List.Folds.{list_any-append}
use Rattle.std.proofs.lemmas.List.Sums.{sum_by-le}
use Rattle.std.proofs.lemmas.Map.Keys.{apart_from_distinct, any_passes_from_place}
use Rattle.std.proofs.lemmas.Map.Made.{length-le_from_is_member}
use Rattle.std.proofs.lemmas.Option.{slice_get_cases, slice_get_within, get_or_from_slice_get}
use Rattle.jvm_base.specs.declared.pool.PoolItem.{PoolItem}
use Rattle.jvm_base.specs.declared.pool.PoolItem.TheVariants.{Text}
use Rattle.jvm_base.specs.Words.{from}
use Rattle.class_format.specs.declared.class.ClassFile.{ClassFile}
use Rattle.code_table.specs.declared.op.Op.{Op}
use Rattle.code_table.specs.declared.op.Op.TheVariants.{Ldc}
use Rattle.class_names.specs.Classes.{codes_of}
use Rattle.class_names.specs.Known.{is_name}
use Rattle.numbering.specs.Seen.{is_seen}
use Rattle.program_image.specs.Condition.{Differ, the_text}
use Rattle.program_image.proofs.Signatures.{texts_decide, equivalence_of}
use Rattle.link_arrays.specs.Literals.{text_contents, contents_at, field_literals, op_literals, code_literals, file_literals, literals}
use Rattle.link_arrays.proofs.SeenLaws.{seen_items, once_distinct}

pub names_equivalent : IsEquivalence is_name
names_equivalent = equivalence_of is_name texts_decide

-- ---- they differ

-- no two of them are one, one before the other
apart : (xs : List (List ℕ)) → IsDistinct is_name xs → (i j : ℕ) (x y : List ℕ) → i < j → slice_get xs i ≡ Some x → slice_get xs j ≡ Some y → x ≡ y → ⊥
apart xs d i j x y h ex ey same =
    let one : get_or xs i x ≡ get_or xs j x = get_or_from_slice_get xs i x x ex ∙ same ∙ sym (get_or_from_slice_get xs j y x ey) in
    let fails = apart_from_distinct is_name xs i j x d h (slice_get_within xs j y ey) in
    let passes : is_name (get_or xs i x) (get_or xs j x) ≡ true = (texts_decide (get_or xs i x) (get_or xs j x)).1 one in
    absurd cc

-- no content is twice among the literals
pub contents_differ : (files : List ClassFile) → Differ the_text (literals files)
unfolding literals
contents_differ files i j x y ex ey same =
    let d : IsDistinct is_name (literals files) = once_distinct is_name names_equivalent (flat_map file_literals files) in
    elim (cases_order i j) [
      | inl same_place ↦ same_place
      | inr other ↦ elim other [
        | inl less ↦ absurd (apart (literals files) d i j x y less ex ey same)
        | inr more ↦ absurd (apart (literals files) d j i y x more ey ex (sym same))
      ]
    ]

-- ---- there are few of them

-- what follows from each item that passes follows where one passes
any_gives : {X : Type 0} (q : X → Bool) (b : Bool) → ((x : X) → q x ≡ true → b ≡ true) → (xs : List X) → list_any q xs ≡ true → b ≡ true
any_gives q b h [] e = absurd cc
any_gives q b h (x ∷ xs) e = elim (or_cases (q x) (list_any q xs) e) [ inl here ↦ h x here | inr later ↦ any_gives q b h xs later ]

-- a search in lists one behind the other
any_flat : {X A : Type 0} (p : A → Bool) (f : X → List A) (xs : List X) → list_any p (flat_map f xs) ≡ list_any (λ x. list_any p (f x)) xs
any_flat p f [] = refl
any_flat p f (x ∷ xs) = list_any-append p (f x) (flat_map f xs) ∙ ap (λ b. list_any p (f x) || b) (any_flat p f xs)

-- what follows from each of some lists follows from all
flat_gives : {X : Type 0} (z : List ℕ) (b : Bool) (f : X → List (List ℕ)) → ((x : X) → is_seen is_name (f x) z ≡ true → b ≡ true) → (xs : List X) → is_seen is_name (flat_map f xs) z ≡ true → b ≡ true
flat_gives z b f h xs e = any_gives (λ x. is_seen is_name (f x) z) b h xs (sym (any_flat (is_name z) f xs) ∙ e)

-- the contents of all String items of a pool
pool_contents : List PoolItem → List (List ℕ)
pool_contents pool = flat_map (λ item. text_contents pool (Some item)) pool

-- what an index names is one of them
at_in_pool : (pool : List PoolItem) (i : ℕ) (z : List ℕ) → is_seen is_name (contents_at pool i) z ≡ true → is_seen is_name (pool_contents pool) z ≡ true
unfolding pool_contents
at_in_pool pool i z e = elim (slice_get_cases pool i).1 [
  | inl w ↦
      let here : is_seen is_name (text_contents pool (Some w.0)) z ≡ true = ap (λ o. is_seen is_name (text_contents pool o) z) (sym w.2) ∙ e in
      any_flat (is_name z) (λ item. text_contents pool (Some item)) pool ∙ any_passes_from_place (λ item. is_seen is_name (text_contents pool (Some item)) z) pool i w.0 w.2 here
  | inr w ↦ (let none : is_seen is_name [] z ≡ true = ap (λ o. is_seen is_name (text_contents pool o) z) (sym w.1) ∙ e in absurd cc)
]

constant_in_pool : (pool : List PoolItem) (o : Option ℕ) (z : List ℕ) → is_seen is_name (from [] (contents_at pool) o) z ≡ true → is_seen is_name (pool_contents pool) z ≡ true
constant_in_pool pool (Some i) z e = at_in_pool pool i z e
constant_in_pool pool None z e = absurd cc

op_in_pool : (pool : List PoolItem) (op : Op) (z : List ℕ) → is_seen is_name (op_literals pool op) z ≡ true → is_seen is_name (pool_contents pool) z ≡ true
op_in_pool pool (Ldc i) z e = at_in_pool pool i z e
op_in_pool pool op z e = absurd cc

-- so is what a file has as literals
file_in_pool : (f : ClassFile) (z : List ℕ) → is_seen is_name (file_literals f) z ≡ true → is_seen is_name (pool_contents f.pool) z ≡ true
file_in_pool f z e =
    let b = is_seen is_name (pool_contents f.pool) z in
    elim (or_cases (is_seen is_name (flat_map (field_literals f.pool) f.fields) z) (is_seen is_name (flat_map (code_literals f.pool) (codes_of f)) z) (sym (list_any-append (is_name z) (flat_map (field_literals f.pool) f.fields) (flat_map (code_literals f.pool) (codes_of f))) ∙ e)) [
      | inl s ↦ flat_gives z b (field_literals f.pool) (λ x h. constant_in_pool f.pool x.constant z h) f.fields s
      | inr s ↦ flat_gives z b (code_literals f.pool) (λ code h. flat_gives z b (λ p. op_literals f.pool p.op) (λ p k. op_in_pool f.pool p.op z k) (from [] (λ c. c.ops) code) h) (codes_of f) s
    ]

-- of all files
all_in_pools : (files : List ClassFile) (z : List ℕ) → is_seen is_name (flat_map file_literals files) z ≡ true → is_seen is_name (flat_map (λ f. pool_contents f.pool) files) z ≡ true
all_in_pools [] z e = e
all_in_pools (f ∷ files) z e =
    list_any-append (is_name z) (pool_contents f.pool) (flat_map (λ g. pool_contents g.pool) files)
    ∙ elim (or_cases (is_seen is_name (file_literals f) z) (is_seen is_name (flat_map file_literals files) z) (sym (list_any-append (is_name z) (file_literals f) (flat_map file_literals files)) ∙ e)) [
      | inl s ↦ or_left _ _ (file_in_pool f z s)
      | inr s ↦ or_right (is_seen is_name (pool_contents f.pool) z) _ (all_in_pools files z s)
    ]

-- at most one for each item
few_in_pool : (pool : List PoolItem) → length (pool_contents pool) ≤ length pool
unfolding pool_contents
few_in_pool pool =
    let one : (item : PoolItem) → length (text_contents pool (Some item)) ≤ 1 = at_most_one pool in
    let sum = sum_by-le (λ item. length (text_contents pool (Some item))) 1 pool (λ i d h. one (get_or pool i d)) in
    let all = length-flat_map (λ item. text_contents pool (Some item)) pool in
    omega arith
  where
    at_most_one : (pool : List PoolItem) (item : PoolItem) → length (text_contents pool (Some item)) ≤ 1
    at_most_one pool (Text text) = omega arith
    at_most_one pool item = omega arith

-- at most 1,024 files, whose pools have counts of two bytes, have at most so many literals
pub few_literals : (files : List ClassFile) → length files ≤ 1024 → All (λ f. length f.pool < 2 ^ 16) files → length (literals files) ≤ 2 ^ 26
unfolding literals
few_literals files few pools =
    let contents : List (List ℕ) = flat_map (λ f. pool_contents f.pool) files in
    let d : IsDistinct is_name (literals files) = once_distinct is_name names_equivalent (flat_map file_literals files) in
    let among : (z : List ℕ) → is_seen is_name (literals files) z ≡ true → is_seen is_name contents z ≡ true = λ z e. all_in_pools files z (sym (seen_items is_name names_equivalent [] (flat_map file_literals files) z) ∙ e) in
    let count = length-le_from_is_member names_equivalent (literals files) contents d among in
    let all = length-flat_map (λ f. pool_contents f.pool) files in
    let each = sum_by-le (λ f. length (pool_contents f.pool)) 65536 files (λ k d h. (let a = few_in_pool (get_or files k d).pool in let b = pools k d h in omega arith)) in
    omega arith
