-- What is marked is there, and adding it again changes nothing.
use Rattle.std.proofs.Common.{◌≡◌, ℕ, zero, suc, ◌≤◌, Bool, true, false, ◌||◌, List, [], ◌∷◌, ◌++◌, length, Option, Some, None, Ok, slice_set, ap, sym, ◌∙◌, subst, refl, arith, ◌⊎◌, inl, inr}
use Rattle.std.specs.Prelude.{option_map, replicate, if◌then◌else◌}
use Rattle.std.specs.Cmp.{IsEquivalence}
use Rattle.std.specs.List.{list_all}
use Rattle.std.proofs.lemmas.Bool.{and_from, and_parts, or_left, or_right}
use Rattle.jvm_base.specs.declared.desc.Desc.{Desc}
use Rattle.jvm_base.specs.declared.pool.PoolItem.{PoolItem}
use Rattle.jvm_base.specs.Words.{from}
use Rattle.constant_pool.specs.Items.{class_at}
use Rattle.code_table.specs.declared.op.Op.{Op}
use Rattle.code_table.specs.declared.op.Op.TheVariants.{AnewArray, Cast, MultiNewArray}
use Rattle.class_names.specs.Known.{is_name}
use Rattle.class_names.specs.Texts.{text_in}
use Rattle.numbering.specs.Seen.{is_seen, with_item}
use Rattle.program_image.specs.Signatures.{same_desc}
use Rattle.link_arrays.specs.declared.marks.Key.{Key}
use Rattle.link_arrays.specs.declared.marks.Keys.{Keys}
use Rattle.link_arrays.specs.declared.marks.Naming.{Naming}
use Rattle.link_arrays.specs.declared.marks.Naming.TheVariants.{Itself, ArraysOf}
use Rattle.link_arrays.specs.Arrays.{array_named, array_over, with_parts, op_types}
use Rattle.link_arrays.specs.Counting.{counted, AreSoFar}
use Rattle.link_arrays.specs.Marks.{is_marked, key_of, no_keys, has_key, with_key, with_marked, marks_of, key_types, types_by, AreAdded, AreContents}
use Rattle.link_arrays.specs.Seen.{with_items}
use Rattle.link_arrays.proofs.Counted.{counted_few, counted_ok}
use Rattle.link_arrays.proofs.LiteralLaws.{names_equivalent}
use Rattle.link_arrays.proofs.SeenLaws.{seen_one, seen_items}
use Rattle.link_arrays.proofs.Types.{descs_equivalent}

-- ---- marks

-- past the end nothing is set
pub set_past : (marks : List Bool) (i : ℕ) (b : Bool) → length marks ≤ i → slice_set marks i b ≡ marks
set_past [] i b h = refl
set_past (m ∷ marks) zero b h = absurd (omega arith)
set_past (m ∷ marks) (suc i) b h = ap (λ z. m ∷ z) (set_past marks i b (omega arith))

-- nothing is marked at first
none_marked : (n t : ℕ) → is_marked (replicate n false) t ≡ true → ⊥
none_marked zero t e = absurd cc
none_marked (suc n) zero e = absurd cc
none_marked (suc n) (suc t) e = none_marked n t e

-- what is marked once one more is was marked before, or is that one
marked_before : (marks : List Bool) (i t : ℕ) → is_marked (slice_set marks i true) t ≡ true → (is_marked marks t ≡ true) ⊎ (t ≡ i)
marked_before [] i t e = inl e
marked_before (m ∷ marks) zero zero e = inr refl
marked_before (m ∷ marks) zero (suc t) e = inl e
marked_before (m ∷ marks) (suc i) zero e = inl e
marked_before (m ∷ marks) (suc i) (suc t) e = elim (marked_before marks i t e) [
  | inl h ↦ inl h
  | inr h ↦ inr (ap suc h)
]

-- ---- what is there

-- items that are all there change nothing
all_kept : {A : Type 0} (E : A → A → Bool) (items xs : List A) → list_all (is_seen E items) xs ≡ true → with_items E items xs ≡ items
all_kept E items [] h = refl
all_kept E items (x ∷ xs) h =
    let parts = and_parts (is_seen E items x) (list_all (is_seen E items) xs) h in
    ap (λ b. with_items E (if b then items else items ++ x ∷ []) xs) parts.0 ∙ all_kept E items xs parts.1

-- they stay so
all_stay : {A : Type 0} (E : A → A → Bool) → IsEquivalence E → (items more xs : List A) → list_all (is_seen E items) xs ≡ true → list_all (is_seen E (with_items E items more)) xs ≡ true
all_stay E laws items more [] h = refl
all_stay E laws items more (x ∷ xs) h =
    let parts = and_parts (is_seen E items x) (list_all (is_seen E items) xs) h in
    and_from (is_seen E (with_items E items more) x) _ (seen_items E laws items more x ∙ ap (λ b. b || is_seen E more x) parts.0) (all_stay E laws items more xs parts.1)

-- what was added is there
all_added : {A : Type 0} (E : A → A → Bool) → IsEquivalence E → (items xs : List A) → list_all (is_seen E (with_items E items xs)) xs ≡ true
all_added E laws items [] = refl
all_added E laws items (x ∷ xs) =
    let one : is_seen E (with_item E items x) x ≡ true = seen_one E laws items x x ∙ or_right (is_seen E items x) (E x x) (laws.refl x) in
    and_from (is_seen E (with_items E (with_item E items x) xs) x) _ (seen_items E laws (with_item E items x) xs x ∙ ap (λ b. b || is_seen E xs x) one) (all_added E laws (with_item E items x) xs)

-- ---- the types of keys

-- no key, no type
pub none_added : (pool : List PoolItem) (types : List Desc) → AreAdded pool (no_keys pool) types
none_added pool types = record { each = λ key h. by key.naming key.text h }
  where
    by : (n : Naming) (t : ℕ) → is_marked (marks_of (no_keys pool) n) t ≡ true → list_all (is_seen same_desc types) (types_by n (text_in pool t)) ≡ true
    by Itself t h = absurd (none_marked (length pool) t h)
    by ArraysOf t h = absurd (none_marked (length pool) t h)

-- an instruction's types are those of its key
key_named : (pool : List PoolItem) (op : Op) (key : Key) → key_of pool op ≡ Some key → op_types pool op ≡ key_types pool key
key_named pool (AnewArray item) key e = by (class_at pool item) e
  where
    by : (o : Option ℕ) → option_map (λ t. record { naming = ArraysOf; text = t }) o ≡ Some key → from [] with_parts (array_over (from [] (text_in pool) o)) ≡ types_by key.naming (text_in pool key.text)
    by None h = absurd cc
    by (Some t) h = let k : record { naming = ArraysOf; text = t } ≡ key = cc in ap (key_types pool) k
key_named pool (MultiNewArray item dims) key e = by (class_at pool item) e
  where
    by : (o : Option ℕ) → option_map (λ t. record { naming = Itself; text = t }) o ≡ Some key → from [] with_parts (array_named (from [] (text_in pool) o)) ≡ types_by key.naming (text_in pool key.text)
    by None h = absurd cc
    by (Some t) h = let k : record { naming = Itself; text = t } ≡ key = cc in ap (key_types pool) k
key_named pool (Cast op item) key e = by (class_at pool item) e
  where
    by : (o : Option ℕ) → option_map (λ t. record { naming = Itself; text = t }) o ≡ Some key → from [] with_parts (array_named (from [] (text_in pool) o)) ≡ types_by key.naming (text_in pool key.text)
    by None h = absurd cc
    by (Some t) h = let k : record { naming = Itself; text = t } ≡ key = cc in ap (key_types pool) k
key_named pool _ key e = absurd cc

-- a key that is there adds nothing
pub has_added : (declared : ℕ) (pool : List PoolItem) (keys : Keys) (types : List Desc) (op : Op) (key : Key) → AreSoFar declared types → AreAdded pool keys types → key_of pool op ≡ Some key → has_key keys key ≡ true → counted declared (with_items same_desc types (op_types pool op)) ≡ Ok types
has_added declared pool keys types op key s are e h =
    ap (counted declared) (ap (with_items same_desc types) (key_named pool op key e) ∙ all_kept same_desc types (key_types pool key) (are.each key h))
    ∙ counted_few declared types s.few

-- more types leave those of the keys there
pub stay_added : (declared : ℕ) (pool : List PoolItem) (keys : Keys) (types more new : List Desc) → AreAdded pool keys types → counted declared (with_items same_desc types more) ≡ Ok new → AreAdded pool keys new
stay_added declared pool keys types more new are done =
    let ok = counted_ok declared (with_items same_desc types more) new done in
    subst (AreAdded pool keys) ok.0 (record { each = λ key h. all_stay same_desc descs_equivalent types more (key_types pool key) (are.each key h) })

-- a key more
key_before : (keys : Keys) (key other : Key) → has_key (with_key keys key) other ≡ true → (has_key keys other ≡ true) ⊎ (other ≡ key)
key_before keys key other h = by key.naming other.naming refl refl h
  where
    by : (n m : Naming) → n ≡ key.naming → m ≡ other.naming → is_marked (marks_of (with_marked keys n key.text) m) other.text ≡ true → (is_marked (marks_of keys m) other.text ≡ true) ⊎ (other ≡ key)
    by Itself Itself en em q = elim (marked_before keys.itself key.text other.text q) [
      | inl b ↦ inl b
      | inr s ↦ inr (ap (λ (k : Naming). record { naming = k; text = other.text }) (sym em ∙ en) ∙ ap (λ (t : ℕ). record { naming = key.naming; text = t }) s)
    ]
    by ArraysOf ArraysOf en em q = elim (marked_before keys.arrays_of key.text other.text q) [
      | inl b ↦ inl b
      | inr s ↦ inr (ap (λ (k : Naming). record { naming = k; text = other.text }) (sym em ∙ en) ∙ ap (λ (t : ℕ). record { naming = key.naming; text = t }) s)
    ]
    by Itself ArraysOf en em q = inl q
    by ArraysOf Itself en em q = inl q

-- once its types are added
pub more_added : (declared : ℕ) (pool : List PoolItem) (keys : Keys) (types new : List Desc) (op : Op) (key : Key) → AreAdded pool keys types → key_of pool op ≡ Some key → counted declared (with_items same_desc types (op_types pool op)) ≡ Ok new → AreAdded pool (with_key keys key) new
more_added declared pool keys types new op key are e done =
    let ok = counted_ok declared (with_items same_desc types (op_types pool op)) new done in
    let whole : with_items same_desc types (key_types pool key) ≡ new = ap (with_items same_desc types) (sym (key_named pool op key e)) ∙ ok.0 in
    subst (AreAdded pool (with_key keys key)) whole (record {
      each = λ other h. elim (key_before keys key other h) [
        | inl b ↦ all_stay same_desc descs_equivalent types (key_types pool key) (key_types pool other) (are.each other b)
        | inr s ↦ subst (λ (k : Key). list_all (is_seen same_desc (with_items same_desc types (key_types pool key))) (key_types pool k) ≡ true) (sym s) (all_added same_desc descs_equivalent types (key_types pool key))
      ];
    })

-- ---- the contents of texts

pub no_contents : (pool : List PoolItem) (contents : List (List ℕ)) → AreContents pool (replicate (length pool) false) contents
no_contents pool contents = record { each = λ t h. absurd (none_marked (length pool) t h) }

-- a content that is there adds nothing
pub has_content : (pool : List PoolItem) (marks : List Bool) (contents : List (List ℕ)) (t : ℕ) → AreContents pool marks contents → is_marked marks t ≡ true → contents ≡ with_item is_name contents (text_in pool t)
has_content pool marks contents t are h = sym (ap (λ b. if b then contents else contents ++ text_in pool t ∷ []) (are.each t h))

-- a text more
pub more_contents : (pool : List PoolItem) (marks : List Bool) (contents new : List (List ℕ)) (t : ℕ) → AreContents pool marks contents → new ≡ with_item is_name contents (text_in pool t) → AreContents pool (slice_set marks t true) new
more_contents pool marks contents new t are e = subst (AreContents pool (slice_set marks t true)) (sym e) (record {
  each = λ u h. seen_one is_name names_equivalent contents (text_in pool t) (text_in pool u) ∙ elim (marked_before marks t u h) [
    | inl b ↦ or_left (is_seen is_name contents (text_in pool u)) _ (are.each u b)
    | inr s ↦ or_right (is_seen is_name contents (text_in pool u)) _ (ap (λ k. is_name (text_in pool k) (text_in pool t)) s ∙ names_equivalent.refl (text_in pool t))
  ];
})
