-- Laws of array types as rows.
use Rattle.std.proofs.Common.{◌≡◌, ℕ, zero, suc, ◌+◌, ◌<◌, ◌==◌, Bool, true, false, not, ◌||◌, cond, nat_lt, nat_eq, List, [], ◌∷◌, ◌++◌, length, map, Option, Some, None, position, get_or, slice_get, slice_index_or, take, drop, ◌-◌, ◌≤◌, refl, sym, ap, ◌∙◌, subst, arith}
use Rattle.std.specs.Prelude.{◌&&◌, if◌then◌else◌}
use Rattle.std.specs.Bool.{Decides}
use Rattle.std.specs.Cmp.{IsEquivalence}
use Rattle.std.specs.List.{list_any, position_or_len}
use Rattle.std.proofs.lemmas.Bool.Decides.{nat_tests}
use Rattle.std.proofs.lemmas.List.{length-map, map-append, take_more}
use Rattle.std.proofs.lemmas.List.Quantifiers.{position-Some}
use Rattle.std.proofs.lemmas.Option.{slice_get-get_or}
use Rattle.jvm_base.specs.declared.desc.Desc.{Desc}
use Rattle.jvm_base.specs.declared.desc.Elem.{Elem}
use Rattle.jvm_base.specs.declared.desc.Elem.TheVariants.{Byte}
use Rattle.jvm_base.specs.Letters.{array_letter}
use Rattle.jvm_base.specs.Descriptors.{desc_text, elem_text}
use Rattle.jvm_base.specs.Words.{from}
use Rattle.std.proofs.Math.ListN.{replicate}
use Rattle.numbering.specs.Seen.{is_seen, with_item}
use Rattle.numbering.proofs.Laws.{number_kept, number_tells}
use Rattle.numbering.proofs.Places.{number_map}
use Rattle.program_image.specs.declared.info.ClassInfo.{ClassInfo}
use Rattle.program_image.specs.Signatures.{same_desc, same_elem}
use Rattle.program_image.proofs.Signatures.{equivalence_of}
use Rattle.link_arrays.specs.Arrays.{array}
use Rattle.link_arrays.specs.declared.desc_set.ElemShare.{ElemShare}
use Rattle.link_arrays.specs.declared.desc_set.ArrayType.{ArrayType}
use Rattle.link_arrays.specs.Sets.{Row, same_row, elem_at, type_of, types_of, IsRow, AreRows, share_of, array_type, shared_type, AreShared, most_dims}
use Rattle.link_arrays.proofs.Types.{descs_told}

-- ---- element types

elems_told : (a b : Elem) → Decides (same_elem a b) (a ≡ b)
elems_told a b = (
  λ e. ap (λ d. d.elem) ((descs_told (array 0 a) (array 0 b)).0 e),
  λ e. (descs_told (array 0 a) (array 0 b)).1 (ap (array 0) e),
)

pub elems_equivalent : IsEquivalence same_elem
elems_equivalent = equivalence_of same_elem elems_told

-- what stands at the place of an element type is that type
pub elem_found : (elems : List Elem) (e : Elem) (i : ℕ) → position (same_elem e) elems ≡ Some i → elem_at elems i ≡ e
elem_found elems e i h =
    let p = position-Some (same_elem e) elems i Byte h in
    let same : e ≡ get_or elems i Byte = (elems_told e (get_or elems i Byte)).0 p.1 in
    ap (from Byte (λ x. x)) (slice_get-get_or elems i Byte p.0) ∙ sym same

-- a list as it is
same_list : (xs : List Elem) → map (λ x. x) xs ≡ xs
same_list [] = refl
same_list (x ∷ xs) = ap (λ ys. x ∷ ys) (same_list xs)

-- the number that is answered is the place of the element type
pub elem_number : (elems new : List Elem) (e copy : Elem) (same : Elem → Elem → Bool) (n : ℕ) → same ≡ same_elem → copy ≡ e → n ≡ position_or_len (same copy) elems → new ≡ with_item same elems copy → n < length new → position (same_elem e) new ≡ Some n
elem_number elems new e copy same n s c at is within =
    let now : new ≡ with_item same_elem elems e = is ∙ ap (λ t. with_item t elems copy) s ∙ ap (with_item same_elem elems) c in
    let first : n ≡ position_or_len (same_elem e) elems = at ∙ ap (λ t. position_or_len (t copy) elems) s ∙ ap (λ x. position_or_len (same_elem x) elems) c in
    ap (position (same_elem e)) (now ∙ sym (same_list (with_item same_elem elems e)))
    ∙ number_map (λ x. x) same_elem elems e n ((elems_told e e).1 refl) first (subst (λ z. n < length z) now within)

-- ---- one more element type

-- what stands in a list stands there with one more behind it
get_before : (xs ys : List Elem) (i : ℕ) → i < length xs → slice_get (xs ++ ys) i ≡ slice_get xs i
get_before [] ys i h = absurd (omega arith)
get_before (x ∷ xs) ys zero h = refl
get_before (x ∷ xs) ys (suc i) h = get_before xs ys i (omega arith)

-- a row's element type stands where it stood
row_elem : (elems : List Elem) (e : Elem) (row : Row) → IsRow elems row → elem_at (with_item same_elem elems e) row.1 ≡ elem_at elems row.1
row_elem elems e row h = by (is_seen same_elem elems e)
  where
    by : (b : Bool) → elem_at (if b then elems else elems ++ e ∷ []) row.1 ≡ elem_at elems row.1
    by true = refl
    by false = ap (from Byte (λ x. x)) (get_before elems (e ∷ []) row.1 (position-Some (same_elem (elem_at elems row.1)) elems row.1 Byte h).0)

row_kept : (elems : List Elem) (e : Elem) (row : Row) → IsRow elems row → IsRow (with_item same_elem elems e) row
row_kept elems e row h =
    ap (λ x. position (same_elem x) (with_item same_elem elems e)) (row_elem elems e row h)
    ∙ number_kept same_elem elems (elem_at elems row.1) e row.1 h

pub rows_kept : (elems : List Elem) (e : Elem) (rows : List Row) → AreRows elems rows → AreRows (with_item same_elem elems e) rows
rows_kept elems e [] h = tt
rows_kept elems e (row ∷ rows) h = (row_kept elems e row h.0, rows_kept elems e rows h.1)

pub types_kept : (elems : List Elem) (e : Elem) (rows : List Row) → AreRows elems rows → types_of (with_item same_elem elems e) rows ≡ types_of elems rows
types_kept elems e [] h = refl
types_kept elems e (row ∷ rows) h =
    ap (λ x. array row.0 x ∷ types_of (with_item same_elem elems e) rows) (row_elem elems e row h.0)
    ∙ ap (λ ts. type_of elems row ∷ ts) (types_kept elems e rows h.1)

-- the same, where the element types have grown so
pub rows_grown : (elems new : List Elem) (e : Elem) (rows : List Row) → new ≡ with_item same_elem elems e → AreRows elems rows → AreRows new rows
rows_grown elems new e rows is h = subst (λ z. AreRows z rows) (sym is) (rows_kept elems e rows h)

pub types_grown : (elems new : List Elem) (e : Elem) (rows : List Row) → new ≡ with_item same_elem elems e → AreRows elems rows → types_of new rows ≡ types_of elems rows
types_grown elems new e rows is h = ap (λ z. types_of z rows) is ∙ types_kept elems e rows h

-- ---- one more row

-- the test of rows is the one of their types
row_same : (elems : List Elem) (e : Elem) (d i : ℕ) → position (same_elem e) elems ≡ Some i → (row : Row) → IsRow elems row → same_row (d, i) row ≡ same_desc (array d e) (type_of elems row)
row_same elems e d i at row h = ap (λ b. (d == row.0) && b) (number_tells elems_equivalent elems e (elem_at elems row.1) i row.1 at h)

any_row : (elems : List Elem) (e : Elem) (d i : ℕ) → position (same_elem e) elems ≡ Some i → (rows : List Row) → AreRows elems rows → is_seen same_row rows (d, i) ≡ is_seen same_desc (types_of elems rows) (array d e)
any_row elems e d i at [] h = refl
any_row elems e d i at (row ∷ rows) h =
    ap (λ b. b || is_seen same_row rows (d, i)) (row_same elems e d i at row h.0)
    ∙ ap (λ b. same_desc (array d e) (type_of elems row) || b) (any_row elems e d i at rows h.1)

pub row_seen : (elems : List Elem) (e : Elem) (d i : ℕ) (rows : List Row) → position (same_elem e) elems ≡ Some i → AreRows elems rows → is_seen same_row rows (d, i) ≡ is_seen same_desc (types_of elems rows) (array d e)
row_seen elems e d i rows at h = any_row elems e d i at rows h

pub row_added : (elems : List Elem) (e : Elem) (d i : ℕ) (rows : List Row) → position (same_elem e) elems ≡ Some i → AreRows elems rows → types_of elems (with_item same_row rows (d, i)) ≡ with_item same_desc (types_of elems rows) (array d e)
row_added elems e d i rows at h =
    by (is_seen same_row rows (d, i))
    ∙ ap (λ b. if b then types_of elems rows else types_of elems rows ++ array d e ∷ []) (any_row elems e d i at rows h)
  where
    by : (b : Bool) → types_of elems (if b then rows else rows ++ (d, i) ∷ []) ≡ (if b then types_of elems rows else types_of elems rows ++ array d e ∷ [])
    by true = refl
    by false = map-append (type_of elems) rows ((d, i) ∷ []) ∙ ap (λ x. types_of elems rows ++ array d x ∷ []) (elem_found elems e i at)

-- the rows with one more
pub rows_added : (elems : List Elem) (e : Elem) (d i : ℕ) (rows : List Row) → position (same_elem e) elems ≡ Some i → AreRows elems rows → AreRows elems (with_item same_row rows (d, i))
rows_added elems e d i rows at h = by (is_seen same_row rows (d, i))
  where
    own : IsRow elems (d, i)
    own = ap (λ x. position (same_elem x) elems) (elem_found elems e i at) ∙ at

    behind : (rs : List Row) → AreRows elems rs → AreRows elems (rs ++ (d, i) ∷ [])
    behind [] r = (own, tt)
    behind (row ∷ rs) r = (r.0, behind rs r.1)

    by : (b : Bool) → AreRows elems (if b then rows else rows ++ (d, i) ∷ [])
    by true = h
    by false = behind rows h

-- ---- the place of a type

row_place : (elems : List Elem) (e : Elem) (d i : ℕ) → position (same_elem e) elems ≡ Some i → (rows : List Row) → AreRows elems rows → position_or_len (same_row (d, i)) rows ≡ position_or_len (same_desc (array d e)) (types_of elems rows)
row_place elems e d i at [] h = refl
row_place elems e d i at (row ∷ rows) h =
    ap (λ n. cond (not (same_row (d, i) row)) (1 + n) 0) (row_place elems e d i at rows h.1)
    ∙ ap (λ b. cond (not b) (1 + position_or_len (same_desc (array d e)) (types_of elems rows)) 0) (row_same elems e d i at row h.0)

place_below : ℕ → ℕ → Option ℕ
place_below n m = cond (nat_lt n m) (Some n) None

-- a type stands where its row does
pub place_some : (elems : List Elem) (e : Elem) (d i : ℕ) (rows : List Row) → position (same_elem e) elems ≡ Some i → AreRows elems rows → position (same_row (d, i)) rows ≡ position (same_desc (array d e)) (types_of elems rows)
unfolding place_below
place_some elems e d i rows at h =
    ap (λ n. place_below n (length rows)) (row_place elems e d i at rows h)
    ∙ ap (place_below (position_or_len (same_desc (array d e)) (types_of elems rows))) (sym (length-map rows (type_of elems)))

-- a type of an element type that isn't there isn't there
row_none : (elems : List Elem) (e : Elem) (d : ℕ) → position (same_elem e) elems ≡ None → (row : Row) → IsRow elems row → same_desc (array d e) (type_of elems row) ≡ false
row_none elems e d at row h = by (d == row.0) (same_elem e (elem_at elems row.1)) refl
  where
    by : (a b : Bool) → same_elem e (elem_at elems row.1) ≡ b → (a && b) ≡ false
    by false b q = refl
    by true false q = refl
    by true true q =
        let same : e ≡ elem_at elems row.1 = (elems_told e (elem_at elems row.1)).0 q in
        let none : Option ℕ = None in
        let clash : none ≡ Some row.1 = sym at ∙ ap (λ x. position (same_elem x) elems) same ∙ h in
        absurd cc

none_place : (elems : List Elem) (e : Elem) (d : ℕ) → position (same_elem e) elems ≡ None → (rows : List Row) → AreRows elems rows → position_or_len (same_desc (array d e)) (types_of elems rows) ≡ length (types_of elems rows)
none_place elems e d at [] h = refl
none_place elems e d at (row ∷ rows) h =
    ap (λ b. cond (not b) (1 + position_or_len (same_desc (array d e)) (types_of elems rows)) 0) (row_none elems e d at row h.0)
    ∙ ap (λ n. 1 + n) (none_place elems e d at rows h.1)
    ∙ (let q : 1 + length (types_of elems rows) ≡ suc (length (types_of elems rows)) = omega arith in q)

pub place_none : (elems : List Elem) (e : Elem) (d : ℕ) (rows : List Row) → position (same_elem e) elems ≡ None → AreRows elems rows → None ≡ position (same_desc (array d e)) (types_of elems rows)
unfolding place_below
place_none elems e d rows at h =
    let n = length (types_of elems rows) in
    let past : nat_lt n n ≡ false = grind (arith, nat_tests) in
    let none : place_below n n ≡ None = ap (λ b. cond b (Some n) None) past in
    sym (ap (λ k. place_below k n) (none_place elems e d at rows h) ∙ none)

-- ---- what is shared

-- one more share
pub shares_more : (es : List Elem) (i : ℕ) (olds news : List ElemShare) (e : Elem) (s : ElemShare) → i < length es → e ≡ get_or es i e → olds ≡ map share_of (take i es) → s ≡ share_of e → news ≡ olds ++ s ∷ [] → news ≡ map share_of (take (i + 1) es)
shares_more es i olds news e s h at before one more =
    more ∙ ap (λ z. z ++ s ∷ []) before ∙ ap (λ z. map share_of (take i es) ++ z ∷ []) (one ∙ ap share_of at)
    ∙ sym (ap (map share_of) (take_more es i e h) ∙ map-append share_of (take i es) (get_or es i e ∷ []))

-- one more type
pub types_more : (shares : List ElemShare) (rows : List Row) (i : ℕ) (olds news : List ArrayType) (row : Row) (t : ArrayType) → i < length rows → row ≡ get_or rows i row → olds ≡ map (shared_type shares) (take i rows) → t ≡ shared_type shares row → news ≡ olds ++ t ∷ [] → news ≡ map (shared_type shares) (take (i + 1) rows)
types_more shares rows i olds news row t h at before one more =
    more ∙ ap (λ z. z ++ t ∷ []) before ∙ ap (λ z. map (shared_type shares) (take i rows) ++ z ∷ []) (one ∙ ap (shared_type shares) at)
    ∙ sym (ap (map (shared_type shares)) (take_more rows i row h) ∙ map-append (shared_type shares) (take i rows) (get_or rows i row ∷ []))

-- a share of all stands at the place of its element type
share_at : (es : List Elem) (i : ℕ) → i < length es → slice_index_or (map share_of es) i (share_of Byte) ≡ share_of (elem_at es i)
share_at [] i h = absurd (omega arith)
share_at (e ∷ es) zero h = refl
share_at (e ∷ es) (suc i) h = share_at es i (omega arith)

row_within : (elems : List Elem) (row : Row) → IsRow elems row → row.1 < length elems
row_within elems row h = (position-Some (same_elem (elem_at elems row.1)) elems row.1 Byte h).0

-- what each row shares is there
pub rows_shared : (elems : List Elem) (shares : List ElemShare) (rows : List Row) → shares ≡ map share_of elems → AreRows elems rows → AreShared shares rows
rows_shared elems shares [] s h k d l = absurd (omega arith)
rows_shared elems shares (row ∷ rows) s h zero d l =
    let w = row_within elems row h.0 in
    let n : length shares ≡ length elems = ap length s ∙ length-map elems share_of in
    omega arith
rows_shared elems shares (row ∷ rows) s h (suc k) d l = rows_shared elems shares rows s h.1 k d (omega arith)

-- the types of all rows
pub types_shared : (elems : List Elem) (shares : List ElemShare) (rows : List Row) → shares ≡ map share_of elems → AreRows elems rows → map (shared_type shares) rows ≡ map array_type (types_of elems rows)
types_shared elems shares [] s h = refl
types_shared elems shares (row ∷ rows) s h =
    let one : shared_type shares row ≡ array_type (type_of elems row) =
    ap (λ z. the_type row.0 (slice_index_or z row.1 (share_of Byte))) s ∙ ap (the_type row.0) (share_at elems row.1 (row_within elems row h.0)) in
    ap (λ t. t ∷ map (shared_type shares) rows) one ∙ ap (λ ts. array_type (type_of elems row) ∷ ts) (types_shared elems shares rows s h.1)
  where
    the_type : ℕ → ElemShare → ArrayType
    the_type d s = record { dims = d; share = s }

-- ---- names

-- the end of a text of so many brackets more
dropped : (k n : ℕ) (t : List ℕ) → drop k (replicate (k + n) array_letter ++ t) ≡ replicate n array_letter ++ t
dropped zero n t = let q : 0 + n ≡ n = omega arith in ap (λ m. replicate m array_letter ++ t) q
dropped (suc k) n t = let q : suc k + n ≡ suc (k + n) = omega arith in ap (λ m. drop (suc k) (replicate m array_letter ++ t)) q ∙ dropped k n t

-- the name of an array class is the end of that of most dimensions
name_end : (d : Desc) → d.dims ≤ most_dims → drop (most_dims - d.dims) (desc_text (array most_dims d.elem)) ≡ desc_text d
name_end d h =
    let parts : most_dims ≡ (most_dims - d.dims) + d.dims = omega arith in
    ap (λ n. drop (most_dims - d.dims) (replicate n array_letter ++ elem_text d.elem)) parts
    ∙ dropped (most_dims - d.dims) d.dims (elem_text d.elem)

pub named_end : (a : ArrayType) (d : Desc) → a ≡ array_type d → a.dims ≤ most_dims → drop (most_dims - a.dims) a.share.text ≡ desc_text d
named_end a d e h =
    let dims : a.dims ≡ d.dims = ap (λ x. x.dims) e in
    ap (λ n. drop (most_dims - n) a.share.text) dims
    ∙ ap (λ x. drop (most_dims - d.dims) x.share.text) e
    ∙ name_end d (omega arith)

-- ---- classes

typed_at : (ds : List Desc) (i : ℕ) (t : ArrayType) (d0 : Desc) → i < length ds → get_or (map array_type ds) i t ≡ array_type (get_or ds i d0)
typed_at [] i t d0 h = absurd (omega arith)
typed_at (d ∷ ds) zero t d0 h = refl
typed_at (d ∷ ds) (suc i) t d0 h = typed_at ds i t d0 (omega arith)

-- one more class
pub classes_more : (f : Desc → ClassInfo) (arrays : List Desc) (items : List ArrayType) (i : ℕ) (olds news : List ClassInfo) (t : ArrayType) (class : ClassInfo) → items ≡ map array_type arrays → i < length items → t ≡ get_or items i t → olds ≡ map f (take i arrays) → ((d : Desc) → t ≡ array_type d → class ≡ f d) → news ≡ olds ++ class ∷ [] → news ≡ map f (take (i + 1) arrays)
classes_more f arrays items i olds news t class es h at before one more =
    let n : length items ≡ length arrays = ap length es ∙ length-map arrays array_type in
    let within : i < length arrays = omega arith in
    let d0 = array 0 Byte in
    let d = get_or arrays i d0 in
    let typed : t ≡ array_type d = at ∙ ap (λ z. get_or z i t) es ∙ typed_at arrays i t d0 within in
    more ∙ ap (λ z. z ++ class ∷ []) before ∙ ap (λ z. map f (take i arrays) ++ z ∷ []) (one d typed)
    ∙ sym (ap (map f) (take_more arrays i d0 within) ∙ map-append f (take i arrays) (d ∷ []))
