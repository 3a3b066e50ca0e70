-- What was decoded is allowed.
use Rattle.std.proofs.Common.{◌≡◌, subst, refl, ℕ, ℤ, zero, suc, ◌+◌, ◌*◌, ◌<◌, ◌≤◌, Bool, true, false, List, [], ◌∷◌, length, slice_get, Option, Some, None, Result, Ok, Err, inl, inr, find, take, drop, nat_lt, nat_le, arith}
use Rattle.std.specs.Prelude.{◌==◌, ◌||◌, ◌&&◌, if◌then◌else◌, slice_range, int_le, pos, unsigned_abs, ◌-ℤ◌, option_and_then}
use Rattle.std.specs.Int.{w8, w16, w32}
use Rattle.std.specs.List.{AllByRecursion, list_all}
use Rattle.std.proofs.lemmas.Bool.Decides.{nat_tests}
use Rattle.std.proofs.lemmas.List.Sums.{sum_by-cons}
use Rattle.jvm_base.specs.Descriptors.{elem_slots, desc_slots, args_slots, method_of}
use Rattle.jvm_base.specs.declared.desc.Elem.{Elem}
use Rattle.jvm_base.specs.declared.desc.Elem.TheVariants as elem
use Rattle.jvm_base.specs.Refusing.{◌>>=◌, need}
use Rattle.jvm_base.specs.declared.desc.Desc.{Desc}
use Rattle.jvm_base.specs.declared.desc.MethodDesc.{MethodDesc}
use Rattle.jvm_base.specs.declared.pool.PoolItem.{PoolItem}
use Rattle.jvm_base.specs.declared.pool.PoolItem.TheVariants as item
use Rattle.jvm_base.proofs.Options.{and_parts}
use Rattle.jvm_base.proofs.Refusing.{ok_is, bind_ok, need_ok, want_ok}
use Rattle.constant_pool.specs.Items.{class_at}
use Rattle.class_format.specs.Meaning.{AreBytes}
use Rattle.code_table.specs.ElementKinds.{is_kind, is_left_out_kind}
use Rattle.code_table.specs.Forms.{Form, Alone, Byte, Short, Local, LocalAndByte, Near, Far, Constant, ConstantW, Constant2W, OnField, OnMethod, OnInterface, OnClass, ElementClass, ElementKind, Dimensions, TableSwitch, LookupSwitch, Wide, LeftOut, LeftOutLocal, Unknown, meaning, size}
use Rattle.code_table.specs.Instructions.{sized_at, wide_of, widened, wide_at, by_form, instruction_at}
use Rattle.code_table.specs.Items.{class_dimensions, field_desc, method_desc, interface_method_desc, method_text, interface_method_text}
use Rattle.code_table.specs.Numbers.{number_at, signed_at, target}
use Rattle.code_table.specs.Pooled.{loaded, loaded_2w, field, method, interface_method, on_class, on_element, on_dimensions, element_kind}
use Rattle.code_table.specs.Sequences.{Leads}
use Rattle.code_table.specs.Switches.{operands_from, targets_from, pairs_from, rise, table_switch_at, lookup_switch_at}
use Rattle.code_table.specs.Table.{Row, table, form_in, form_at}
use Rattle.code_table.specs.declared.code.Placed.{Placed}
use Rattle.code_table.specs.declared.error.CodeErr.{CodeErr}
use Rattle.code_table.specs.declared.error.CodeErr.TheVariants.{LeftOutOp, CutOp, BadIndex, BadSwitch}
use Rattle.code_table.specs.declared.op.Op.{Op}
use Rattle.code_table.specs.declared.op.Op.TheVariants as op
use Rattle.code_table.proofs.Slots.{few_slots}
use Rattle.typed_code.specs.Decoding.{IsLoaded, IsLoadedWide, IsFine}
use Rattle.typed_code.proofs.Switching.{table_leads}

-- nothing is asked of it
abbrev is_plain : Op → Bool
is_plain (op.Ldc i) = false
is_plain (op.Ldc2 i) = false
is_plain (op.Static o i d) = false
is_plain (op.Field o i d) = false
is_plain (op.Invoke o i d) = false
is_plain (op.New i) = false
is_plain (op.Cast o i) = false
is_plain (op.NewArray k) = false
is_plain (op.AnewArray i) = false
is_plain (op.MultiNewArray i n) = false
is_plain (op.TableSwitch other low high to) = false
is_plain _ = true

-- nor of the form: it is of such an instruction alone, or by itself of none
abbrev is_bare : Form → Bool
is_bare (Alone o) = is_plain o
is_bare (Byte f) = false
is_bare (Short f) = false
is_bare (Local f) = false
is_bare (LocalAndByte f) = false
is_bare (Near f) = false
is_bare (Far f) = false
is_bare (OnField f) = false
is_bare (OnMethod f) = false
is_bare (OnInterface f) = false
is_bare (OnClass f) = false
is_bare (ElementClass f) = false
is_bare (ElementKind f) = false
is_bare (Dimensions f) = false
is_bare _ = true

module _ (pool : List PoolItem) where
  -- what a form makes is fine, where the pool allows it
  abbrev IsFineForm : Form → Type 0
  IsFineForm (Alone o) = IsFine pool o
  IsFineForm (Byte f) = (n : ℤ) → IsFine pool (f n)
  IsFineForm (Short f) = (n : ℤ) → IsFine pool (f n)
  IsFineForm (Local f) = (n : ℕ) → IsFine pool (f n)
  IsFineForm (LocalAndByte f) = (n : ℕ) (k : ℤ) → IsFine pool (f n k)
  IsFineForm (Near f) = (n : ℕ) → IsFine pool (f n)
  IsFineForm (Far f) = (n : ℕ) → IsFine pool (f n)
  IsFineForm (OnField f) = (i : ℕ) (d : Desc) → field_desc pool i ≡ Some d → IsFine pool (f i d)
  IsFineForm (OnMethod f) = (i : ℕ) (d : MethodDesc) → length d.args ≤ 255 → method_desc pool i ≡ Some d → IsFine pool (f i d)
  IsFineForm (OnInterface f) = (i : ℕ) (d : MethodDesc) → length d.args ≤ 255 → interface_method_desc pool i ≡ Some d → IsFine pool (f i d)
  IsFineForm (OnClass f) = (i name : ℕ) → class_at pool i ≡ Some name → IsFine pool (f i)
  IsFineForm (ElementClass f) = (i dims : ℕ) → class_dimensions pool i ≡ Some dims → dims < 255 → IsFine pool (f i)
  IsFineForm (ElementKind f) = (k : ℕ) → is_kind k ≡ true → is_left_out_kind k ≡ false → IsFine pool (f k)
  IsFineForm (Dimensions f) = (i n dims : ℕ) → class_dimensions pool i ≡ Some dims → 0 < n → n ≤ dims → IsFine pool (f i n)
  IsFineForm _ = Unit {0}

  -- ---- the table

  plain_fine : (o : Op) → is_plain o ≡ true → IsFine pool o
  plain_fine (op.Ldc i) e = absurd cc
  plain_fine (op.Ldc2 i) e = absurd cc
  plain_fine (op.Static o i d) e = absurd cc
  plain_fine (op.Field o i d) e = absurd cc
  plain_fine (op.Invoke o i d) e = absurd cc
  plain_fine (op.New i) e = absurd cc
  plain_fine (op.Cast o i) e = absurd cc
  plain_fine (op.NewArray k) e = absurd cc
  plain_fine (op.AnewArray i) e = absurd cc
  plain_fine (op.MultiNewArray i n) e = absurd cc
  plain_fine (op.TableSwitch other low high to) e = absurd cc
  plain_fine _ e = record { allowed = tt; few = tt; switches = tt }

  bare_fine : (f : Form) → is_bare f ≡ true → IsFineForm f
  bare_fine (Alone o) e = plain_fine o e
  bare_fine (Byte f) e = absurd cc
  bare_fine (Short f) e = absurd cc
  bare_fine (Local f) e = absurd cc
  bare_fine (LocalAndByte f) e = absurd cc
  bare_fine (Near f) e = absurd cc
  bare_fine (Far f) e = absurd cc
  bare_fine (OnField f) e = absurd cc
  bare_fine (OnMethod f) e = absurd cc
  bare_fine (OnInterface f) e = absurd cc
  bare_fine (OnClass f) e = absurd cc
  bare_fine (ElementClass f) e = absurd cc
  bare_fine (ElementKind f) e = absurd cc
  bare_fine (Dimensions f) e = absurd cc
  bare_fine _ e = tt

  -- rows have fine forms
  abbrev AreFine : List Row → Type 0
  AreFine rows = AllByRecursion (λ r. IsFineForm r.form) rows

  -- the first rows are bare
  bare_rows : (n : ℕ) (rows : List Row) → list_all (λ r. is_bare r.form) (take n rows) ≡ true → AreFine (drop n rows) → AreFine rows
  bare_rows zero rows e h = h
  bare_rows (suc n) [] e h = tt
  bare_rows (suc n) (r ∷ rows) e h =
      let (a, b) = and_parts (is_bare r.form) (list_all (λ r. is_bare r.form) (take n rows)) e in
      (bare_fine r.form a, bare_rows n rows b h)

  from_200 : AreFine (drop 200 table)
  unfolding table
  from_200 = bare_rows 1 (drop 200 table) refl tt

  from_193 : AreFine (drop 193 table)
  unfolding table
  from_193 = bare_rows 3 (drop 193 table) refl (λ i n dims e l m. record { allowed = (dims, e, l, m); few = tt; switches = tt }, (λ n. plain_fine _ refl, (λ n. plain_fine _ refl, (λ n. plain_fine _ refl, from_200))))

  from_189 : AreFine (drop 189 table)
  unfolding table
  from_189 = bare_rows 2 (drop 189 table) refl (λ i name e. record { allowed = (name, e); few = tt; switches = tt }, (λ i name e. record { allowed = (name, e); few = tt; switches = tt }, from_193))

  from_168 : AreFine (drop 168 table)
  unfolding table
  from_168 = bare_rows 10 (drop 168 table) refl (λ i d e. record { allowed = e; few = tt; switches = tt }, (λ i d e. record { allowed = e; few = tt; switches = tt }, (λ i d e. record { allowed = e; few = tt; switches = tt }, (λ i d e. record { allowed = e; few = tt; switches = tt }, (λ i d l e. record { allowed = inl e; few = l; switches = tt }, (λ i d l e. record { allowed = inl e; few = l; switches = tt }, (λ i d l e. record { allowed = inl e; few = l; switches = tt }, (λ i d l e. record { allowed = inr e; few = l; switches = tt }, (λ i name e. record { allowed = (name, e); few = tt; switches = tt }, (λ k e n. record { allowed = (e, n); few = tt; switches = tt }, (λ i dims e l. record { allowed = (dims, e, l); few = tt; switches = tt }, from_189)))))))))))

  from_133 : AreFine (drop 133 table)
  unfolding table
  from_133 = bare_rows 20 (drop 133 table) refl (λ n. plain_fine _ refl, (λ n. plain_fine _ refl, (λ n. plain_fine _ refl, (λ n. plain_fine _ refl, (λ n. plain_fine _ refl, (λ n. plain_fine _ refl, (λ n. plain_fine _ refl, (λ n. plain_fine _ refl, (λ n. plain_fine _ refl, (λ n. plain_fine _ refl, (λ n. plain_fine _ refl, (λ n. plain_fine _ refl, (λ n. plain_fine _ refl, (λ n. plain_fine _ refl, (λ n. plain_fine _ refl, from_168)))))))))))))))

  from_59 : AreFine (drop 59 table)
  unfolding table
  from_59 = bare_rows 73 (drop 59 table) refl (λ n k. plain_fine _ refl, from_133)

  from_56 : AreFine (drop 56 table)
  unfolding table
  from_56 = bare_rows 2 (drop 56 table) refl (λ n. plain_fine _ refl, from_59)

  from_26 : AreFine (drop 26 table)
  unfolding table
  from_26 = bare_rows 28 (drop 26 table) refl (λ n. plain_fine _ refl, (λ n. plain_fine _ refl, from_56))

  from_23 : AreFine (drop 23 table)
  unfolding table
  from_23 = bare_rows 2 (drop 23 table) refl (λ n. plain_fine _ refl, from_26)

  from_18 : AreFine (drop 18 table)
  unfolding table
  from_18 = bare_rows 3 (drop 18 table) refl (λ n. plain_fine _ refl, (λ n. plain_fine _ refl, from_23))

  from_0 : AreFine (drop 0 table)
  unfolding table
  from_0 = bare_rows 16 (drop 0 table) refl (λ n. plain_fine _ refl, (λ n. plain_fine _ refl, from_18))

  -- the form of a row that is found
  found_fine : (rows : List Row) (b : ℕ) → AreFine rows → IsFineForm (form_in (find (λ r. r.byte == b) rows))
  found_fine [] b all = tt
  found_fine (r ∷ rows) b all =
      elim (r.byte == b) as (λ t. IsFineForm (form_in (if t then Some r else find (λ r. r.byte == b) rows))) [
        | true ↦ all.0
        | false ↦ found_fine rows b (all.1)
      ]

  -- the form of a byte
  form_fine : (b : ℕ) → IsFineForm (form_at b)
  unfolding form_at
  form_fine b = found_fine table b from_0

  -- ---- what the pool allows

  is_so : (x o : Op) → (let r : Result Op CodeErr = Ok x in r ≡ Ok o) → IsFine pool x → IsFine pool o
  is_so x o e h = subst (IsFine pool) (ok_is x o e) h

  loaded_fine : (q : Option PoolItem) (i at : ℕ) (o : Op) → q ≡ slice_get pool i → loaded q i at ≡ Ok o → IsFine pool o
  loaded_fine (Some (item.Integer n)) i at o q e = is_so _ o e (record { allowed = subst IsLoaded q tt; few = tt; switches = tt })
  loaded_fine (Some (item.Text name)) i at o q e = is_so _ o e (record { allowed = subst IsLoaded q tt; few = tt; switches = tt })
  loaded_fine (Some (item.Float bits)) i at o q e = absurd cc
  loaded_fine _ i at o q e = absurd cc

  wide_fine : (q : Option PoolItem) (i at : ℕ) (o : Op) → q ≡ slice_get pool i → loaded_2w q i at ≡ Ok o → IsFine pool o
  wide_fine (Some (item.Long n)) i at o q e = is_so _ o e (record { allowed = subst IsLoadedWide q tt; few = tt; switches = tt })
  wide_fine (Some (item.Double bits)) i at o q e = absurd cc
  wide_fine _ i at o q e = absurd cc

  field_fine : (f : ℕ → Desc → Op) (i at : ℕ) (o : Op) → IsFineForm (OnField f) → field f pool i at ≡ Ok o → IsFine pool o
  unfolding field
  field_fine f i at o h e =
      let (d, p, q) = want_ok (field_desc pool i) (BadIndex at) (λ d. Ok (f i d)) o e in
      is_so (f i d) o q (h i d p)

  elem_slot : (e : Elem) → 1 ≤ elem_slots e
  elem_slot elem.Double = omega arith
  elem_slot elem.Long = omega arith
  elem_slot _ = omega arith

  one_slot : (d : Desc) → 1 ≤ desc_slots d
  one_slot d = elim (d.dims == 0) as (λ b. 1 ≤ (if b then elem_slots d.elem else 1)) [ true ↦ elem_slot d.elem | false ↦ omega arith ]

  few_args : (ds : List Desc) → length ds ≤ args_slots ds
  few_args [] = omega arith
  few_args (d ∷ ds) =
      let h : length ds ≤ args_slots ds = few_args ds in
      let k : 1 ≤ desc_slots d = one_slot d in
      let s : args_slots (d ∷ ds) ≡ desc_slots d + args_slots ds = sum_by-cons desc_slots d ds in
      omega arith

  few_of : (text : Option (List ℕ)) (d : MethodDesc) → option_and_then method_of text ≡ Some d → length d.args ≤ 255
  few_of text d e = let f = few_args d.args in let s = few_slots text d e in omega arith

  method_fine : (f : ℕ → MethodDesc → Op) (i at : ℕ) (o : Op) → IsFineForm (OnMethod f) → method f pool i at ≡ Ok o → IsFine pool o
  unfolding method
  method_fine f i at o h e =
      let (d, p, q) = want_ok (method_desc pool i) (BadIndex at) (λ d. Ok (f i d)) o e in
      is_so (f i d) o q (h i d (few_of (method_text pool i) d p) p)

  interface_fine : (f : ℕ → MethodDesc → Op) (xs : List ℕ) (at : ℕ) (o : Op) → IsFineForm (OnInterface f) → interface_method f xs pool at ≡ Ok o → IsFine pool o
  unfolding interface_method
  interface_fine f xs at o h e =
      let i : ℕ = number_at w16 xs 0 in
      let (d, p, q) = want_ok (interface_method_desc pool i) (BadIndex at) (λ d. need ((number_at w8 xs 2 == 1 + args_slots d.args) && (number_at w8 xs 3 == 0)) (BadIndex at) >>= λ _. Ok (f i d)) o e in
      let (t, r) = need_ok ((number_at w8 xs 2 == 1 + args_slots d.args) && (number_at w8 xs 3 == 0)) (BadIndex at) (λ _. Ok (f i d)) o q in
      is_so (f i d) o r (h i d (few_of (interface_method_text pool i) d p) p)

  class_fine : (f : ℕ → Op) (i at : ℕ) (q : Option ℕ) (o : Op) → IsFineForm (OnClass f) → class_at pool i ≡ q → on_class q (f i) at ≡ Ok o → IsFine pool o
  class_fine f i at (Some name) o h q e = is_so (f i) o e (h i name q)
  class_fine f i at None o h q e = absurd cc

  element_fine : (f : ℕ → Op) (i at : ℕ) (q : Option ℕ) (o : Op) → IsFineForm (ElementClass f) → class_dimensions pool i ≡ q → on_element q (f i) at ≡ Ok o → IsFine pool o
  element_fine f i at None o h q e = absurd cc
  element_fine f i at (Some dims) o h q e = by_dims (nat_lt dims 255) refl e
    where
      by_dims : (t : Bool) → nat_lt dims 255 ≡ t → (if t then Ok (f i) else Err (BadIndex at)) ≡ Ok o → IsFine pool o
      by_dims true l g = is_so (f i) o g (h i dims q (grind (arith, nat_tests)))
      by_dims false l g = absurd cc

  kind_fine : (f : ℕ → Op) (k at : ℕ) (o : Op) → IsFineForm (ElementKind f) → element_kind f k at ≡ Ok o → IsFine pool o
  kind_fine f k at o h e = by_tests (is_left_out_kind k) refl (is_kind k) refl e
    where
      by_tests : (l : Bool) → is_left_out_kind k ≡ l → (t : Bool) → is_kind k ≡ t → (if l then Err (LeftOutOp at) else (if t then Ok (f k) else Err (BadIndex at))) ≡ Ok o → IsFine pool o
      by_tests true p t q g = absurd cc
      by_tests false p true q g = is_so (f k) o g (h k q p)
      by_tests false p false q g = absurd cc

  or_neither : (a b : Bool) → (a || b) ≡ false → (a ≡ false) × (b ≡ false)
  or_neither true b e = absurd cc
  or_neither false b e = (refl, e)

  dimensions_fine : (f : ℕ → ℕ → Op) (i n at : ℕ) (q : Option ℕ) (o : Op) → IsFineForm (Dimensions f) → class_dimensions pool i ≡ q → on_dimensions q n (f i n) at ≡ Ok o → IsFine pool o
  dimensions_fine f i n at None o h q e = absurd cc
  dimensions_fine f i n at (Some dims) o h q e = by_test (n == 0 || nat_lt dims n) refl e
    where
      by_test : (t : Bool) → (n == 0 || nat_lt dims n) ≡ t → (if t then Err (BadIndex at) else Ok (f i n)) ≡ Ok o → IsFine pool o
      by_test true l g = absurd cc
      by_test false l g =
          let (a, b) = or_neither (n == 0) (nat_lt dims n) l in
          is_so (f i n) o g (h i n dims q (grind (arith, nat_tests)) (grind (arith, nat_tests)))

  -- ---- forms

  meaning_fine : (form : Form) (xs : List ℕ) (at : ℕ) (o : Op) → IsFineForm form → meaning form xs pool at ≡ Ok o → IsFine pool o
  meaning_fine (Alone f) xs at o h e = is_so f o e h
  meaning_fine (Byte f) xs at o h e = is_so _ o e (h (signed_at w8 xs 0))
  meaning_fine (Short f) xs at o h e = is_so _ o e (h (signed_at w16 xs 0))
  meaning_fine (Local f) xs at o h e = is_so _ o e (h (number_at w8 xs 0))
  meaning_fine (LocalAndByte f) xs at o h e = is_so _ o e (h (number_at w8 xs 0) (signed_at w8 xs 1))
  meaning_fine (Near f) xs at o h e = is_so _ o e (h (target at (signed_at w16 xs 0)))
  meaning_fine (Far f) xs at o h e = is_so _ o e (h (target at (signed_at w32 xs 0)))
  meaning_fine Constant xs at o h e = loaded_fine (slice_get pool (number_at w8 xs 0)) (number_at w8 xs 0) at o refl e
  meaning_fine ConstantW xs at o h e = loaded_fine (slice_get pool (number_at w16 xs 0)) (number_at w16 xs 0) at o refl e
  meaning_fine Constant2W xs at o h e = wide_fine (slice_get pool (number_at w16 xs 0)) (number_at w16 xs 0) at o refl e
  meaning_fine (OnField f) xs at o h e = field_fine f (number_at w16 xs 0) at o h e
  meaning_fine (OnMethod f) xs at o h e = method_fine f (number_at w16 xs 0) at o h e
  meaning_fine (OnInterface f) xs at o h e = interface_fine f xs at o h e
  meaning_fine (OnClass f) xs at o h e = class_fine f (number_at w16 xs 0) at (class_at pool (number_at w16 xs 0)) o h refl e
  meaning_fine (ElementClass f) xs at o h e = element_fine f (number_at w16 xs 0) at (class_dimensions pool (number_at w16 xs 0)) o h refl e
  meaning_fine (ElementKind f) xs at o h e = kind_fine f (number_at w8 xs 0) at o h e
  meaning_fine (Dimensions f) xs at o h e = dimensions_fine f (number_at w16 xs 0) (number_at w8 xs 2) at (class_dimensions pool (number_at w16 xs 0)) o h refl e
  meaning_fine _ xs at o h e = absurd cc

  -- ---- instructions at their addresses

  placed_so : (x p : Placed) → (let r : Result Placed CodeErr = Ok x in r ≡ Ok p) → IsFine pool x.op → IsFine pool p.op
  placed_so x p e h = subst (λ (q : Placed). IsFine pool q.op) (ok_is x p e) h

  module _ (code : List ℕ) (bytes : AreBytes code) where
    sized_fine : (form : Form) (at : ℕ) (p : Placed) → IsFineForm form → sized_at form code pool at ≡ Ok p → IsFine pool p.op
    unfolding sized_at
    sized_fine form at p h e =
        let next : ℕ = at + 1 + size form in
        let xs : List ℕ = slice_range code (at + 1) next in
        let (t, f) = need_ok (nat_le next (length code)) (CutOp at) (λ _. meaning form xs pool at >>= λ op. Ok (record { at = at; next = next; op = op })) p e in
        let (o, g, i) = bind_ok (meaning form xs pool at) (λ op. Ok (record { at = at; next = next; op = op })) p f in
        placed_so (record { at = at; next = next; op = o }) p i (meaning_fine form xs at o h g)

    table_fine : (at : ℕ) (p : Placed) → table_switch_at code at ≡ Ok p → IsFine pool p.op
    unfolding table_switch_at
    table_fine at p e =
        let place : ℕ = operands_from at in
        let low : ℤ = signed_at w32 code (place + 4) in
        let high : ℤ = signed_at w32 code (place + 8) in
        let count : ℕ = unsigned_abs (high -ℤ low) + 1 in
        let next : ℕ = place + 12 + 4 * count in
        let other : ℕ = target at (signed_at w32 code place) in
        let x : Placed = record { at = at; next = next; op = op.TableSwitch other low high (targets_from code at (place + 12) count) } in
        let (t, f) = need_ok (nat_le (place + 12) (length code)) (CutOp at) (λ _. need (int_le low high) (BadSwitch at) >>= λ _. need (nat_le next (length code)) (BadSwitch at) >>= λ _. Ok x) p e in
        let (u, g) = need_ok (int_le low high) (BadSwitch at) (λ _. need (nat_le next (length code)) (BadSwitch at) >>= λ _. Ok x) p f in
        let (v, h) = need_ok (nat_le next (length code)) (BadSwitch at) (λ _. Ok x) p g in
        placed_so x p h (record { allowed = tt; few = tt; switches = table_leads code bytes at other place })

    lookup_fine : (at : ℕ) (p : Placed) → lookup_switch_at code at ≡ Ok p → IsFine pool p.op
    unfolding lookup_switch_at
    lookup_fine at p e =
        let place : ℕ = operands_from at in
        let count : ℤ = signed_at w32 code (place + 4) in
        let next : ℕ = place + 8 + 8 * unsigned_abs count in
        let pairs : List (ℤ × ℕ) = pairs_from code at (place + 8) (unsigned_abs count) in
        let x : Placed = record { at = at; next = next; op = op.LookupSwitch (target at (signed_at w32 code place)) pairs } in
        let (t, f) = need_ok (nat_le (place + 8) (length code)) (CutOp at) (λ _. need (int_le (pos 0) count) (BadSwitch at) >>= λ _. need (nat_le next (length code)) (BadSwitch at) >>= λ _. need (rise pairs) (BadSwitch at) >>= λ _. Ok x) p e in
        let (u, g) = need_ok (int_le (pos 0) count) (BadSwitch at) (λ _. need (nat_le next (length code)) (BadSwitch at) >>= λ _. need (rise pairs) (BadSwitch at) >>= λ _. Ok x) p f in
        let (v, h) = need_ok (nat_le next (length code)) (BadSwitch at) (λ _. need (rise pairs) (BadSwitch at) >>= λ _. Ok x) p g in
        let (w, i) = need_ok (rise pairs) (BadSwitch at) (λ _. Ok x) p h in
        placed_so x p i (record { allowed = tt; few = tt; switches = tt })

    wide_of_fine : (size : ℕ) (make : List ℕ → Op) (at : ℕ) (p : Placed) → ((xs : List ℕ) → IsFine pool (make xs)) → wide_of size make code at ≡ Ok p → IsFine pool p.op
    unfolding wide_of
    wide_of_fine size make at p fine e =
        let next : ℕ = at + 2 + size in
        let xs : List ℕ = slice_range code (at + 2) next in
        let (t, f) = need_ok (nat_le next (length code)) (CutOp at) (λ _. Ok (record { at = at; next = next; op = make xs })) p e in
        placed_so (record { at = at; next = next; op = make xs }) p f (fine xs)

    widened_fine : (form : Form) (at : ℕ) (p : Placed) → IsFineForm form → widened form code at ≡ Ok p → IsFine pool p.op
    widened_fine (Local f) at p h e = wide_of_fine 2 (λ xs. f (number_at w16 xs 0)) at p (λ xs. h (number_at w16 xs 0)) e
    widened_fine (LocalAndByte f) at p h e = wide_of_fine 4 (λ xs. f (number_at w16 xs 0) (signed_at w16 xs 2)) at p (λ xs. h (number_at w16 xs 0) (signed_at w16 xs 2)) e
    widened_fine LeftOutLocal at p h e = absurd cc
    widened_fine _ at p h e = absurd cc

    wide_at_fine : (at : ℕ) (p : Placed) → wide_at code at ≡ Ok p → IsFine pool p.op
    unfolding wide_at
    wide_at_fine at p e =
        let form : Form = form_at (number_at w8 code (at + 1)) in
        let (t, f) = need_ok (nat_lt (at + 1) (length code)) (CutOp at) (λ _. widened form code at) p e in
        widened_fine form at p (form_fine (number_at w8 code (at + 1))) f

    by_form_fine : (form : Form) (at : ℕ) (p : Placed) → IsFineForm form → by_form form code pool at ≡ Ok p → IsFine pool p.op
    by_form_fine Unknown at p h e = absurd cc
    by_form_fine LeftOut at p h e = absurd cc
    by_form_fine LeftOutLocal at p h e = absurd cc
    by_form_fine TableSwitch at p h e = table_fine at p e
    by_form_fine LookupSwitch at p h e = lookup_fine at p e
    by_form_fine Wide at p h e = wide_at_fine at p e
    by_form_fine form at p h e = sized_fine form at p h e

    fine_there : (at : ℕ) (p : Placed) → instruction_at code pool at ≡ Ok p → IsFine pool p.op
    unfolding instruction_at
    fine_there at p e = by_form_fine (form_at (number_at w8 code at)) at p (form_fine (number_at w8 code at)) e

    -- instructions that follow each other are all fine
    pub fine_ops : (at : ℕ) (ps : List Placed) (to : ℕ) → Leads code pool at ps to → (i : ℕ) (p : Placed) → slice_get ps i ≡ Some p → IsFine pool p.op
    fine_ops at [] to l i p e = absurd cc
    fine_ops at (q ∷ qs) to l zero p e = let s : q ≡ p = cc in subst (λ (x : Placed). IsFine pool x.op) s (fine_there at q (l.0))
    fine_ops at (q ∷ qs) to l (suc i) p e = fine_ops q.next qs to (l.1) i p e
