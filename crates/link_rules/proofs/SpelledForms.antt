-- What the forms of instructions mean holds the descriptor that its item names.
use Rattle.std.proofs.Common.{◌≡◌, subst, refl, ℕ, ℤ, ◌+◌, true, false, Bool, List, [], length, Option, Some, None, Result, Ok, Err, nat_lt, nat_le, ◌==◌, ◌||◌, if◌then◌else◌}
use Rattle.std.specs.Prelude.{option_and_then, slice_get, slice_range, int_le, ◌&&◌, pos, ◌*◌, ◌-ℤ◌, unsigned_abs}
use Rattle.std.specs.Int.{w8, w16, w32}
use Rattle.jvm_base.specs.declared.desc.Desc.{Desc}
use Rattle.jvm_base.specs.declared.desc.MethodDesc.{MethodDesc}
use Rattle.jvm_base.specs.declared.pool.PoolItem.{PoolItem}
use Rattle.jvm_base.specs.declared.pool.PoolItem.TheVariants.{Integer, Float, Long, Double, Text, NameAndKind, Field, Method, InterfaceMethod}
use Rattle.jvm_base.specs.Descriptors.{desc_of, method_of, args_slots}
use Rattle.jvm_base.specs.Words.{from}
use Rattle.jvm_base.specs.Refusing.{◌>>=◌, need, want}
use Rattle.constant_pool.specs.Items.{text_at, desc_index}
use Rattle.code_table.specs.declared.error.CodeErr.{CodeErr}
use Rattle.code_table.specs.declared.error.CodeErr.TheVariants.{UnknownOp, CutOp, BadIndex, BadSwitch, LeftOutOp}
use Rattle.code_table.specs.declared.op.Op.{Op}
use Rattle.code_table.specs.declared.op.Op.TheVariants.{TableSwitch as TableOp, LookupSwitch as LookupOp}
use Rattle.code_table.specs.ElementKinds.{is_kind, is_left_out_kind}
use Rattle.code_table.specs.Forms.{Form, Alone, Byte, Short, Local, LocalAndByte, Near, Far, Constant, ConstantW, Constant2W, OnField, OnMethod, OnInterface, OnClass, ElementClass, ElementKind, Dimensions, LeftOutLocal, size, meaning}
use Rattle.code_table.specs.Items.{class_dimensions, pair_of_field, pair_of_method, pair_of_interface_method, field_desc, method_desc, interface_method_desc}
use Rattle.code_table.specs.Instructions.{sized_at, wide_of, widened}
use Rattle.code_table.specs.Numbers.{number_at, signed_at, target}
use Rattle.code_table.specs.Pooled.{loaded, loaded_2w, field, method, interface_method, on_class, on_element, on_dimensions, element_kind}
use Rattle.code_table.specs.Switches.{operands_from, targets_from, pairs_from, rise, table_switch_at, lookup_switch_at}
use Rattle.class_names.specs.Texts.{member_of_pair, member_of}
use Rattle.link_rules.specs.Walks.Spelled.{IsField, IsMethod, IsSpelled, IsSpelledPlaced}

-- P holds of what was read, if something was
pub record Holds {A : Type 0} (P : A → Type 0) (r : Result A CodeErr) : Type 0 where
  pub ok : (x : A) → r ≡ Ok x → P x

-- what was read
fine : {A : Type 0} {P : A → Type 0} (x : A) → P x → Holds P (Ok x)
fine {A} {P} x h = record { ok = λ y e. let same : x ≡ y = cc in subst P same h }

-- what was refused
pub bad : {A : Type 0} {P : A → Type 0} (e : CodeErr) → Holds P (Err e)
bad e = record { ok = λ y f. absurd (cc) }

-- one of two by a test
either : {A : Type 0} {P : A → Type 0} (b : Bool) (x y : Result A CodeErr) → Holds P x → Holds P y → Holds P (if b then x else y)
either true x y hx hy = hx
either false x y hx hy = hy

-- behind a test
pub tested : {A : Type 0} {P : A → Type 0} (b : Bool) (e : CodeErr) (f : Unit {0} → Result A CodeErr) → Holds P (f tt) → Holds P (need b e >>= f)
tested true e f h = h
tested false e f h = bad e

-- behind a value that may be there
wanted : {A B : Type 0} {P : B → Type 0} (o : Option A) (e : CodeErr) (f : A → Result B CodeErr) → ((x : A) → o ≡ Some x → Holds P (f x)) → Holds P (want o e >>= f)
wanted (Some x) e f h = h x refl
wanted None e f h = bad e

-- behind what was read
given : {A B : Type 0} {R : A → Type 0} {P : B → Type 0} (r : Result A CodeErr) (f : A → Result B CodeErr) → Holds R r → ((x : A) → R x → Holds P (f x)) → Holds P (r >>= f)
given (Ok x) f h g = g x (h.ok x refl)
given (Err e) f h g = bad e

-- ---- descriptors

-- what the text of an index spells, if one stands there
spelled_at : {A : Type 0} (f : List ℕ → Option A) (t : Option (List ℕ)) (d : A) → option_and_then f t ≡ Some d → f (from [] (λ us. us) t) ≡ Some d
spelled_at f None d e = absurd cc
spelled_at f (Some text) d e = e

-- what the name and descriptor of a member spells
pair_spelled : {A : Type 0} (f : List ℕ → Option A) (pool : List PoolItem) (class : ℕ) (pair : Option PoolItem) (d : A) → option_and_then f (option_and_then (text_at pool) (option_and_then desc_index pair)) ≡ Some d → f (member_of_pair pool class pair).desc ≡ Some d
pair_spelled f pool class (Some (NameAndKind name desc)) d e = spelled_at f (text_at pool desc) d e
pair_spelled f pool class None d e = absurd cc
pair_spelled f pool class _ d e = absurd cc

-- a field's item
item_field : (pool : List PoolItem) (i : ℕ) (d : Desc) → field_desc pool i ≡ Some d → IsField pool i d
item_field pool i d e = by (slice_get pool i) e
  where
    by : (o : Option PoolItem) → option_and_then desc_of (option_and_then (λ k. option_and_then (text_at pool) (option_and_then desc_index (slice_get pool k))) (pair_of_field o)) ≡ Some d → desc_of (member_of pool o).desc ≡ Some d
    by (Some (Field class pair)) h = pair_spelled desc_of pool class (slice_get pool pair) d h
    by None h = absurd cc
    by _ h = absurd cc

-- a method's
item_method : (pool : List PoolItem) (i : ℕ) (m : MethodDesc) → method_desc pool i ≡ Some m → IsMethod pool i m
item_method pool i m e = by (slice_get pool i) e
  where
    by : (o : Option PoolItem) → option_and_then method_of (option_and_then (λ k. option_and_then (text_at pool) (option_and_then desc_index (slice_get pool k))) (pair_of_method o)) ≡ Some m → method_of (member_of pool o).desc ≡ Some m
    by (Some (Method class pair)) h = pair_spelled method_of pool class (slice_get pool pair) m h
    by None h = absurd cc
    by _ h = absurd cc

-- an interface method's
item_interface_method : (pool : List PoolItem) (i : ℕ) (m : MethodDesc) → interface_method_desc pool i ≡ Some m → IsMethod pool i m
item_interface_method pool i m e = by (slice_get pool i) e
  where
    by : (o : Option PoolItem) → option_and_then method_of (option_and_then (λ k. option_and_then (text_at pool) (option_and_then desc_index (slice_get pool k))) (pair_of_interface_method o)) ≡ Some m → method_of (member_of pool o).desc ≡ Some m
    by (Some (InterfaceMethod class pair)) h = pair_spelled method_of pool class (slice_get pool pair) m h
    by None h = absurd cc
    by _ h = absurd cc

-- ---- forms

-- what a form makes holds the descriptor of its item
abbrev pub IsSpelledForm : List PoolItem → Form → Type 0
IsSpelledForm pool (Alone op) = IsSpelled pool op
IsSpelledForm pool (Byte op) = (n : ℤ) → IsSpelled pool (op n)
IsSpelledForm pool (Short op) = (n : ℤ) → IsSpelled pool (op n)
IsSpelledForm pool (Local op) = (n : ℕ) → IsSpelled pool (op n)
IsSpelledForm pool (LocalAndByte op) = (n : ℕ) (k : ℤ) → IsSpelled pool (op n k)
IsSpelledForm pool (Near op) = (n : ℕ) → IsSpelled pool (op n)
IsSpelledForm pool (Far op) = (n : ℕ) → IsSpelled pool (op n)
IsSpelledForm pool (OnField op) = (n : ℕ) (d : Desc) → IsField pool n d → IsSpelled pool (op n d)
IsSpelledForm pool (OnMethod op) = (n : ℕ) (m : MethodDesc) → IsMethod pool n m → IsSpelled pool (op n m)
IsSpelledForm pool (OnInterface op) = (n : ℕ) (m : MethodDesc) → IsMethod pool n m → IsSpelled pool (op n m)
IsSpelledForm pool (OnClass op) = (n : ℕ) → IsSpelled pool (op n)
IsSpelledForm pool (ElementClass op) = (n : ℕ) → IsSpelled pool (op n)
IsSpelledForm pool (ElementKind op) = (n : ℕ) → IsSpelled pool (op n)
IsSpelledForm pool (Dimensions op) = (n k : ℕ) → IsSpelled pool (op n k)
IsSpelledForm pool _ = Unit {0}

-- a constant
loaded_spelled : (pool : List PoolItem) (o : Option PoolItem) (i at : ℕ) → Holds (IsSpelled pool) (loaded o i at)
loaded_spelled pool (Some (Integer n)) i at = fine _ tt
loaded_spelled pool (Some (Text name)) i at = fine _ tt
loaded_spelled pool (Some (Float bits)) i at = bad (LeftOutOp at)
loaded_spelled pool _ i at = bad (BadIndex at)

-- a constant of two slots
loaded_2w_spelled : (pool : List PoolItem) (o : Option PoolItem) (i at : ℕ) → Holds (IsSpelled pool) (loaded_2w o i at)
loaded_2w_spelled pool (Some (Long n)) i at = fine _ tt
loaded_2w_spelled pool (Some (Double bits)) i at = bad (LeftOutOp at)
loaded_2w_spelled pool _ i at = bad (BadIndex at)

-- a field
field_spelled : (op : ℕ → Desc → Op) (pool : List PoolItem) (i at : ℕ) → IsSpelledForm pool (OnField op) → Holds (IsSpelled pool) (field op pool i at)
unfolding field
field_spelled op pool i at h = wanted (field_desc pool i) (BadIndex at) _ (λ d e. fine _ (h i d (item_field pool i d e)))

-- a method
method_spelled : (op : ℕ → MethodDesc → Op) (pool : List PoolItem) (i at : ℕ) → IsSpelledForm pool (OnMethod op) → Holds (IsSpelled pool) (method op pool i at)
unfolding method
method_spelled op pool i at h = wanted (method_desc pool i) (BadIndex at) _ (λ m e. fine _ (h i m (item_method pool i m e)))

-- an interface's method
interface_spelled : (op : ℕ → MethodDesc → Op) (xs : List ℕ) (pool : List PoolItem) (at : ℕ) → IsSpelledForm pool (OnInterface op) → Holds (IsSpelled pool) (interface_method op xs pool at)
unfolding interface_method
interface_spelled op xs pool at h =
    let i : ℕ = number_at w16 xs 0 in
    wanted (interface_method_desc pool i) (BadIndex at) _ (λ m e.
    tested ((number_at w8 xs 2 == 1 + args_slots m.args) && (number_at w8 xs 3 == 0)) (BadIndex at) _
    (fine (op i m) (h i m (item_interface_method pool i m e))))

-- a class
class_spelled : (pool : List PoolItem) (o : Option ℕ) (op : Op) (at : ℕ) → IsSpelled pool op → Holds (IsSpelled pool) (on_class o op at)
class_spelled pool (Some name) op at h = fine _ h
class_spelled pool None op at h = bad (BadIndex at)

-- the class of an element
element_spelled : (pool : List PoolItem) (o : Option ℕ) (op : Op) (at : ℕ) → IsSpelled pool op → Holds (IsSpelled pool) (on_element o op at)
element_spelled pool (Some dims) op at h = either (nat_lt dims 255) _ _ (fine _ h) (bad (BadIndex at))
element_spelled pool None op at h = bad (BadIndex at)

-- dimensions
dimensions_spelled : (pool : List PoolItem) (o : Option ℕ) (n : ℕ) (op : Op) (at : ℕ) → IsSpelled pool op → Holds (IsSpelled pool) (on_dimensions o n op at)
dimensions_spelled pool (Some dims) n op at h = either (n == 0 || nat_lt dims n) _ _ (bad (BadIndex at)) (fine _ h)
dimensions_spelled pool None n op at h = bad (BadIndex at)

-- the kind of an element
kind_spelled : (pool : List PoolItem) (op : ℕ → Op) (kind at : ℕ) → IsSpelledForm pool (ElementKind op) → Holds (IsSpelled pool) (element_kind op kind at)
kind_spelled pool op kind at h = either (is_left_out_kind kind) _ _ (bad (LeftOutOp at)) (either (is_kind kind) _ _ (fine _ (h kind)) (bad (BadIndex at)))

-- what a form means
meaning_spelled : (form : Form) (xs : List ℕ) (pool : List PoolItem) (at : ℕ) → IsSpelledForm pool form → Holds (IsSpelled pool) (meaning form xs pool at)
meaning_spelled (Alone op) xs pool at h = fine _ (h)
meaning_spelled (Byte op) xs pool at h = fine _ (h _)
meaning_spelled (Short op) xs pool at h = fine _ (h _)
meaning_spelled (Local op) xs pool at h = fine _ (h _)
meaning_spelled (LocalAndByte op) xs pool at h = fine _ (h _ _)
meaning_spelled (Near op) xs pool at h = fine _ (h _)
meaning_spelled (Far op) xs pool at h = fine _ (h _)
meaning_spelled Constant xs pool at h = loaded_spelled pool _ _ at
meaning_spelled ConstantW xs pool at h = loaded_spelled pool _ _ at
meaning_spelled Constant2W xs pool at h = loaded_2w_spelled pool _ _ at
meaning_spelled (OnField op) xs pool at h = field_spelled op pool _ at h
meaning_spelled (OnMethod op) xs pool at h = method_spelled op pool _ at h
meaning_spelled (OnClass op) xs pool at h = class_spelled pool _ _ at (h _)
meaning_spelled (ElementClass op) xs pool at h =
    element_spelled pool (class_dimensions pool (number_at w16 xs 0)) (op (number_at w16 xs 0)) at (h (number_at w16 xs 0))
meaning_spelled (OnInterface op) xs pool at h = interface_spelled op xs pool at h
meaning_spelled (ElementKind op) xs pool at h = kind_spelled pool op (number_at w8 xs 0) at h
meaning_spelled (Dimensions op) xs pool at h =
    dimensions_spelled pool (class_dimensions pool (number_at w16 xs 0)) (number_at w8 xs 2) (op (number_at w16 xs 0) (number_at w8 xs 2)) at (h (number_at w16 xs 0) (number_at w8 xs 2))
meaning_spelled _ xs pool at h = bad (UnknownOp at)

-- ---- instructions

-- an instruction whose opcode tells its length
pub sized_spelled : (form : Form) (code : List ℕ) (pool : List PoolItem) (at : ℕ) → IsSpelledForm pool form → Holds (IsSpelledPlaced pool) (sized_at form code pool at)
unfolding sized_at
sized_spelled form code pool at h =
    let next : ℕ = at + 1 + size form in
    let xs : List ℕ = slice_range code (at + 1) next in
    tested (nat_le next (length code)) (CutOp at) _ (given (meaning form xs pool at) (λ op. Ok (record { at = at; next = next; op = op })) (meaning_spelled form xs pool at h) (λ op s. fine (record { at = at; next = next; op = op }) s))

-- an instruction by itself
placed : (pool : List PoolItem) (at next : ℕ) (op : Op) → IsSpelled pool op → Holds (IsSpelledPlaced pool) (Ok (record { at = at; next = next; op = op }))
placed pool at next op h = fine (record { at = at; next = next; op = op }) h

-- tableswitch
pub table_spelled : (pool : List PoolItem) (code : List ℕ) (at : ℕ) → Holds (IsSpelledPlaced pool) (table_switch_at code at)
unfolding table_switch_at
table_spelled pool code at =
    let place : ℕ = operands_from at in
    let low : ℤ = signed_at w32 code (place + 4) in
    let high : ℤ = signed_at w32 code (place + 8) in
    let count : ℕ = unsigned_abs (high -ℤ low) + 1 in
    let next : ℕ = place + 12 + 4 * count in
    tested (nat_le (place + 12) (length code)) (CutOp at) _
    (tested (int_le low high) (BadSwitch at) _
    (tested (nat_le next (length code)) (BadSwitch at) _
    (placed pool at next (TableOp (target at (signed_at w32 code place)) low high (targets_from code at (place + 12) count)) tt)))

-- lookupswitch
pub lookup_spelled : (pool : List PoolItem) (code : List ℕ) (at : ℕ) → Holds (IsSpelledPlaced pool) (lookup_switch_at code at)
unfolding lookup_switch_at
lookup_spelled pool code at =
    let place : ℕ = operands_from at in
    let count : ℤ = signed_at w32 code (place + 4) in
    let next : ℕ = place + 8 + 8 * unsigned_abs count in
    let pairs : List (ℤ × ℕ) = pairs_from code at (place + 8) (unsigned_abs count) in
    tested (nat_le (place + 8) (length code)) (CutOp at) _
    (tested (int_le (pos 0) count) (BadSwitch at) _
    (tested (nat_le next (length code)) (BadSwitch at) _
    (tested (rise pairs) (BadSwitch at) _
    (placed pool at next (LookupOp (target at (signed_at w32 code place)) pairs) tt))))

-- `wide` and an instruction
wide_of_spelled : (pool : List PoolItem) (size : ℕ) (op : List ℕ → Op) (code : List ℕ) (at : ℕ) → ((xs : List ℕ) → IsSpelled pool (op xs)) → Holds (IsSpelledPlaced pool) (wide_of size op code at)
unfolding wide_of
wide_of_spelled pool size op code at h =
    let next : ℕ = at + 2 + size in
    tested (nat_le next (length code)) (CutOp at) _ (placed pool at next (op (slice_range code (at + 2) next)) (h (slice_range code (at + 2) next)))

-- each form behind `wide`
pub widened_spelled : (pool : List PoolItem) (form : Form) (code : List ℕ) (at : ℕ) → IsSpelledForm pool form → Holds (IsSpelledPlaced pool) (widened form code at)
widened_spelled pool (Local op) code at h = wide_of_spelled pool 2 (λ xs. op (number_at w16 xs 0)) code at (λ xs. h (number_at w16 xs 0))
widened_spelled pool (LocalAndByte op) code at h = wide_of_spelled pool 4 (λ xs. op (number_at w16 xs 0) (signed_at w16 xs 2)) code at (λ xs. h (number_at w16 xs 0) (signed_at w16 xs 2))
widened_spelled pool LeftOutLocal code at h = bad (LeftOutOp at)
widened_spelled pool _ code at h = bad (UnknownOp at)
