-- What is read at an address: an instruction ends behind its address and within the code, and a refusal is one of the first five and names the address.
use Rattle.std.proofs.Common.{◌≡◌, ℕ, ◌+◌, ◌*◌, ◌<◌, ◌≤◌, List, length, Option, Some, None, Result, Ok, Err, Bool, true, false, if◌then◌else◌, nat_le, nat_lt, ◌==◌, ◌||◌, ◌&&◌, refl, subst, slice_get, arith}
use Rattle.std.proofs.lemmas.Bool.Decides.{nat_tests}
use Rattle.std.specs.Prelude.{slice_range, pos, unsigned_abs, ◌-ℤ◌, int_le}
use Rattle.std.specs.Int.{w8, w16, w32}
use Rattle.jvm_base.specs.declared.pool.PoolItem.{PoolItem}
use Rattle.jvm_base.specs.declared.pool.PoolItem.TheVariants.{Integer, Float, Long, Double, Text}
use Rattle.jvm_base.specs.declared.desc.Desc.{Desc}
use Rattle.jvm_base.specs.declared.desc.MethodDesc.{MethodDesc}
use Rattle.jvm_base.specs.Descriptors.{args_slots}
use Rattle.code_table.specs.declared.error.CodeErr.{CodeErr}
use Rattle.code_table.specs.declared.error.CodeErr.TheVariants.{UnknownOp, LeftOutOp, CutOp, BadSwitch, BadIndex}
use Rattle.code_table.specs.declared.code.Placed.{Placed}
use Rattle.code_table.specs.declared.op.Op.{Op}
use Rattle.code_table.specs.declared.op.Op.TheVariants.{TableSwitch, LookupSwitch}
use Rattle.code_table.specs.Numbers.{number_at, signed_at, target}
use Rattle.jvm_base.specs.Refusing.{◌>>=◌, need, want}
use Rattle.code_table.specs.Items.{field_desc, method_desc, interface_method_desc, class_dimensions}
use Rattle.constant_pool.specs.Items.{class_at}
use Rattle.code_table.specs.Forms.{Form, Alone, Byte, Short, Local, LocalAndByte, Near, Far, Constant, ConstantW, Constant2W, OnField, OnMethod, OnInterface, OnClass, ElementClass, ElementKind, Dimensions, TableSwitch as TableForm, LookupSwitch as LookupForm, Wide, LeftOut, LeftOutLocal, Unknown, size, meaning}
use Rattle.code_table.specs.ElementKinds.{is_kind, is_left_out_kind}
use Rattle.code_table.specs.Pooled.{loaded, loaded_2w, constant, field, method, interface_method, on_class, on_element, on_dimensions, element_kind}
use Rattle.code_table.specs.Switches.{operands_from, targets_from, pairs_from, rise, table_switch_at, lookup_switch_at}
use Rattle.code_table.specs.Instructions.{sized_at, wide_of, widened, wide_at, by_form, instruction_at}
use Rattle.code_table.specs.Table.{form_at}
use Rattle.code_table.specs.Sequences.{EndsWithin}
use Rattle.code_table.specs.Accepted.{IsHere}

-- P holds of what was read, and Q of a refusal
pub record Reads {A : Type 0} (P : A → Type 0) (Q : CodeErr → Type 0) (r : Result A CodeErr) : Type 0 where
  pub ok : (x : A) → r ≡ Ok x → P x
  pub err : (e : CodeErr) → r ≡ Err e → Q e

-- what was read
fine : {A : Type 0} {P : A → Type 0} {Q : CodeErr → Type 0} (x : A) → P x → Reads P Q (Ok x)
fine {A} {P} {Q} x h = record { ok = λ y e. let same : x ≡ y = cc in subst P same h; err = λ e f. absurd (cc) }

-- what was refused
bad : {A : Type 0} {P : A → Type 0} {Q : CodeErr → Type 0} (e : CodeErr) → Q e → Reads P Q (Err e)
bad {A} {P} {Q} e h = record { ok = λ y f. absurd (cc); err = λ d f. let same : e ≡ d = cc in subst Q same h }

-- one of two by a test
either : {A : Type 0} {P : A → Type 0} {Q : CodeErr → Type 0} (b : Bool) (x y : Result A CodeErr) → Reads P Q x → Reads P Q y → Reads P Q (if b then x else y)
either true x y hx hy = hx
either false x y hx hy = hy

-- behind a test
tested : {A : Type 0} {P : A → Type 0} {Q : CodeErr → Type 0} (b : Bool) (e : CodeErr) (f : Unit {0} → Result A CodeErr) → Q e → (b ≡ true → Reads P Q (f tt)) → Reads P Q (need b e >>= f)
tested true e f here h = h refl
tested false e f here h = bad e here

-- behind a value that may be there
wanted : {A B : Type 0} {P : B → Type 0} {Q : CodeErr → Type 0} (o : Option A) (e : CodeErr) (f : A → Result B CodeErr) → Q e → ((x : A) → Reads P Q (f x)) → Reads P Q (want o e >>= f)
wanted (Some x) e f here h = h x
wanted None e f here h = bad e here

-- behind what was read
given : {A B : Type 0} {R : A → Type 0} {P : B → Type 0} {Q : CodeErr → Type 0} (r : Result A CodeErr) (f : A → Result B CodeErr) → Reads R Q r → ((x : A) → Reads P Q (f x)) → Reads P Q (r >>= f)
given (Ok x) f hr h = h x
given (Err e) f hr h = bad e (hr.err e refl)

-- of an instruction by itself nothing is said
anything : Op → Type 0
anything _ = Unit {0}

-- an instruction is read, or a refusal that names the address
abbrev reads_op : ℕ → Result Op CodeErr → Type 0
reads_op at r = Reads anything (IsHere at) r

-- nothing is said of it
any : (op : Op) → anything op
unfolding anything
any op = tt

-- the words of Pooled, one by one
loaded_reads : (o : Option PoolItem) (i at : ℕ) → reads_op at (loaded o i at)
loaded_reads (Some (Integer n)) i at = fine _ (any _)
loaded_reads (Some (Text name)) i at = fine _ (any _)
loaded_reads (Some (Float bits)) i at = bad (LeftOutOp at) refl
loaded_reads _ i at = bad (BadIndex at) refl

-- a constant of two slots
loaded_2w_reads : (o : Option PoolItem) (i at : ℕ) → reads_op at (loaded_2w o i at)
loaded_2w_reads (Some (Long n)) i at = fine _ (any _)
loaded_2w_reads (Some (Double bits)) i at = bad (LeftOutOp at) refl
loaded_2w_reads _ i at = bad (BadIndex at) refl

-- a constant at an index
constant_reads : (pool : List PoolItem) (i at : ℕ) → reads_op at (constant pool i at)
constant_reads pool i at = loaded_reads (slice_get pool i) i at

-- the kind of an element
element_kind_reads : (op : ℕ → Op) (kind at : ℕ) → reads_op at (element_kind op kind at)
element_kind_reads op kind at =
    either (is_left_out_kind kind) _ _ (bad (LeftOutOp at) refl)
    (either (is_kind kind) _ _ (fine _ (any _)) (bad (BadIndex at) refl))

-- the class of an element
element_reads : (o : Option ℕ) (op : Op) (at : ℕ) → reads_op at (on_element o op at)
element_reads (Some dims) op at = either (nat_lt dims 255) _ _ (fine _ (any _)) (bad (BadIndex at) refl)
element_reads None op at = bad (BadIndex at) refl

-- dimensions
made_reads : (o : Option ℕ) (n : ℕ) (op : Op) (at : ℕ) → reads_op at (on_dimensions o n op at)
made_reads (Some dims) n op at = either (n == 0 || nat_lt dims n) _ _ (bad (BadIndex at) refl) (fine _ (any _))
made_reads None n op at = bad (BadIndex at) refl

-- a class
on_class_reads : (o : Option ℕ) (op : Op) (at : ℕ) → reads_op at (on_class o op at)
on_class_reads (Some name) op at = fine _ (any _)
on_class_reads None op at = bad (BadIndex at) refl

-- a field
field_reads : (op : ℕ → Desc → Op) (pool : List PoolItem) (i at : ℕ) → reads_op at (field op pool i at)
unfolding field
field_reads op pool i at = wanted (field_desc pool i) (BadIndex at) _ refl (λ desc. fine _ (any _))

-- a method
method_reads : (op : ℕ → MethodDesc → Op) (pool : List PoolItem) (i at : ℕ) → reads_op at (method op pool i at)
unfolding method
method_reads op pool i at = wanted (method_desc pool i) (BadIndex at) _ refl (λ desc. fine _ (any _))

-- an interface's method
counted_reads : (op : ℕ → MethodDesc → Op) (xs : List ℕ) (pool : List PoolItem) (at : ℕ) → reads_op at (interface_method op xs pool at)
unfolding interface_method
counted_reads op xs pool at =
    wanted (interface_method_desc pool (number_at w16 xs 0)) (BadIndex at) _ refl (λ desc.
    tested ((number_at w8 xs 2 == 1 + args_slots desc.args) && (number_at w8 xs 3 == 0)) (BadIndex at) _ refl (λ _. fine _ (any _)))

-- a test that two numbers are in order
le : (m n : ℕ) → nat_le m n ≡ true → m ≤ n
le m n h = grind (arith, nat_tests)

-- an instruction of these parts ends within
placed : (at end next : ℕ) (op : Op) → at < next → nat_le next end ≡ true → Reads (EndsWithin at end) (IsHere at) (Ok (record { at = at; next = next; op = op }))
placed at end next op behind fits = fine (record { at = at; next = next; op = op }) (record { here = refl; behind = behind; within = le next end fits })

-- each form with operands
meaning_reads : (form : Form) (xs : List ℕ) (pool : List PoolItem) (at : ℕ) → reads_op at (meaning form xs pool at)
meaning_reads (Alone op) xs pool at = fine _ (any _)
meaning_reads (Byte op) xs pool at = fine _ (any _)
meaning_reads (Short op) xs pool at = fine _ (any _)
meaning_reads (Local op) xs pool at = fine _ (any _)
meaning_reads (LocalAndByte op) xs pool at = fine _ (any _)
meaning_reads (Near op) xs pool at = fine _ (any _)
meaning_reads (Far op) xs pool at = fine _ (any _)
meaning_reads Constant xs pool at = constant_reads pool (number_at w8 xs 0) at
meaning_reads ConstantW xs pool at = constant_reads pool (number_at w16 xs 0) at
meaning_reads Constant2W xs pool at = loaded_2w_reads (slice_get pool (number_at w16 xs 0)) (number_at w16 xs 0) at
meaning_reads (OnField op) xs pool at = field_reads op pool (number_at w16 xs 0) at
meaning_reads (OnMethod op) xs pool at = method_reads op pool (number_at w16 xs 0) at
meaning_reads (OnClass op) xs pool at = on_class_reads (class_at pool (number_at w16 xs 0)) (op (number_at w16 xs 0)) at
meaning_reads (ElementClass op) xs pool at = element_reads (class_dimensions pool (number_at w16 xs 0)) (op (number_at w16 xs 0)) at
meaning_reads (OnInterface op) xs pool at = counted_reads op xs pool at
meaning_reads (ElementKind op) xs pool at = element_kind_reads op (number_at w8 xs 0) at
meaning_reads (Dimensions op) xs pool at = made_reads (class_dimensions pool (number_at w16 xs 0)) (number_at w8 xs 2) (op (number_at w16 xs 0) (number_at w8 xs 2)) at
meaning_reads _ xs pool at = bad (UnknownOp at) refl

-- an instruction whose opcode tells its length
sized_reads : (form : Form) (code : List ℕ) (pool : List PoolItem) (at : ℕ) → Reads (EndsWithin at (length code)) (IsHere at) (sized_at form code pool at)
unfolding sized_at
sized_reads form code pool at =
    let next = at + 1 + size form in
    tested (nat_le next (length code)) (CutOp at) _ refl (λ fits.
    given (meaning form (slice_range code (at + 1) next) pool at) _ (meaning_reads form (slice_range code (at + 1) next) pool at) (λ x.
    placed at (length code) next x (omega arith) fits))

-- the operands of a switch lie behind it
behind : (at : ℕ) → at < operands_from at
behind at = omega arith

-- tableswitch
table_switch_reads : (code : List ℕ) (at : ℕ) → Reads (EndsWithin at (length code)) (IsHere at) (table_switch_at code at)
unfolding table_switch_at
table_switch_reads code at =
    let low = signed_at w32 code (operands_from at + 4) in
    let high = signed_at w32 code (operands_from at + 8) in
    let count = unsigned_abs (high -ℤ low) + 1 in
    let next = operands_from at + 12 + 4 * count in
    tested (nat_le (operands_from at + 12) (length code)) (CutOp at) _ refl (λ _.
    tested (int_le low high) (BadSwitch at) _ refl (λ _.
    tested (nat_le next (length code)) (BadSwitch at) _ refl (λ fits.
    placed at (length code) next (TableSwitch (target at (signed_at w32 code (operands_from at))) low high (targets_from code at (operands_from at + 12) count)) (let b = behind at in omega arith) fits)))

-- lookupswitch
lookup_switch_reads : (code : List ℕ) (at : ℕ) → Reads (EndsWithin at (length code)) (IsHere at) (lookup_switch_at code at)
unfolding lookup_switch_at
lookup_switch_reads code at =
    let count = signed_at w32 code (operands_from at + 4) in
    let next = operands_from at + 8 + 8 * unsigned_abs count in
    let pairs = pairs_from code at (operands_from at + 8) (unsigned_abs count) in
    tested (nat_le (operands_from at + 8) (length code)) (CutOp at) _ refl (λ _.
    tested (int_le (pos 0) count) (BadSwitch at) _ refl (λ _.
    tested (nat_le next (length code)) (BadSwitch at) _ refl (λ fits.
    tested (rise pairs) (BadSwitch at) _ refl (λ _.
    placed at (length code) next (LookupSwitch (target at (signed_at w32 code (operands_from at))) pairs) (let b = behind at in omega arith) fits))))

-- `wide` and an instruction
wide_of_reads : (size : ℕ) (op : List ℕ → Op) (code : List ℕ) (at : ℕ) → Reads (EndsWithin at (length code)) (IsHere at) (wide_of size op code at)
unfolding wide_of
wide_of_reads size op code at =
    let next = at + 2 + size in
    tested (nat_le next (length code)) (CutOp at) _ refl (λ fits. placed at (length code) next (op (slice_range code (at + 2) next)) (omega arith) fits)

-- each form behind `wide`
widened_reads : (form : Form) (code : List ℕ) (at : ℕ) → Reads (EndsWithin at (length code)) (IsHere at) (widened form code at)
widened_reads (Local op) code at = wide_of_reads 2 (λ xs. op (number_at w16 xs 0)) code at
widened_reads (LocalAndByte op) code at = wide_of_reads 4 (λ xs. op (number_at w16 xs 0) (signed_at w16 xs 2)) code at
widened_reads LeftOutLocal code at = bad (LeftOutOp at) refl
widened_reads _ code at = bad (UnknownOp at) refl

-- what stands at a `wide`
wide_reads : (code : List ℕ) (at : ℕ) → Reads (EndsWithin at (length code)) (IsHere at) (wide_at code at)
unfolding wide_at
wide_reads code at = tested (nat_lt (at + 1) (length code)) (CutOp at) _ refl (λ _. widened_reads (form_at (number_at w8 code (at + 1))) code at)

-- each form
form_reads : (form : Form) (code : List ℕ) (pool : List PoolItem) (at : ℕ) → Reads (EndsWithin at (length code)) (IsHere at) (by_form form code pool at)
form_reads Unknown code pool at = bad (UnknownOp at) refl
form_reads LeftOut code pool at = bad (LeftOutOp at) refl
form_reads LeftOutLocal code pool at = bad (LeftOutOp at) refl
form_reads TableForm code pool at = table_switch_reads code at
form_reads LookupForm code pool at = lookup_switch_reads code at
form_reads Wide code pool at = wide_reads code at
form_reads form code pool at = sized_reads form code pool at

-- an instruction ends behind its address and within the code
pub instruction_within : (code : List ℕ) (pool : List PoolItem) (at : ℕ) (p : Placed) → instruction_at code pool at ≡ Ok p → EndsWithin at (length code) p
unfolding instruction_at
instruction_within code pool at p h = (form_reads (form_at (number_at w8 code at)) code pool at).ok p h

-- a refusal names its address
pub refusal_here : (code : List ℕ) (pool : List PoolItem) (at : ℕ) (e : CodeErr) → instruction_at code pool at ≡ Err e → IsHere at e
unfolding instruction_at
refusal_here code pool at e h = (form_reads (form_at (number_at w8 code at)) code pool at).err e h
