-- How instructions take their operands, the newest first.
use Rattle.std.specs.Prelude.{ℕ, ℤ, pos, ◌-◌, ◌==◌, not, Bool, true, false, ◌||◌, if◌then◌else◌, int_lt, List, [], ◌∷◌, take, drop, find, Option, None, slice_get, slice_index}
use Rattle.std.specs.Int.{Width, w32, w64, int_wrapping_add, int_wrapping_neg, is_negative}
use Rattle.std.specs.List.{list_any}
use Rattle.std.specs.Ordering.{int_eq}
use Rattle.jvm_base.specs.Names.{name_eq}
use Rattle.jvm_base.specs.Words.{from}
use Rattle.jvm_base.specs.declared.value.Value.{Value}
use Rattle.jvm_base.specs.declared.value.Value.TheVariants.{Int, Long, Ref, Null}
use Rattle.code_table.specs.declared.opcode.TheConstants as code
use Rattle.instruction_table.specs.Rows.{is_on_ints}
use Rattle.instruction_table.specs.Working.{doubled, group_count, swapped}
use Rattle.instruction_table.specs.declared.row.Group.{Group}
use Rattle.instruction_table.specs.declared.row.Row.{Row}
use Rattle.instruction_table.specs.declared.row.Row.TheVariants as row
use Rattle.frame_ops.specs.declared.answer.Fault.TheVariants as fault
use Rattle.frame_ops.specs.declared.answer.Given.{Given}
use Rattle.frame_ops.specs.declared.answer.Given.TheVariants as given
use Rattle.frame_ops.specs.Narrowing.{as_byte, as_unit, as_short, as_int}
use Rattle.frame_ops.specs.Numbers.{shifted, shift_count, distance, ordered, compares}
use Rattle.frame_ops.specs.Moves.{Move, Goes, Jumps, Sets, Raises, Throws, Asks, Calls, Stuck}

-- ---- by their kinds; the older of two is given first

-- one value
abbrev pub one : (Value → List Value → Move) → List Value → Move
one f (v ∷ vs) = f v vs
one f [] = Stuck

-- two values
abbrev pub two : (Value → Value → List Value → Move) → List Value → Move
two f (b ∷ a ∷ vs) = f a b vs
two f _ = Stuck

-- an int
abbrev pub one_int : (ℤ → List Value → Move) → List Value → Move
one_int f (Int a ∷ vs) = f a vs
one_int f _ = Stuck

-- two ints
abbrev pub two_ints : (ℤ → ℤ → List Value → Move) → List Value → Move
two_ints f (Int b ∷ Int a ∷ vs) = f a b vs
two_ints f _ = Stuck

-- two longs
abbrev pub two_longs : (ℤ → ℤ → List Value → Move) → List Value → Move
two_longs f (Long b ∷ Long a ∷ vs) = f a b vs
two_longs f _ = Stuck

-- a long, and an int above it
abbrev pub long_and_int : (ℤ → ℤ → List Value → Move) → List Value → Move
long_and_int f (Int b ∷ Long a ∷ vs) = f a b vs
long_and_int f _ = Stuck

-- two ints or two longs, by the opcode, to one of their kind
abbrev pub two_numbers : ℕ → (Width → ℤ → ℤ → ℤ) → List Value → Move
two_numbers o f vs =
    if is_on_ints o then two_ints (λ a b rest. Goes (Int (f w32 a b) ∷ rest)) vs
    else two_longs (λ a b rest. Goes (Long (f w64 a b) ∷ rest)) vs

-- ---- numbers

-- the value is 0
abbrev pub is_zero : Value → Bool
is_zero (Int b) = int_eq b (pos 0)
is_zero (Long b) = int_eq b (pos 0)
is_zero _ = false

-- a division, unless it is by 0
abbrev pub divides : ℕ → (Width → ℤ → ℤ → ℤ) → List Value → Move
divides o f [] = Stuck
divides o f (b ∷ vs) = if is_zero b then Raises fault.Arithmetic else two_numbers o f (b ∷ vs)

-- a negation
abbrev pub negates : List Value → Move
negates (Int a ∷ vs) = Goes (Int (int_wrapping_neg w32 a) ∷ vs)
negates (Long a ∷ vs) = Goes (Long (int_wrapping_neg w64 a) ∷ vs)
negates _ = Stuck

-- a shift by the low 5 bits for an int, the low 6 for a long
abbrev pub shifts : ℕ → List Value → Move
shifts o vs =
    if is_on_ints o then two_ints
    (λ a b rest. Goes (Int (shifted o w32 a (shift_count 32 b)) ∷ rest)) vs
    else long_and_int (λ a b rest. Goes (Long (shifted o w64 a (shift_count 64 b)) ∷ rest)) vs

-- an int to a long, byte, char or short
abbrev pub int_resized : ℕ → ℤ → Value
int_resized o a =
    if o == code.I2L then Long a
    else (if o == code.I2B then Int (as_byte a)
    else (if o == code.I2C then Int (pos (as_unit a)) else Int (as_short a)))

-- an int, or a long to an int
abbrev pub resizes : ℕ → List Value → Move
resizes o (Int a ∷ vs) = Goes (int_resized o a ∷ vs)
resizes o (Long a ∷ vs) = Goes (Int (as_int a) ∷ vs)
resizes o _ = Stuck

-- two longs compared
abbrev pub compares_longs : List Value → Move
compares_longs vs = two_longs (λ a b rest. Goes (Int (ordered a b) ∷ rest)) vs

-- ---- jumps

-- a jump to an address where the test holds
abbrev pub branches : Bool → ℕ → List Value → Move
branches holds to vs = if holds then Jumps to vs else Goes vs

-- the two references are one
abbrev pub same_reference : Value → Value → Bool
same_reference (Ref a) (Ref b) = name_eq a b
same_reference Null Null = true
same_reference _ _ = false

-- the value is null
abbrev pub is_null : Value → Bool
is_null Null = true
is_null _ = false

-- by a comparison of an int with 0
abbrev pub branches_zero : ℕ → ℕ → List Value → Move
branches_zero o to vs = one_int (λ a rest. branches (compares (o - code.IFEQ) a (pos 0)) to rest) vs

-- of two ints
abbrev pub branches_ints : ℕ → ℕ → List Value → Move
branches_ints o to vs =
    two_ints (λ a b rest. branches (compares (o - code.IF_ICMPEQ) a b) to rest) vs

-- two references pass `if_acmpeq` or `if_acmpne`
abbrev pub passes_refs : ℕ → Value → Value → Bool
passes_refs o a b = if o == code.IF_ACMPEQ then same_reference a b else not (same_reference a b)

-- by that
abbrev pub branches_refs : ℕ → ℕ → List Value → Move
branches_refs o to vs = two (λ a b rest. branches (passes_refs o a b) to rest) vs

-- a reference passes `ifnull` or `ifnonnull`
abbrev pub passes_null : ℕ → Value → Bool
passes_null o a = if o == code.IFNULL then is_null a else not (is_null a)

-- by that
abbrev pub branches_null : ℕ → ℕ → List Value → Move
branches_null o to vs = one (λ a rest. branches (passes_null o a) to rest) vs

-- where a `tableswitch` leads for a key
abbrev pub table_target : ℕ → ℤ → ℤ → List ℕ → ℤ → ℕ
table_target other low high to key =
    if int_lt key low || int_lt high key then other else slice_index to (distance key low)

-- the pair is the key's
abbrev pub is_of_key : ℤ → ℤ × ℕ → Bool
is_of_key key p = int_eq p.0 key

-- where a `lookupswitch` leads for a key
abbrev pub pair_target : ℕ → List (ℤ × ℕ) → ℤ → ℕ
pair_target other pairs key = from other (λ p. p.1) (find (is_of_key key) pairs)

-- a `tableswitch`
abbrev pub switches_table : ℕ → ℤ → ℤ → List ℕ → List Value → Move
switches_table other low high to vs =
    one_int (λ key rest. Jumps (table_target other low high to key) rest) vs

-- a `lookupswitch`
abbrev pub switches_pairs : ℕ → List (ℤ × ℕ) → List Value → Move
switches_pairs other pairs vs = one_int (λ key rest. Jumps (pair_target other pairs key) rest) vs

-- ---- locals

-- the value of a local
abbrev pub local_at : List Value → ℕ → Value
local_at locals i = from Null (λ v. v) (slice_get locals i)

-- the locals that a value takes: a long takes two
abbrev pub local_slots : Value → List Value
local_slots (Long a) = Long a ∷ Int (pos 0) ∷ []
local_slots v = v ∷ []

-- an operand goes into a local
abbrev pub stores : ℕ → List Value → Move
stores i vs = one (λ v rest. Sets i (local_slots v) rest) vs

-- an int in a local grows
abbrev pub bumps : ℕ → ℤ → List Value → List Value → Move
bumps i by locals vs =
    one_int (λ a rest. Sets i (Int (int_wrapping_add w32 a by) ∷ []) vs) (local_at locals i ∷ [])

-- ---- operands moved about

-- the value takes two slots
abbrev pub is_wide : Value → Bool
is_wide (Long a) = true
is_wide _ = false

-- the operands below a group
abbrev pub under : Group → List Value → List Value
under g vs = drop (group_count is_wide g vs) vs

-- what a row that moves operands about makes of them
abbrev pub shuffled : Row → List Value → List Value
shuffled (row.Drops g) vs = under g vs
shuffled (row.Doubles top below) vs =
    doubled (group_count is_wide top vs) (group_count is_wide below (under top vs)) vs
shuffled row.Swaps vs = swapped vs
shuffled _ vs = vs

-- ---- references

-- the move, where the value isn't null
abbrev pub unless_null : Move → Value → Move
unless_null move (Ref n) = move
unless_null move Null = Raises fault.NullPointer
unless_null move _ = Stuck

-- the move, where the operand below so many others isn't null
abbrev pub with_reference : ℕ → Move → List Value → Move
with_reference depth move vs = from Stuck (unless_null move) (slice_get vs depth)

-- what an instruction on a field asks; a put has the value above the object
abbrev pub field_move : ℕ → List Value → Move
field_move o vs = with_reference (if o == code.GETFIELD then 0 else 1) Asks vs

-- a call; its receiver lies below so many arguments
abbrev pub call_move : ℕ → ℕ → List Value → Move
call_move o args vs = if o == code.INVOKESTATIC then Calls else with_reference args Calls vs

-- an exception is thrown
abbrev pub throws : List Value → Move
throws (Ref n ∷ vs) = Throws n
throws (Null ∷ vs) = Raises fault.NullPointer
throws _ = Stuck

-- the value is a negative size
abbrev pub is_negative_size : Value → Bool
is_negative_size (Int a) = is_negative a
is_negative_size _ = false

-- an array is asked for, unless one of its sizes is negative
abbrev pub with_sizes : ℕ → List Value → Move
with_sizes n vs = if list_any is_negative_size (take n vs) then Raises fault.NegativeSize else Asks

-- a cast or a test of an object's class, and whether it is of the class; null passes the one and
-- fails the other
abbrev pub cast : ℕ → Bool → Value → List Value → Move
cast o fits Null vs = if o == code.CHECKCAST then Goes (Null ∷ vs) else Goes (Int (pos 0) ∷ vs)
cast o fits v vs =
    if o == code.CHECKCAST then (if fits then Goes (v ∷ vs) else Raises fault.ClassCast)
    else Goes (Int (pos (if fits then 1 else 0)) ∷ vs)

-- of the newest operand
abbrev pub casts : ℕ → Bool → List Value → Move
casts o fits vs = one (λ v rest. cast o fits v rest) vs

-- ---- what the program tells

-- the constant
abbrev pub given_constant : Given → Value
given_constant (given.Constant v) = v
given_constant _ = Null

-- whether an object is of the class that is named
abbrev pub given_fit : Given → Bool
given_fit (given.Fits b) = b
given_fit _ = false

-- ---- results

-- what a return instruction takes for its result
abbrev pub returned : ℕ → List Value → Option Value
returned o vs = if o == code.RETURN then None else slice_get vs 0
