-- Nothing comes of most instructions but that their frame goes on.
use Rattle.std.proofs.Common.{◌≡◌, ◌≢◌, ℕ, ℤ, Bool, true, false, List, [], ◌∷◌, refl}
use Rattle.std.specs.Prelude.{if◌then◌else◌, slice_get}
use Rattle.jvm_base.specs.Words.{from}
use Rattle.std.specs.Int.{Width}
use Rattle.jvm_base.specs.declared.value.Value.{Value}
use Rattle.jvm_base.specs.declared.value.Value.TheVariants.{Int, Long}
use Rattle.code_table.specs.declared.op.Op.{Op}
use Rattle.code_table.specs.declared.op.Op.TheVariants as op
use Rattle.instruction_table.specs.Rows.{is_on_ints}
use Rattle.frame_ops.specs.declared.answer.Given.{Given}
use Rattle.frame_ops.specs.declared.answer.Fault.TheVariants.{Arithmetic}
use Rattle.frame_ops.specs.declared.answer.Pure.TheVariants.{Next, Raise}
use Rattle.frame_ops.specs.declared.families.Family.TheVariants.{Numbers}
use Rattle.frame_ops.specs.Moves.{Move, Raises, pure_answer}
use Rattle.frame_ops.specs.Numbers.{arithmetic, bitwise}
use Rattle.frame_ops.specs.Operands.{one, two, one_int, two_ints, two_longs, long_and_int, two_numbers, is_zero, divides, negates, shifts, resizes, branches, local_at}
use Rattle.frame_ops.specs.Running.Families.{family_of, move_on, GoesOn}
use Rattle.frame_ops.specs.Table.{move_of}

-- nothing but that comes of the move
abbrev On : Move → Type 0
On m = pure_answer m ≡ Next

-- ---- where operands are missing or of another kind, too

if_on : (b : Bool) (m n : Move) → On m → On n → On (if b then m else n)
if_on true m n h k = h
if_on false m n h k = k

one_on : (f : Value → List Value → Move) → ((v : Value) (vs : List Value) → On (f v vs)) → (vs : List Value) → On (one f vs)
one_on f h (v ∷ vs) = h v vs
one_on f h [] = refl

two_on : (f : Value → Value → List Value → Move) → ((a b : Value) (vs : List Value) → On (f a b vs)) → (vs : List Value) → On (two f vs)
two_on f h (b ∷ a ∷ vs) = h a b vs
two_on f h _ = refl

one_int_on : (f : ℤ → List Value → Move) → ((a : ℤ) (vs : List Value) → On (f a vs)) → (vs : List Value) → On (one_int f vs)
one_int_on f h (Int a ∷ vs) = h a vs
one_int_on f h _ = refl

two_ints_on : (f : ℤ → ℤ → List Value → Move) → ((a b : ℤ) (vs : List Value) → On (f a b vs)) → (vs : List Value) → On (two_ints f vs)
two_ints_on f h (Int b ∷ Int a ∷ vs) = h a b vs
two_ints_on f h _ = refl

two_longs_on : (f : ℤ → ℤ → List Value → Move) → ((a b : ℤ) (vs : List Value) → On (f a b vs)) → (vs : List Value) → On (two_longs f vs)
two_longs_on f h (Long b ∷ Long a ∷ vs) = h a b vs
two_longs_on f h _ = refl

long_and_int_on : (f : ℤ → ℤ → List Value → Move) → ((a b : ℤ) (vs : List Value) → On (f a b vs)) → (vs : List Value) → On (long_and_int f vs)
long_and_int_on f h (Int b ∷ Long a ∷ vs) = h a b vs
long_and_int_on f h _ = refl

-- ---- numbers

-- two of them
pub two_numbers_on : (o : ℕ) (f : Width → ℤ → ℤ → ℤ) (vs : List Value) → On (two_numbers o f vs)
two_numbers_on o f vs = if_on (is_on_ints o) _ _ (two_ints_on _ (λ a b rest. refl) vs) (two_longs_on _ (λ a b rest. refl) vs)

negates_on : (vs : List Value) → On (negates vs)
negates_on (Int a ∷ vs) = refl
negates_on (Long a ∷ vs) = refl
negates_on _ = refl

resizes_on : (o : ℕ) (vs : List Value) → On (resizes o vs)
resizes_on o (Int a ∷ vs) = refl
resizes_on o (Long a ∷ vs) = refl
resizes_on o _ = refl

shifts_on : (o : ℕ) (vs : List Value) → On (shifts o vs)
shifts_on o vs = if_on (is_on_ints o) _ _ (two_ints_on _ (λ a b rest. refl) vs) (long_and_int_on _ (λ a b rest. refl) vs)

-- all of them but a division
pub number_goes_on : (o : Op) (vs : List Value) → family_of o ≡ Numbers → ((n : ℕ) → o ≢ op.Divide n) → pure_answer (move_on o vs) ≡ Next
number_goes_on (op.Arith o) vs h k = two_numbers_on o (arithmetic o) vs
number_goes_on (op.Divide o) vs h k = absurd (k o refl)
number_goes_on (op.Negate o) vs h k = negates_on vs
number_goes_on (op.Shift o) vs h k = shifts_on o vs
number_goes_on (op.Bits o) vs h k = two_numbers_on o (bitwise o) vs
number_goes_on (op.Resize o) vs h k = resizes_on o vs
number_goes_on op.Lcmp vs h k = two_longs_on _ (λ a b rest. refl) vs
number_goes_on _ vs h k = absurd cc

-- a division raises where the divisor is 0
divisor_seen : (o : ℕ) (f : Width → ℤ → ℤ → ℤ) (b : Bool) (vs : List Value) → pure_answer (if b then Raises Arithmetic else two_numbers o f vs) ≡ (if b then Raise Arithmetic else Next)
divisor_seen o f true vs = refl
divisor_seen o f false vs = two_numbers_on o f vs

pub division_seen : (o : ℕ) (f : Width → ℤ → ℤ → ℤ) (vs : List Value) → pure_answer (divides o f vs) ≡ from Next (λ b. if is_zero b then Raise Arithmetic else Next) (slice_get vs 0)
division_seen o f [] = refl
division_seen o f (b ∷ vs) = divisor_seen o f (is_zero b) (b ∷ vs)

-- ---- by family

branches_on : (b : Bool) (to : ℕ) (vs : List Value) → On (branches b to vs)
branches_on true to vs = refl
branches_on false to vs = refl

pub goes_on : (o : Op) (given : Given) (locals vs : List Value) → GoesOn (family_of o) → pure_answer (move_of o given locals vs) ≡ Next
goes_on op.Nop given locals vs h = refl
goes_on op.AconstNull given locals vs h = refl
goes_on (op.Iconst n) given locals vs h = refl
goes_on (op.Lconst n) given locals vs h = refl
goes_on (op.Push n) given locals vs h = refl
goes_on (op.Load o i) given locals vs h = refl
goes_on (op.Store o i) given locals vs h = one_on _ (λ v rest. refl) vs
goes_on (op.Iinc i by) given locals vs h = one_int_on _ (λ a rest. refl) (local_at locals i ∷ [])
goes_on (op.Pop o) given locals vs h = refl
goes_on (op.Dup o) given locals vs h = refl
goes_on op.Swap given locals vs h = refl
goes_on (op.IfZero o to) given locals vs h = one_int_on _ (λ a rest. branches_on _ to rest) vs
goes_on (op.IfInts o to) given locals vs h = two_ints_on _ (λ a b rest. branches_on _ to rest) vs
goes_on (op.IfRefs o to) given locals vs h = two_on _ (λ a b rest. branches_on _ to rest) vs
goes_on (op.IfNull o to) given locals vs h = one_on _ (λ a rest. branches_on _ to rest) vs
goes_on (op.Goto to) given locals vs h = refl
goes_on (op.TableSwitch other low high to) given locals vs h = one_int_on _ (λ a rest. refl) vs
goes_on (op.LookupSwitch other pairs) given locals vs h = one_int_on _ (λ a rest. refl) vs
goes_on _ given locals vs h = absurd h
