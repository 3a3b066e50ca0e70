-- Only instructions that are answered from outside ask or call, and only returns leave.
use Rattle.std.proofs.Common.{◌≡◌, ℕ, ℤ, Bool, true, false, List, [], ◌∷◌, Option, Some, None, refl, arith}
use Rattle.std.specs.Prelude.{if◌then◌else◌, ◌==◌, slice_get, take}
use Rattle.std.specs.List.{list_any}
use Rattle.jvm_base.specs.Words.{from}
use Rattle.jvm_base.specs.declared.value.Value.{Value}
use Rattle.jvm_base.specs.declared.value.Value.TheVariants.{Int, Long, Ref, Null}
use Rattle.code_table.specs.declared.op.Op.{Op}
use Rattle.code_table.specs.declared.op.Op.TheVariants as op
use Rattle.code_table.specs.declared.opcode.TheConstants as code
use Rattle.frame_ops.specs.declared.answer.Given.{Given}
use Rattle.frame_ops.specs.declared.answer.Pure.TheVariants.{Next}
use Rattle.frame_ops.specs.Moves.{Move, Goes, Jumps, Sets, Raises, Throws, Asks, Calls, Leaves, Stuck, pure_answer}
use Rattle.frame_ops.specs.Numbers.{division}
use Rattle.frame_ops.specs.Operands.{two_numbers, divides, is_zero, cast, casts, throws, given_fit, unless_null, with_reference, call_move, is_negative_size}
use Rattle.frame_ops.specs.Table.{move_of}
use Rattle.frame_ops.proofs.GoingOn.{goes_on, number_goes_on, two_numbers_on}
use Rattle.frame_soundness.specs.Conditions.{MayTake}
use Rattle.step_complete.specs.Condition.{is_return}
use Rattle.step_after.specs.Conditions.{IsPlain, IsLeft, StaysIn}

-- what comes of an instruction: it returns; or it is answered from outside, and doesn't leave; or the
-- move is plain
pub data Kind (o : Op) (m : Move) : Type 0 where
  returns : is_return o ≡ true → IsLeft m → Kind o m
  asks : MayTake o None → StaysIn m → Kind o m
  plain : IsPlain m → Kind o m

-- ---- plain moves

plain_if : (b : Bool) (m n : Move) → IsPlain m → IsPlain n → IsPlain (if b then m else n)
plain_if true m n h k = h
plain_if false m n h k = k

plain_next : (m : Move) → pure_answer m ≡ Next → IsPlain m
plain_next Asks e = absurd cc
plain_next Calls e = absurd cc
plain_next (Leaves v) e = absurd cc
plain_next (Goes vs) e = tt
plain_next (Jumps to vs) e = tt
plain_next (Sets i new vs) e = tt
plain_next (Raises f) e = tt
plain_next (Throws n) e = tt
plain_next Stuck e = tt

plain_division : (o : ℕ) (vs : List Value) → IsPlain (divides o (division o) vs)
plain_division o [] = tt
plain_division o (b ∷ vs) = plain_if (is_zero b) _ _ tt (plain_next (two_numbers o (division o) (b ∷ vs)) (two_numbers_on o (division o) (b ∷ vs)))

plain_cast : (o : ℕ) (fits : Bool) (v : Value) (vs : List Value) → IsPlain (cast o fits v vs)
plain_cast o fits Null vs = plain_if (o == code.CHECKCAST) _ _ tt tt
plain_cast o fits (Int a) vs = plain_if (o == code.CHECKCAST) _ _ (plain_if fits _ _ tt tt) tt
plain_cast o fits (Long a) vs = plain_if (o == code.CHECKCAST) _ _ (plain_if fits _ _ tt tt) tt
plain_cast o fits (Ref n) vs = plain_if (o == code.CHECKCAST) _ _ (plain_if fits _ _ tt tt) tt

plain_casts : (o : ℕ) (fits : Bool) (vs : List Value) → IsPlain (casts o fits vs)
plain_casts o fits [] = tt
plain_casts o fits (v ∷ vs) = plain_cast o fits v vs

plain_throw : (vs : List Value) → IsPlain (throws vs)
plain_throw [] = tt
plain_throw (Int a ∷ vs) = tt
plain_throw (Long a ∷ vs) = tt
plain_throw (Ref n ∷ vs) = tt
plain_throw (Null ∷ vs) = tt

-- ---- moves that ask

stays_if : (b : Bool) (m n : Move) → StaysIn m → StaysIn n → StaysIn (if b then m else n)
stays_if true m n h k = h
stays_if false m n h k = k

stays_unless : (m : Move) (v : Value) → StaysIn m → StaysIn (unless_null m v)
stays_unless m (Ref n) h = h
stays_unless m Null h = tt
stays_unless m (Int a) h = tt
stays_unless m (Long a) h = tt

stays_of : (m : Move) (v : Option Value) → StaysIn m → StaysIn (from Stuck (unless_null m) v)
stays_of m None h = tt
stays_of m (Some v) h = stays_unless m v h

stays_with : (depth : ℕ) (m : Move) (vs : List Value) → StaysIn m → StaysIn (with_reference depth m vs)
stays_with depth m vs h = stays_of m (slice_get vs depth) h

stays_call : (o args : ℕ) (vs : List Value) → StaysIn (call_move o args vs)
stays_call o args vs = stays_if (o == code.INVOKESTATIC) _ _ tt (stays_with args Calls vs tt)

-- ---- all of them

pub kind_of : (o : Op) (given : Given) (locals vs : List Value) → Kind o (move_of o given locals vs)
kind_of (op.Return o) given locals vs = returns refl tt
kind_of (op.Invoke o i d) given locals vs = asks (omega arith) (stays_call o _ vs)
kind_of (op.ArrayLoad o) given locals vs = asks tt (stays_with 1 Asks vs tt)
kind_of (op.ArrayStore o) given locals vs = asks tt (stays_with 2 Asks vs tt)
kind_of (op.Static o i d) given locals vs = asks tt tt
kind_of (op.Field o i d) given locals vs = asks tt (stays_with _ Asks vs tt)
kind_of (op.New i) given locals vs = asks tt tt
kind_of (op.NewArray k) given locals vs = asks tt (stays_if (list_any is_negative_size (take 1 vs)) _ _ tt tt)
kind_of (op.AnewArray i) given locals vs = asks tt (stays_if (list_any is_negative_size (take 1 vs)) _ _ tt tt)
kind_of (op.MultiNewArray i n) given locals vs = asks tt (stays_if (list_any is_negative_size (take n vs)) _ _ tt tt)
kind_of op.ArrayLength given locals vs = asks tt (stays_with 0 Asks vs tt)
kind_of (op.Monitor o) given locals vs = asks tt (stays_with 0 Asks vs tt)
kind_of (op.Divide o) given locals vs = plain (plain_division o vs)
kind_of (op.Cast o i) given locals vs = plain (plain_casts o (given_fit given) vs)
kind_of op.Athrow given locals vs = plain (plain_throw vs)
kind_of (op.Ldc i) given locals vs = plain tt
kind_of (op.Ldc2 i) given locals vs = plain tt
kind_of (op.Arith o) given locals vs = plain (plain_next _ (number_goes_on (op.Arith o) vs refl (λ n e. absurd cc)))
kind_of (op.Negate o) given locals vs = plain (plain_next _ (number_goes_on (op.Negate o) vs refl (λ n e. absurd cc)))
kind_of (op.Shift o) given locals vs = plain (plain_next _ (number_goes_on (op.Shift o) vs refl (λ n e. absurd cc)))
kind_of (op.Bits o) given locals vs = plain (plain_next _ (number_goes_on (op.Bits o) vs refl (λ n e. absurd cc)))
kind_of (op.Resize o) given locals vs = plain (plain_next _ (number_goes_on (op.Resize o) vs refl (λ n e. absurd cc)))
kind_of op.Lcmp given locals vs = plain (plain_next _ (number_goes_on op.Lcmp vs refl (λ n e. absurd cc)))
kind_of op.Nop given locals vs = plain tt
kind_of op.AconstNull given locals vs = plain tt
kind_of (op.Iconst n) given locals vs = plain tt
kind_of (op.Lconst n) given locals vs = plain tt
kind_of (op.Push n) given locals vs = plain tt
kind_of (op.Load o i) given locals vs = plain tt
kind_of (op.Store o i) given locals vs = plain (plain_next _ (goes_on (op.Store o i) given locals vs tt))
kind_of (op.Iinc i by) given locals vs = plain (plain_next _ (goes_on (op.Iinc i by) given locals vs tt))
kind_of (op.Pop o) given locals vs = plain tt
kind_of (op.Dup o) given locals vs = plain tt
kind_of op.Swap given locals vs = plain tt
kind_of (op.IfZero o to) given locals vs = plain (plain_next _ (goes_on (op.IfZero o to) given locals vs tt))
kind_of (op.IfInts o to) given locals vs = plain (plain_next _ (goes_on (op.IfInts o to) given locals vs tt))
kind_of (op.IfRefs o to) given locals vs = plain (plain_next _ (goes_on (op.IfRefs o to) given locals vs tt))
kind_of (op.IfNull o to) given locals vs = plain (plain_next _ (goes_on (op.IfNull o to) given locals vs tt))
kind_of (op.Goto to) given locals vs = plain tt
kind_of (op.TableSwitch other low high to) given locals vs = plain (plain_next _ (goes_on (op.TableSwitch other low high to) given locals vs tt))
kind_of (op.LookupSwitch other pairs) given locals vs = plain (plain_next _ (goes_on (op.LookupSwitch other pairs) given locals vs tt))
