-- What an instruction plans, by its move: in one form for all instructions.
use Rattle.std.proofs.Common.{◌≡◌, ◌∙◌, sym, ap, refl, ℕ, zero, suc, Bool, true, false, List, [], ◌∷◌, ◌++◌, take, Option, Some, None}
use Rattle.std.specs.Prelude.{if◌then◌else◌, reverse, slice_get}
use Rattle.std.specs.List.{list_any}
use mathlib.Core.List.{reverse-cons}
use Rattle.jvm_base.specs.Words.{from}
use Rattle.jvm_base.specs.declared.frame.Frame.{Frame}
use Rattle.jvm_base.specs.declared.name.Name.{Name}
use Rattle.jvm_base.specs.declared.value.Value.{Value}
use Rattle.jvm_base.specs.declared.value.Value.TheVariants.{Int, Long, Ref, Null}
use Rattle.code_table.specs.declared.code.Placed.{Placed}
use Rattle.code_table.specs.declared.op.Op.{Op}
use Rattle.hierarchy.specs.Walks.{has}
use Rattle.program_image.specs.declared.info.Target.{Target}
use Rattle.program_image.specs.Program.{Program, target_of}
use Rattle.frame_ops.specs.declared.answer.Fault.{Fault as FaultKind}
use Rattle.frame_ops.specs.declared.answer.Fault.TheVariants as kind
use Rattle.frame_ops.specs.Moves.{Move, Goes, Jumps, Sets, Raises, Throws as ThrowsIt, Asks as AsksIt, Calls as CallsIt, Leaves as LeavesIt, Stuck as StuckThere, frame_after, frame_moved}
use Rattle.frame_ops.specs.Operands.{with_reference, unless_null, with_sizes, is_negative_size}
use Rattle.frame_ops.specs.Stepping.{call_values}
use Rattle.machine_state.specs.Instructions.{shared_plan, call_plan, returns, fault_class, by_move}
use Rattle.machine_state.specs.Next.{Next, Alone, Throws, Stuck, Who, fault}
use Rattle.frame_soundness.specs.AcceptedProgram.{Types, Instruction, Accepted, faults, next_at}
use Rattle.frame_soundness.specs.Frames.{FrameFits}
use Rattle.frame_soundness.specs.Moving.{Moves}
use Rattle.step_soundness.proofs.FrameLaws.{arrives}
use Rattle.step_soundness.proofs.Requests.{Owes}

pub some_is : {A : Type 0} {x y : A} → Some x ≡ Some y → x ≡ y
some_is e = cc

-- what comes next of an instruction, by its move
abbrev pub next_of : Program → Who → Frame → Op → ℕ → Option Target → List Value → Move → Next
next_of image who f o at t vs AsksIt = (shared_plan image o t vs).next
next_of image who f o at t vs CallsIt = (call_plan image who f o t vs).next
next_of image who f o at t vs (Raises k) = fault (fault_class k)
next_of image who f o at t vs (ThrowsIt e) = Throws e
next_of image who f o at t vs (LeavesIt v) = returns f.lock v
next_of image who f o at t vs StuckThere = Stuck
next_of image who f o at t vs m = Alone (frame_after m at f)

pub by-move-is : (image : Program) (who : Who) (f : Frame) (i : Placed) (t : Option Target) (m : Move) → (by_move image who f i t m).next ≡ next_of image who f i.op i.next t f.stack.values m
by-move-is image who f i t AsksIt = refl
by-move-is image who f i t CallsIt = refl
by-move-is image who f i t (Raises k) = refl
by-move-is image who f i t (ThrowsIt e) = refl
by-move-is image who f i t (LeavesIt v) = refl
by-move-is image who f i t StuckThere = refl
by-move-is image who f i t (Goes vs) = refl
by-move-is image who f i t (Jumps to vs) = refl
by-move-is image who f i t (Sets n new vs) = refl

pub fault-fine : (k : FaultKind) → has faults (fault_class k) ≡ true
fault-fine kind.Arithmetic = refl
fault-fine kind.NullPointer = refl
fault-fine kind.ClassCast = refl
fault-fine kind.NegativeSize = refl

-- what is asked or called, or a fault
abbrev pub asked : Next → Move → Next
asked n AsksIt = n
asked n CallsIt = n
asked n (Raises k) = fault (fault_class k)
asked n _ = Stuck

pub asks-reference : (image : Program) (who : Who) (f : Frame) (o : Op) (at : ℕ) (t : Option Target) (us : List Value) (depth : ℕ) (vs : List Value) → next_of image who f o at t us (with_reference depth AsksIt vs) ≡ asked (shared_plan image o t us).next (with_reference depth AsksIt vs)
asks-reference image who f o at t us depth vs = by_value (slice_get vs depth)
  where
    by_value : (x : Option Value) → next_of image who f o at t us (from StuckThere (unless_null AsksIt) x) ≡ asked (shared_plan image o t us).next (from StuckThere (unless_null AsksIt) x)
    by_value None = refl
    by_value (Some (Ref n)) = refl
    by_value (Some Null) = refl
    by_value (Some (Int a)) = refl
    by_value (Some (Long a)) = refl

pub calls-reference : (image : Program) (who : Who) (f : Frame) (o : Op) (at : ℕ) (t : Option Target) (us : List Value) (depth : ℕ) (vs : List Value) → next_of image who f o at t us (with_reference depth CallsIt vs) ≡ asked (call_plan image who f o t us).next (with_reference depth CallsIt vs)
calls-reference image who f o at t us depth vs = by_value (slice_get vs depth)
  where
    by_value : (x : Option Value) → next_of image who f o at t us (from StuckThere (unless_null CallsIt) x) ≡ asked (call_plan image who f o t us).next (from StuckThere (unless_null CallsIt) x)
    by_value None = refl
    by_value (Some (Ref n)) = refl
    by_value (Some Null) = refl
    by_value (Some (Int a)) = refl
    by_value (Some (Long a)) = refl

pub asks-sizes : (image : Program) (who : Who) (f : Frame) (o : Op) (at : ℕ) (t : Option Target) (us : List Value) (n : ℕ) (vs : List Value) → next_of image who f o at t us (with_sizes n vs) ≡ asked (shared_plan image o t us).next (with_sizes n vs)
asks-sizes image who f o at t us n vs = by_test (list_any is_negative_size (take n vs))
  where
    by_test : (b : Bool) → next_of image who f o at t us (if b then Raises kind.NegativeSize else AsksIt) ≡ asked (shared_plan image o t us).next (if b then Raises kind.NegativeSize else AsksIt)
    by_test true = refl
    by_test false = refl

-- ---- the operand below others is the first value of a call that takes them all

take-last : {A : Type 0} (n : ℕ) (xs : List A) (x : A) → slice_get xs n ≡ Some x → take (suc n) xs ≡ take n xs ++ x ∷ []
take-last n [] x e = absurd cc
take-last zero (y ∷ xs) x e = let q : y ≡ x = cc in ap (λ z. z ∷ []) q
take-last (suc n) (y ∷ xs) x e = ap (λ z. y ∷ z) (take-last n xs x e)

reverse-last : {A : Type 0} (xs : List A) (x : A) → reverse (xs ++ x ∷ []) ≡ x ∷ reverse xs
reverse-last [] x = refl
reverse-last (y ∷ xs) x = reverse-cons y (xs ++ x ∷ []) ∙ ap (λ z. z ++ y ∷ []) (reverse-last xs x) ∙ ap (λ z. x ∷ z) (sym (reverse-cons y xs))

pub call-first : (n : ℕ) (vs : List Value) (v : Value) → slice_get vs n ≡ Some v → call_values (suc n) vs ≡ v ∷ reverse (take n vs)
call-first n vs v e = ap reverse (take-last n vs v e) ∙ reverse-last (take n vs) v

-- ---- moves of the frame alone

-- nothing that is shared is asked, and no call or return
abbrev pub IsOwn : Move → Type 0
IsOwn AsksIt = ⊥
IsOwn CallsIt = ⊥
IsOwn (LeavesIt v) = ⊥
IsOwn _ = Unit {0}

module _ (image : Program) (types : Types) (accepted : Accepted image types) (there : Name → Bool) (f : Frame) (s : FrameFits image types there f) (i : Instruction image types f.method f.at s.work) (who : Who) where
  -- such a move is never stuck, and the frame fits after it
  pub move-owes : (vs : List Value) (m : Move) → IsOwn m → Moves image f.method there f.locals i.placed.op (next_at image f.method f.at i.placed.op s.work) m → Owes image types accepted there f (next_of image who f i.placed.op i.placed.next (target_of image f.method f.at) vs m)
  move-owes us (Goes vs) o h = record { fits = arrives image types accepted there f (frame_moved f i.placed.next vs) _ s refl refl refl h.1 (i.after h.0); same_method = refl; same_phase = refl }
  move-owes us (Jumps to vs) o h = record { fits = arrives image types accepted there f (frame_moved f to vs) _ s refl refl refl h.1 (i.jumps_to to h.0); same_method = refl; same_phase = refl }
  move-owes us (Sets n new vs) o h = record { fits = arrives image types accepted there f (frame_after (Sets n new vs) i.placed.next f) _ s refl refl refl h.1 (i.after h.0); same_method = refl; same_phase = refl }
  move-owes us (Raises k) o h = fault-fine k
  move-owes us (ThrowsIt e) o h = h
  move-owes us AsksIt o h = absurd o
  move-owes us CallsIt o h = absurd o
  move-owes us (LeavesIt v) o h = absurd o
  move-owes us StuckThere o h = absurd h
