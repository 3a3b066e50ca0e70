-- The receiver of a call lies below its arguments.
use Rattle.std.proofs.Common.{◌≡◌, ℕ, ◌-◌, ◌<◌, ◌≤◌, ◌==◌, true, false, List, [], ◌∷◌, length, Option, Some, refl, ap, ◌∙◌, arith}
use Rattle.std.specs.Prelude.{slice_get, if◌then◌else◌}
use Rattle.jvm_base.specs.declared.name.Name.{Name}
use Rattle.jvm_base.specs.declared.value.Value.{Value}
use Rattle.jvm_base.specs.declared.value.Value.TheVariants.{Int, Long, Ref, Null}
use Rattle.jvm_base.specs.declared.frame.Frame.{Frame}
use Rattle.code_table.specs.declared.opcode.TheConstants as code
use Rattle.program_image.specs.Program.{Program}
use Rattle.frame_ops.specs.Stepping.{call_values}
use Rattle.machine_state.specs.Calls.{with_receiver, receiver_call, special_call, selected_call}
use Rattle.machine_state.specs.Next.{Next, Stuck, Who}
use Rattle.step_plan.proofs.Operands.{call_value}

-- what comes of a receiver
abbrev pub on_receiver : (Name → Next) → Option Value → Next
on_receiver f (Some (Ref n)) = f n
on_receiver f _ = Stuck

first_is : (f : Name → Next) (vs : List Value) → with_receiver vs f ≡ on_receiver f (slice_get vs 0)
first_is f [] = refl
first_is f (Ref n ∷ vs) = refl
first_is f (Int a ∷ vs) = refl
first_is f (Long a ∷ vs) = refl
first_is f (Null ∷ vs) = refl

pub receiver_is : (p : Program) (who : Who) (f : Frame) (o m n : ℕ) (vs : List Value) → 0 < n → n ≤ length vs → receiver_call p who f o m (call_values n vs) ≡ on_receiver (λ r. if o == code.INVOKESPECIAL then special_call p who f m (call_values n vs) else selected_call p who f o m (call_values n vs) r) (slice_get vs (n - 1))
receiver_is p who f o m n vs h l =
    let g : Name → Next = λ r. if o == code.INVOKESPECIAL then special_call p who f m (call_values n vs) else selected_call p who f o m (call_values n vs) r in
    let e : n - 1 - 0 ≡ n - 1 = omega arith in
    first_is g (call_values n vs) ∙ ap (on_receiver g) (call_value vs n 0 l h ∙ ap (slice_get vs) e)

-- by `invokespecial`
pub receiver_special : (p : Program) (who : Who) (f : Frame) (o m n : ℕ) (vs : List Value) (r : Name) → 0 < n → n ≤ length vs → slice_get vs (n - 1) ≡ Some (Ref r) → (o == code.INVOKESPECIAL) ≡ true → receiver_call p who f o m (call_values n vs) ≡ special_call p who f m (call_values n vs)
receiver_special p who f o m n vs r h l e b = receiver_is p who f o m n vs h l ∙ ap (on_receiver (λ q. if o == code.INVOKESPECIAL then special_call p who f m (call_values n vs) else selected_call p who f o m (call_values n vs) q)) e ∙ rw b refl

-- by another instruction
pub receiver_selected : (p : Program) (who : Who) (f : Frame) (o m n : ℕ) (vs : List Value) (r : Name) → 0 < n → n ≤ length vs → slice_get vs (n - 1) ≡ Some (Ref r) → (o == code.INVOKESPECIAL) ≡ false → receiver_call p who f o m (call_values n vs) ≡ selected_call p who f o m (call_values n vs) r
receiver_selected p who f o m n vs r h l e b = receiver_is p who f o m n vs h l ∙ ap (on_receiver (λ q. if o == code.INVOKESPECIAL then special_call p who f m (call_values n vs) else selected_call p who f o m (call_values n vs) q)) e ∙ rw b refl
