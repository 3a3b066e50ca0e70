-- An intrinsic looks at two values of its call.
use Rattle.std.proofs.Common.{◌≡◌, ℕ, List, [], ◌∷◌, refl}
use Rattle.std.specs.Prelude.{slice_get}
use Rattle.jvm_base.specs.declared.value.Value.{Value}
use Rattle.jvm_base.specs.declared.value.Value.TheVariants.{Int, Long, Ref}
use Rattle.jvm_base.specs.declared.frame.Frame.{Frame}
use Rattle.program_image.specs.Program.{Program}
use Rattle.machine_state.specs.Intrinsics as machine
use Rattle.machine_state.specs.IntrinsicCalls.{intrinsic_call}
use Rattle.machine_state.specs.Next.{Who}
use Rattle.step_plan.specs.Arguments.{two_of}

one_more : (p : Program) (who : Who) (k : ℕ) (f : Frame) (i : machine.Intrinsic) (v w : Value) (vs : List Value) → intrinsic_call p who k f i (v ∷ w ∷ vs) ≡ intrinsic_call p who k f i (v ∷ w ∷ [])
one_more p who k f machine.CharAt (Ref o) (Int i) vs = refl
one_more p who k f machine.CharAt _ _ vs = refl
one_more p who k f machine.ValueOf (Int a) w vs = refl
one_more p who k f machine.ValueOf (Long a) w vs = refl
one_more p who k f machine.ValueOf _ w vs = refl
one_more p who k f machine.CurrentThread v w vs = refl
one_more p who k f machine.Sleep v w vs = refl
one_more p who k f machine.Yield v w vs = refl
one_more p who k f _ (Ref o) w vs = refl
one_more p who k f _ _ w vs = refl

pub two_enough : (p : Program) (who : Who) (k : ℕ) (f : Frame) (i : machine.Intrinsic) (vs : List Value) → intrinsic_call p who k f i vs ≡ intrinsic_call p who k f i (two_of (slice_get vs 0) (slice_get vs 1))
two_enough p who k f i [] = refl
two_enough p who k f i (v ∷ []) = refl
two_enough p who k f i (v ∷ w ∷ vs) = one_more p who k f i v w vs
