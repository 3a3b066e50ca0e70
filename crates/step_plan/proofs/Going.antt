-- How the top frame comes to a plan, by what the plan says.
use Rattle.std.proofs.Common.{◌≡◌, ℕ, Bool, true, false, List, Option, Some, None, sym, ap, ◌∙◌, subst}
use Rattle.jvm_base.specs.Words.{from}
use Rattle.jvm_base.specs.declared.value.Value.{Value}
use Rattle.jvm_base.specs.declared.frame.Frame.{Frame}
use Rattle.code_table.specs.declared.op.Op.{Op}
use Rattle.code_table.specs.declared.code.Placed.{Placed}
use Rattle.program_image.specs.Program.{Program}
use Rattle.program_image.specs.Words.{instruction_at}
use Rattle.frame_ops.specs.declared.answer.Given.{Given}
use Rattle.frame_ops.specs.Moves.{frame_after}
use Rattle.frame_ops.specs.Stepping.{move_at}
use Rattle.machine_state.specs.Next.{Next, Alone, Stuck, Plan, Who}
use Rattle.machine_state.specs.Plan.{init_plan}
use Rattle.step_plan.specs.declared.plan.Next.{Next as Told}
use Rattle.step_plan.specs.declared.plan.Next.TheVariants as told
use Rattle.step_plan.specs.declared.plan.Plan.{Plan as ToldPlan}
use Rattle.step_plan.specs.Depth.{called}
use Rattle.step_plan.specs.Shown.{moves, shown, shown_next}
use Rattle.step_plan.specs.Ways.{GoesBy, IsInvoke, IsNoMove, IsOfCall}
use Rattle.step_plan.proofs.Outward.{IsOutward, IsSent, sent_outward, init_sent}

-- a move goes on, or is stuck
no_outward_move : (given : Given) (f : Frame) (o : Option Placed) → IsOutward (from Stuck (λ i. Alone (frame_after (move_at i given f) i.next f)) o) → ⊥
no_outward_move given f None h = h
no_outward_move given f (Some i) h = h

-- where no frame goes on
pub outward_goes : (p : Program) (f : Frame) (t : Told) (n : Next) → shown_next p (Some f) t ≡ n → IsOutward n → GoesBy p (Some f) t
outward_goes p f (told.Moves given) n e h = absurd (no_outward_move given f (instruction_at p f.method f.at) (subst IsOutward (sym e) h))
outward_goes p f (told.Answered v) n e h = absurd (subst IsOutward (sym e) h)
outward_goes p f _ n e h = tt

-- where a call or a request comes
pub sent_goes : (p : Program) (f : Option Frame) (t : Told) (n : Next) → shown_next p f t ≡ n → IsSent n → GoesBy p f t
sent_goes p (Some f) t n e h = outward_goes p f t n e (sent_outward n h)
sent_goes p None (told.Moves given) n e h = absurd (subst IsSent (sym e) h)
sent_goes p None (told.Answered v) n e h = absurd (subst IsSent (sym e) h)
sent_goes p None (told.Caught x at) n e h = absurd (subst IsSent (sym e) h)
sent_goes p None (told.Leaves v) n e h = absurd (subst IsSent (sym e) h)
sent_goes p None _ n e h = tt

-- no call of a method is a move
pub called_still : (room : Bool) (m : ℕ) (vs : List Value) → IsNoMove (called room m vs)
called_still true m vs = tt
called_still false m vs = tt

-- of an instruction that calls comes what is no move
pub no_move_of_call : (o : Op) (t : Told) → IsInvoke o → IsNoMove t → IsOfCall o t
no_move_of_call o (told.Moves given) h k = k
no_move_of_call o (told.Answered v) h k = h
no_move_of_call o _ h k = tt

-- a class that its thread initialises
pub init_goes : (p : Program) (who : Who) (c : ℕ) (begun : Bool) (x : ToldPlan) → shown p None x ≡ init_plan p who c begun → GoesBy p None x.next
init_goes p who c begun x e = sent_goes p None x.next (init_plan p who c begun).next (ap (λ (q : Plan). q.next) e) (init_sent p who c begun)
