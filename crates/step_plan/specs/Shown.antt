-- What a plan in code says: the machine's plan.
use Rattle.std.specs.Prelude.{List, slice_get, Option, Some, None}
use Rattle.jvm_base.specs.Words.{from}
use Rattle.jvm_base.specs.declared.frame.Frame.{Frame}
use Rattle.jvm_base.specs.declared.frame.Level.{Level}
use Rattle.jvm_base.specs.declared.frame.Level.TheVariants.{Code}
use Rattle.program_image.specs.Program.{Program}
use Rattle.program_image.specs.Words.{instruction_at}
use Rattle.frame_ops.specs.declared.answer.Given.{Given}
use Rattle.frame_ops.specs.Moves.{frame_after}
use Rattle.frame_ops.specs.Stepping.{move_at}
use Rattle.machine_state.specs.Next.{Next, Alone, Throws, Calls, Leaves, Drops, Needs, Wants, Stuck, Plan, answers}
use Rattle.machine_state.specs.Plan.{handled}
use Rattle.step_plan.specs.declared.plan.Next.{Next as Told}
use Rattle.step_plan.specs.declared.plan.Next.TheVariants as told
use Rattle.step_plan.specs.declared.plan.Plan.{Plan as ToldPlan}

-- the frame of a level, where that is a call
abbrev pub frame_in : Option Level → Option Frame
frame_in (Some (Code f)) = Some f
frame_in _ = None

-- the frame of the top level
abbrev pub top_frame : List Level → Option Frame
top_frame ls = frame_in (slice_get ls 0)

-- the frame takes the move of its instruction, with what the program tells it
abbrev pub moves : Program → Given → Frame → Next
moves p given f =
    from Stuck (λ i. Alone (frame_after (move_at i given f) i.next f)) (instruction_at p f.method f.at)

-- what comes next, of a thread with this top frame
abbrev pub shown_next : Program → Option Frame → Told → Next
shown_next p f (told.Moves given) = from Stuck (moves p given) f
shown_next p f (told.Answered v) = from Stuck (λ g. answers p g v) f
shown_next p f (told.Caught e at) = from Stuck (λ g. handled g e at) f
shown_next p f (told.Throws e) = Throws e
shown_next p f (told.Calls m vs) = Calls m vs
shown_next p f (told.Leaves v) = Leaves v
shown_next p f told.Drops = Drops
shown_next p f (told.Needs r) = Needs r
shown_next p f (told.Wants n) = Wants n
shown_next p f told.Stuck = Stuck

-- and the plan
abbrev pub shown : Program → Option Frame → ToldPlan → Plan
shown p f t = record { asks = t.asks; next = shown_next p f t.next }
