-- What a thread plans, by its top level.
use Rattle.std.specs.Prelude.{not, Option, Some, None}
use Rattle.jvm_base.specs.Words.{from}
use Rattle.jvm_base.specs.declared.name.Name.{Name}
use Rattle.jvm_base.specs.declared.frame.Level.{Level}
use Rattle.jvm_base.specs.declared.frame.Level.TheVariants.{Code, Init}
use Rattle.program_image.specs.Program.{Program}
use Rattle.program_image.specs.Subclass.{is_sub_of}
use Rattle.machine_state.specs.BootClasses.{error}
use Rattle.machine_state.specs.declared.request.Request.TheVariants.{InitFail, Finish}
use Rattle.machine_state.specs.Next.{Needs, Plan, Who, plain}
use Rattle.machine_state.specs.Plan.{frame_plan, init_plan, unwinds, handled, handler_for}

-- of a thread that runs
abbrev pub running_on : Program → Who → Option Level → Plan
running_on p who None = plain (Needs (Finish None))
running_on p who (Some (Code f)) = frame_plan p who f f.phase f.lock
running_on p who (Some (Init c begun)) = init_plan p who c begun

-- of one that raises
abbrev pub raising_on : Program → Name → Option Level → Plan
raising_on p e None = plain (Needs (Finish (Some e)))
raising_on p e (Some (Code f)) =
    plain (from (unwinds f.phase f.lock) (handled f e) (handler_for p f e))
raising_on p e (Some (Init c begun)) =
    plain (Needs (InitFail c (not (is_sub_of p.classes e.class error))))
