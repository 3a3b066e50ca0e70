-- Why a choice is no step: the first reason that holds.
use Rattle.std.specs.Prelude.{not, if◌then◌else◌, Option, Some, None, slice_get}
use Rattle.program_image.specs.Program.{Program}
use Rattle.machine_state.specs.declared.state.Choice.{Choice}
use Rattle.machine_state.specs.declared.state.ThreadState.{ThreadState}
use Rattle.machine_state.specs.declared.state.Reason.{Reason}
use Rattle.machine_state.specs.declared.state.Reason.TheVariants.{NoThread, Over, Blocked, BadPick, BadName}
use Rattle.machine_state.specs.State.{State, is_ended}
use Rattle.machine_state.specs.Serve.{pick_fits, name_fits}
use Rattle.machine_state.specs.Step.{Taken, attempt}

-- nothing can be done, or the pick is wrong, or the name
abbrev pub reason_taken : State → Choice → Option Taken → Option Reason
reason_taken m c None = Some Blocked
reason_taken m c (Some k) =
    if not (pick_fits c.pick k.deed.waiters) then Some BadPick
    else (if not (name_fits m.heap c.name k.deed.makes) then Some BadName else None)

-- there is no such thread, or it has ended
abbrev pub reason_thread : Program → State → Choice → Option ThreadState → Option Reason
reason_thread p m c None = Some NoThread
reason_thread p m c (Some th) =
    if is_ended th.mode then Some Over else reason_taken m c (attempt p m c th)

-- the reason against a choice, if there is one
unfoldable pub reason : Program → State → Choice → Option Reason
reason p m c = reason_thread p m c (slice_get m.threads c.thread)
