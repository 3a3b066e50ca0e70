-- Requests that are completed alike.
use Rattle.std.specs.Prelude.{false, None}
use Rattle.jvm_base.specs.Names.{no_name}
use Rattle.machine_state.specs.declared.request.Request.{Request}
use Rattle.machine_state.specs.declared.request.Request.TheVariants.{Len, Enter, Exit, Wait, Begin, InitDone, InitFail, Finish}
use Rattle.step_complete.specs.declared.asked.Asked.{Asked}
use Rattle.step_complete.specs.declared.asked.Asked.TheVariants as asked

-- one request of those that are completed so
abbrev pub request_like : Asked → Request
request_like asked.Enter = Enter no_name
request_like (asked.Exit raising) = Exit no_name raising
request_like (asked.Wait lock) = Wait lock
request_like (asked.Begin class) = Begin class
request_like asked.InitDone = InitDone 0
request_like asked.InitFail = InitFail 0 false
request_like asked.Finish = Finish None
request_like asked.Other = Len no_name

-- which they are
abbrev pub asked_for : Request → Asked
asked_for (Enter n) = asked.Enter
asked_for (Exit n raising) = asked.Exit raising
asked_for (Wait n) = asked.Wait n
asked_for (Begin c) = asked.Begin c
asked_for (InitDone c) = asked.InitDone
asked_for (InitFail c made) = asked.InitFail
asked_for (Finish e) = asked.Finish
asked_for _ = asked.Other
