-- What asks, throws, calls or leaves is no frame that goes on.
use Rattle.std.proofs.Common.{ℕ, Bool, true, false, List, [], Option, Some, None}
use Rattle.std.specs.Prelude.{if◌then◌else◌, nat_lt}
use Rattle.jvm_base.specs.Words.{from}
use Rattle.jvm_base.specs.declared.name.Name.{Name}
use Rattle.jvm_base.specs.declared.value.Value.{Value}
use Rattle.jvm_base.specs.declared.frame.Phase.{Phase}
use Rattle.jvm_base.specs.declared.frame.Phase.TheVariants as phase
use Rattle.program_image.specs.Program.{Program}
use Rattle.machine_state.specs.BootClasses.{stack_overflow}
use Rattle.machine_state.specs.Calls.{calls, max_depth}
use Rattle.machine_state.specs.Classes.{clinit_of}
use Rattle.machine_state.specs.Instructions.{returns}
use Rattle.machine_state.specs.Next.{Next, Alone, Calls, Needs, Stuck, Who, fault}
use Rattle.machine_state.specs.Plan.{unwinds, init_plan}
use Rattle.machine_state.specs.declared.request.Request.TheVariants.{InitDone}

-- no frame that goes on, nor one that is stuck
abbrev pub IsOutward : Next → Type 0
IsOutward (Alone f) = ⊥
IsOutward Stuck = ⊥
IsOutward _ = Unit {0}

-- a call or a request
abbrev pub IsSent : Next → Type 0
IsSent (Calls m vs) = Unit {0}
IsSent (Needs r) = Unit {0}
IsSent _ = ⊥

-- so is what is sent
pub sent_outward : (n : Next) → IsSent n → IsOutward n
sent_outward (Alone f) h = h
sent_outward Stuck h = h
sent_outward _ h = tt

-- an exception that leaves a frame
pub unwinds_outward : (at : Phase) (lock : Option Name) → IsOutward (unwinds at lock)
unwinds_outward phase.Body (Some lock) = tt
unwinds_outward _ _ = tt

-- a return
pub returns_outward : (lock : Option Name) (v : Option Value) → IsOutward (returns lock v)
returns_outward None v = tt
returns_outward (Some lock) v = tt

-- ---- a class that its thread initialises

calls_by : (room : Bool) (m : ℕ) (vs : List Value) → IsSent (if room then Calls m vs else fault stack_overflow)
calls_by true m vs = tt
calls_by false m vs = tt

calls_sent : (who : Who) (m : ℕ) (vs : List Value) → IsSent (calls who m vs)
calls_sent who m vs = calls_by (nat_lt who.depth max_depth) m vs

clinit_sent : (who : Who) (c : ℕ) (m : Option ℕ) → IsSent (from (Needs (InitDone c)) (λ m. calls who m []) m)
clinit_sent who c None = tt
clinit_sent who c (Some m) = calls_sent who m []

pub init_sent : (p : Program) (who : Who) (c : ℕ) (begun : Bool) → IsSent (init_plan p who c begun).next
init_sent p who c true = tt
init_sent p who c false = clinit_sent who c (clinit_of p c)
