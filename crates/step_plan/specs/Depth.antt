-- How deep a thread's calls are, and what a call comes to there.
use Rattle.std.specs.Prelude.{ℕ, ◌+◌, nat_lt, Bool, if◌then◌else◌, List, reverse, Option}
use Rattle.jvm_base.specs.declared.name.Name.{Name}
use Rattle.jvm_base.specs.declared.value.Value.{Value}
use Rattle.jvm_base.specs.declared.frame.Level.{Level}
use Rattle.machine_state.specs.declared.request.Request.TheVariants.{Fault}
use Rattle.machine_state.specs.BootClasses.{stack_overflow}
use Rattle.machine_state.specs.Calls.{max_depth}
use Rattle.machine_state.specs.Frames.{frames}
use Rattle.machine_state.specs.Next.{Who}
use Rattle.step_plan.specs.declared.plan.Next.{Next}
use Rattle.step_plan.specs.declared.plan.Next.TheVariants.{Calls, Needs}
use Rattle.step_plan.specs.declared.site.Site.{Site}

-- the frames of these levels, and those below them
abbrev pub depth_over : ℕ → List Level → ℕ
depth_over base levels = base + frames (reverse levels)

-- there is room for one more frame
abbrev pub has_room : ℕ → List Level → Bool
has_room base levels = nat_lt (depth_over base levels) max_depth

-- who steps, with these levels and texts that are known
abbrev pub stepper : Bool → Name → ℕ → List Level → (Name → Option (List ℕ)) → Who
stepper first object base levels known = record {
  first = first;
  object = object;
  depth = depth_over base levels;
  known = known;
}

-- who steps at a site, with the texts that are known there
abbrev pub who_at : Site → (Name → Option (List ℕ)) → Who
who_at s known = stepper s.first s.object s.base s.levels.now known

-- a call where there is room, and else the fault
abbrev pub called : Bool → ℕ → List Value → Next
called room m vs = if room then Calls m vs else Needs (Fault stack_overflow)
