use Rattle.std.proofs.Common.{◌≡◌, List, Option, Some, sym, subst}
use Rattle.std.specs.Prelude.{reverse, IfOk}
use Rattle.jvm_base.specs.declared.value.Value.{Value}
use Rattle.machine_state.specs.Next.{Calls}
use Rattle.machine_state.specs.Step.{performed}
use Rattle.shared_state.specs.Parts.{thread_state}
use Rattle.step_plan.specs.Shown.{shown_next, top_frame}
use Rattle.step_plan.specs.Ways.{GoesBy}
use Rattle.step_plan.specs.declared.plan.Next.{Next}
use Rattle.step_plan.specs.declared.plan.Next.TheVariants as told
use Rattle.step_attempt.specs.Going.{IsTold, state_at}
use Rattle.step_attempt.specs.declared.going.Going.{Going}
use Rattle.step_attempt.proofs.Nexts.{ToldNext, told_moves, told_answers, told_catches, told_throws, told_leaves, told_drops}
use Rattle.step_attempt.proofs.perform.perform.Goals as goal

pub returns-in-Moves : goal.returns-in-Moves
returns-in-Moves c =
    let site = c.args.site.now in
    let th = c.args.thread.now in
    let ls = reverse th.levels.items in
    subst (λ (n : Next). ToldNext site.image.now (state_at site) site.wish th.object th.mode th.steps ls n c.alone.result) (sym c.in-Moves.is)
    (told_moves site.image.now (state_at site) site.wish th.object th.mode th.steps ls c.in-Moves.given c.alone.result (subst (λ (n : Next). GoesBy site.image.now (top_frame ls) n) c.in-Moves.is c.requires.goes) (c.alone.ensures site.image.now (state_at site) (thread_state th)))

pub returns-in-Answered : goal.returns-in-Answered
returns-in-Answered c =
    let site = c.args.site.now in
    let th = c.args.thread.now in
    let ls = reverse th.levels.items in
    subst (λ (n : Next). ToldNext site.image.now (state_at site) site.wish th.object th.mode th.steps ls n c.alone-in-Answered.result) (sym c.in-Answered.is)
    (told_answers site.image.now (state_at site) site.wish th.object th.mode th.steps ls c.in-Answered.value c.alone-in-Answered.result (subst (λ (n : Next). GoesBy site.image.now (top_frame ls) n) c.in-Answered.is c.requires.goes) (c.alone-in-Answered.ensures site.image.now (state_at site) (thread_state th)))

pub returns-in-Caught : goal.returns-in-Caught
returns-in-Caught c =
    let site = c.args.site.now in
    let th = c.args.thread.now in
    let ls = reverse th.levels.items in
    subst (λ (n : Next). ToldNext site.image.now (state_at site) site.wish th.object th.mode th.steps ls n c.alone-in-Caught.result) (sym c.in-Caught.is)
    (told_catches site.image.now (state_at site) site.wish th.object th.mode th.steps ls c.in-Caught.exception c.in-Caught.at c.alone-in-Caught.result (subst (λ (n : Next). GoesBy site.image.now (top_frame ls) n) c.in-Caught.is c.requires.goes) (c.alone-in-Caught.ensures site.image.now (state_at site) (thread_state th)))

pub returns-in-Throws : goal.returns-in-Throws
returns-in-Throws c =
    let site = c.args.site.now in
    let th = c.args.thread.now in
    let ls = reverse th.levels.items in
    subst (λ (n : Next). ToldNext site.image.now (state_at site) site.wish th.object th.mode th.steps ls n c.alone-in-Throws.result) (sym c.in-Throws.is)
    (told_throws site.image.now (state_at site) site.wish th.object th.mode th.steps ls c.in-Throws.exception c.alone-in-Throws.result (c.alone-in-Throws.ensures site.image.now (state_at site) (thread_state th)))

pub returns-in-Leaves : goal.returns-in-Leaves
returns-in-Leaves c =
    let site = c.args.site.now in
    let th = c.args.thread.now in
    let ls = reverse th.levels.items in
    subst (λ (n : Next). ToldNext site.image.now (state_at site) site.wish th.object th.mode th.steps ls n c.alone-in-Leaves.result) (sym c.in-Leaves.is)
    (told_leaves site.image.now (state_at site) site.wish th.object th.mode th.steps ls c.in-Leaves.value c.alone-in-Leaves.result (subst (λ (n : Next). GoesBy site.image.now (top_frame ls) n) c.in-Leaves.is c.requires.goes) (c.alone-in-Leaves.ensures site.image.now (state_at site) (thread_state th)))

pub returns-in-Drops : goal.returns-in-Drops
returns-in-Drops c =
    let site = c.args.site.now in
    let th = c.args.thread.now in
    let ls = reverse th.levels.items in
    subst (λ (n : Next). ToldNext site.image.now (state_at site) site.wish th.object th.mode th.steps ls n c.alone-in-Drops.result) (sym c.in-Drops.is)
    (told_drops site.image.now (state_at site) site.wish th.object th.mode th.steps ls c.alone-in-Drops.result (c.alone-in-Drops.ensures site.image.now (state_at site) (thread_state th)))

pub returns-in-Calls : goal.returns-in-Calls
returns-in-Calls c =
    let site = c.args.site.now in
    let th = thread_state c.args.thread.now in
    subst (λ (n : Next). IfOk c.call.result (IsTold site.image.now (state_at site) site.wish th (λ x. performed site.image.now (state_at site) x th.mode th.levels (shown_next site.image.now (top_frame th.levels) n)))) (sym c.in-Calls.is)
    (subst (λ (vs : List Value). IfOk c.call.result (IsTold site.image.now (state_at site) site.wish th (λ x. performed site.image.now (state_at site) x th.mode th.levels (Calls c.in-Calls.method vs)))) c.as_slice.ensures c.call.ensures)
