use Rattle.std.proofs.Common.{sym, subst, ℕ, ◌≤◌, List, [], ◌∷◌, ◌++◌, Option, arith}
use Rattle.flow_types.specs.declared.flow_frame.FlowFrame.{FlowFrame}
use Rattle.flow_verifier.specs.declared.catches.Catches.{Catches}
use Rattle.flow_verifier.specs.Worklist.Catching.{IsCatching}
use Rattle.flow_verifier.specs.Typing.{IsLeast, most_steps}
use Rattle.flow_verifier.specs.Worklist.Going.{IsGoing}
use Rattle.flow_verifier.specs.Worklist.Potential.{steps_left}
use Rattle.flow_verifier.proofs.Worklist.{going-end}
use Rattle.flow_verifier.proofs.Throwing.{none_caught}
use Rattle.flow_verifier.proofs.Turns.{start-going, start-steps, visit-falls, visit-steps, cut-steps}
use Rattle.flow_verifier.proofs.solver.solve.Goals as goal

pub loop-at-init : goal.loop-at-init
loop-at-init g c =
    let s = c.in_ok-rising.ensures in
    let fewer : steps_left c.args.image.now c.args.m.now c.in_ok-rising.rising.frames c.in_ok-rising.rising.todo ≤ most_steps c.args.image.now c.args.m.now = start-steps c.args.image.now c.requires.tree c.args.m.now c.requires.fine c.in_ok-rising.rising.frames c.in_ok-rising.rising.todo s.frames s.todo in
    record {
      going = start-going c.args.image.now c.requires.tree c.args.m.now c.requires.fine c.in_ok-rising.rising.frames c.in_ok-rising.rising.todo s.frames s.todo;
      marked = s.marked;
      catching = none_caught c.args.image.now c.requires.tree c.args.m.now c.requires.fine c.in_ok-rising.rising.frames c.in_ok-rising.rising.catches s.uncaught;
      cost = omega arith;
    }

pub visit-requires-clause-going : goal.visit-requires-clause-going
visit-requires-clause-going g c =
    subst (λ (z : List (Option FlowFrame)). IsGoing c.args.image.now c.args.m.now z (c.pop.new.self.todo ++ c.in-Some.at ∷ [])) (sym c.in-Some.ensures.frames) (subst (λ (z : List ℕ). IsGoing c.args.image.now c.args.m.now c.loop-at.rising.frames z) c.in-Some.ensures.todo c.loop-at.invariant.going)

pub visit-requires-clause-catching : goal.visit-requires-clause-catching
visit-requires-clause-catching g c =
    subst (λ (z : Catches). IsCatching c.args.image.now c.args.m.now c.pop.new.self.frames z) (sym c.in-Some.ensures.catches) (subst (λ (z : List (Option FlowFrame)). IsCatching c.args.image.now c.args.m.now z c.loop-at.rising.catches) (sym c.in-Some.ensures.frames) c.loop-at.invariant.catching)

pub loop-at-smaller : goal.loop-at-smaller
loop-at-smaller g c =
    visit-falls c.args.image.now c.requires.tree c.args.m.now c.requires.fine c.in-Some.at c.loop-at.rising.frames c.pop.new.self.frames c.visit.new.self.frames c.loop-at.rising.todo c.pop.new.self.todo c.visit.new.self.todo c.in-Some.ensures.frames c.in-Some.ensures.todo c.in_ok-visit.ensures.falls

pub loop-at-preserved : goal.loop-at-preserved
loop-at-preserved g c = record {
  going = c.in_ok-visit.ensures.going;
  marked = c.in_ok-visit.ensures.marked;
  catching = c.in_ok-visit.ensures.catching;
  cost = visit-steps c.args.image.now c.requires.tree c.args.m.now c.requires.fine c.in-Some.at c.loop-at.steps c.visit.new.steps _ c.loop-at.rising.frames c.pop.new.self.frames c.visit.new.self.frames c.loop-at.rising.todo c.pop.new.self.todo c.visit.new.self.todo c.in-Some.ensures.frames c.in-Some.ensures.todo c.in_ok-visit.ensures.falls c.visit.ensures.cost c.loop-at.invariant.cost;
}

pub returns-in_err-visit-clause-cost : goal.returns-in_err-visit-clause-cost
returns-in_err-visit-clause-cost g c =
    cut-steps c.args.image.now c.requires.tree c.args.m.now c.requires.fine c.in-Some.at c.loop-at.steps c.visit.new.steps _ c.loop-at.rising.frames c.loop-at.rising.todo c.pop.new.self.todo c.in-Some.ensures.todo c.visit.ensures.cost c.loop-at.invariant.cost

pub returns-clause-least : goal.returns-clause-least
returns-clause-least g c =
    subst (λ (z : List (Option FlowFrame)). IsLeast c.args.image.now c.args.m.now z) (sym c.in_default.ensures.frames) (going-end c.args.image.now c.requires.tree c.args.m.now c.requires.fine c.loop-at.rising.frames (subst (λ (z : List ℕ). IsGoing c.args.image.now c.args.m.now c.loop-at.rising.frames z) c.in_default.ensures.todo c.loop-at.invariant.going))
