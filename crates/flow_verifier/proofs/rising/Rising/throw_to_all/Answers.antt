use Rattle.std.proofs.Common.{◌≡◌, ◌∙◌, ap, subst, length, arith}
use Rattle.flow_verifier.specs.Worklist.Going.{IsThrowing}
use Rattle.flow_verifier.proofs.rising.Rising.throw_to_all.Goals as goal

pub throw-requires-clause-handler : goal.throw-requires-clause-handler
throw-requires-clause-handler g c =
    let same : length c.loop-k.catch.handlers ≡ length c.args.catch.now.handlers = ap length c.loop-k.invariant.handlers in
    omega (arith, c.len-k-end.ensures, c.loop-k-test.true)

pub returns-in_err-throw-clause-cost : goal.returns-in_err-throw-clause-cost
returns-in_err-throw-clause-cost g c =
    let a = c.requires.throwing.caught in
    let b = a.handlers in
    omega (arith, b.count, c.len-k-end.ensures, c.loop-k-test.true, c.throw.ensures.cost, c.loop-k.invariant.cost)

pub loop-k-preserved : goal.loop-k-preserved
loop-k-preserved g c = record {
  throwing = c.in_ok-throw.ensures.throwing;
  at = c.throw.ensures.at ∙ c.loop-k.invariant.at;
  handlers = c.throw.ensures.handlers ∙ c.loop-k.invariant.handlers;
  falls = λ w. omega (arith, c.in_ok-throw.ensures.falls w, c.loop-k.invariant.falls w);
  cost = omega (arith, c.throw.ensures.cost, c.loop-k.invariant.cost);
}

pub returns-clause-throwing : goal.returns-clause-throwing
returns-clause-throwing g c =
    let same : length c.loop-k.catch.handlers ≡ length c.args.catch.now.handlers = ap length c.loop-k.invariant.handlers in
    let end : c.loop-k.k ≡ length c.loop-k.catch.handlers = omega (arith, c.len-k-end.ensures, c.loop-k-test.false, c.loop-k.auto.k-end) in
    subst (λ z. IsThrowing c.args.image.now c.args.m.now c.loop-k.catch z c.loop-k.self) end c.loop-k.invariant.throwing

pub returns-clause-cost : goal.returns-clause-cost
returns-clause-cost g c =
    let a = c.requires.throwing.caught in
    let b = a.handlers in
    omega (arith, b.count, c.len-k-end.ensures, c.loop-k.auto.k-end, c.loop-k.invariant.cost)
