use Rattle.std.proofs.Common.{arith, refl}
use Rattle.jvm_base.specs.Text.{units_of}
use Rattle.jvm_base.proofs.TextLoop.{goes_on, falls, stops, is_done}
use Rattle.jvm_base.proofs.text.read_units.Goals as goal

pub loop-rest-smaller : goal.loop-rest-smaller
loop-rest-smaller c = falls c.loop-rest.rest.now c.in-Some.after.now c.in-Some.unit (grind arith) c.in-Some.ensures

pub loop-rest-preserved : goal.loop-rest-preserved
loop-rest-preserved c = rw c.in_ok-push-in-Some.ensures.ok (goes_on c.loop-rest.units c.loop-rest.rest.now c.in-Some.after.now c.in-Some.unit (units_of c.args.bytes.now) (grind arith) c.in-Some.ensures c.loop-rest.invariant)

pub returns-in-None : goal.returns-in-None
returns-in-None c = rw (stops c.loop-rest.units c.loop-rest.rest.now (units_of c.args.bytes.now) (grind arith) c.in-None.ensures c.loop-rest.invariant) refl

pub returns : goal.returns
returns c = rw (is_done c.loop-rest.units c.loop-rest.rest.now (units_of c.args.bytes.now) (grind arith) c.loop-rest.invariant) refl
