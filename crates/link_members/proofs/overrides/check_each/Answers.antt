use Rattle.std.proofs.Common.{◌∙◌}
use Rattle.link_rules.proofs.Firsts.{places_more}
use Rattle.link_members.specs.Declarations.{bad_by}
use Rattle.link_members.proofs.overrides.check_each.Goals as goal

pub loop-method-preserved : goal.loop-method-preserved
loop-method-preserved c =
    let d = c.args.declarations.now in
    c.loop-method.invariant ∙ places_more (bad_by d.names d.methods.entries c.args.near.now c.args.f.now) c.args.methods.now c.loop-method.method-index c.method-item.result c.loop-method-test.true c.method-item.is c.in_ok-check_method.ensures
