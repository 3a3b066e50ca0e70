use Rattle.std.proofs.Common.{arith}
use Rattle.machine_state.proofs.NameTests.{test_true, test_false}
use Rattle.step_serve.proofs.Rows.{made_as, no_fit_node, no_fit_class, no_fit_count}
use Rattle.step_serve.proofs.arrays.made.Goals as goal
use Rattle.step_serve.proofs.arrays.made.Goals.{in_default-via-in-Some+then-name-ne-NO_NODE+then-name-class+else-level-count-le-INDICES, in_default-via-in-Some+then-name-ne-NO_NODE+else-name-class, in_default-via-in-Some+else-name-ne-NO_NODE, in_default-via-in_default}

pub returns-in-Some : goal.returns-in-Some
returns-in-Some g c =
    made_as (g.N.Names.heap c.args.server.now.names.now) c.args.server.now.image.now c.args.name c.args.class c.args.sizes.now
    c.from.result c.made_new.result c.requires c.from.ensures
    (test_false c.args.name.node 255 c.if-name-ne-NO_NODE.true) (test_true c.args.name.class c.args.class c.if-name-class.true)
    (omega (arith, c.if-level-count-le-INDICES.true, c.from.ensures, c.in-Some.ensures.0)) c.made_new.ensures

pub returns-in_default : goal.returns-in_default
returns-in_default g c =
    let heap = g.N.Names.heap c.args.server.now.names.now in
    let image = c.args.server.now.image.now in
    elim c.in_default.branch [
      | in_default-via-in-Some+then-name-ne-NO_NODE+then-name-class+else-level-count-le-INDICES w ↦ no_fit_count heap image c.args.name c.args.class c.args.sizes.now c.requires (omega (arith, w.if-level-count-le-INDICES.false, c.from.ensures, w.in-Some.ensures.0))
      | in_default-via-in-Some+then-name-ne-NO_NODE+else-name-class w ↦ no_fit_class heap image c.args.name c.args.class c.args.sizes.now c.requires (test_false c.args.name.class c.args.class w.if-name-class.false)
      | in_default-via-in-Some+else-name-ne-NO_NODE w ↦ no_fit_node heap image c.args.name c.args.class c.args.sizes.now c.requires (test_true c.args.name.node 255 w.if-name-ne-NO_NODE.false)
      | in_default-via-in_default w ↦ no_fit_count heap image c.args.name c.args.class c.args.sizes.now c.requires (omega (arith, w.in_default.ensures))
    ]
