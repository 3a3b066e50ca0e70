use Rattle.std.proofs.Common.{◌≡◌, arith, rules}
use Rattle.link_image.specs.Fields.{instances_at}
use Rattle.link_image.proofs.BaseLaws.{few_instances}
use Rattle.link_image.proofs.bases.instances_at.Goals as goal

pub returns-in-Some-clause-few : goal.returns-in-Some-clause-few
returns-in-Some-clause-few c =
    let v : c.instances.result ≡ instances_at c.args.program.now c.args.number = search rules in
    let l = few_instances c.args.program.now c.args.number c.requires in omega arith
