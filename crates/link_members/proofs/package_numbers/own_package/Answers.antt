use Rattle.std.proofs.Common.{ap, ◌∙◌}
use Rattle.link_rules.specs.Packages.{package_of}
use Rattle.link_members.proofs.PackageLaws.{own_is}
use Rattle.link_members.proofs.package_numbers.own_package.Goals as goal

pub returns : goal.returns
returns c =
    own_is c.args.program.now c.args.f.now c.args.packages.now _ c.requires (c.package-name.ensures ∙ ap package_of c.this_name.ensures) c.number.ensures.at c.as_slice.ensures
