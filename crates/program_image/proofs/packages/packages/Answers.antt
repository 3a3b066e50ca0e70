use Rattle.std.proofs.Common.{◌≡◌, ◌∙◌, length, map, take, sym, ap, arith}
use Rattle.program_image.specs.Built.Packages.{package_number}
use Rattle.program_image.proofs.PackageLaws.{packages_tell, all_numbered}
use Rattle.program_image.proofs.packages.packages.Goals as goal

pub returns : goal.returns
returns c =
    let classes = c.args.classes.now in
    let end : length classes ≡ c.loop-class.class-index = (let a = c.loop-class-test.false in let b = c.loop-class.auto.class-index-end in omega arith) in
    packages_tell classes c.loop-class.packages (all_numbered classes c.loop-class.packages c.loop-class.class-index end c.loop-class.invariant)
