use Rattle.std.proofs.Common.{arith}
use Rattle.std.proofs.lemmas.Bool.Decides.{nat_tests}
use Rattle.class_format.proofs.FormedLaws.{units_of_slice}
use Rattle.class_format.proofs.formed_pool.fits_units.Goals as goal

pub returns : goal.returns
returns c =
    let units = units_of_slice c.args._units.now (λ k. omega (arith, c.type_inv._units k)) in
    (λ t. (units, grind (arith, nat_tests, t)), λ h. grind (arith, nat_tests, h.1))
