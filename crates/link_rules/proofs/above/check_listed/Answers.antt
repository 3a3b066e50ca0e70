use Rattle.std.proofs.Common.{sym, subst}
use Rattle.link_rules.specs.Classes.{names_interface}
use Rattle.link_rules.specs.Marks.{AreTested}
use Rattle.link_rules.proofs.above.check_listed.Goals as goal

pub check_interfaces-requires : goal.check_interfaces-requires
check_interfaces-requires c =
    let test = names_interface c.args.program.now in
    subst (λ told. AreTested test c.args.file.now.pool told) (sym c.as_slice-2.ensures) (subst (λ pool. AreTested test pool c.in_ok-told.told) c.as_slice.ensures c.in_ok-told.ensures)
