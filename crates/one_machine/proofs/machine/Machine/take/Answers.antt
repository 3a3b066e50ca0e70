use Rattle.std.proofs.Common.{◌≡◌, sym, subst}
use Rattle.one_machine.specs.Ready.{Machine, IsReady}
use Rattle.one_machine.specs.contracts.machine.Machine.{the_view}
use Rattle.shared_state.specs.Parts.{state_of}
use Rattle.one_machine.proofs.Founds.{ready_after}
use Rattle.one_machine.proofs.machine.Machine.take.Goals as goal

pub returns-clause-ready : goal.returns-clause-ready
returns-clause-ready c =
    ready_after c.args.image.now (the_view c.self.inside) c.args.wish c.args.most c.take.result (state_of c.take.new.shared c.take.new.threads.items)
    (subst (λ (m : Machine). IsReady c.args.image.now m) (sym c.self.view_is) c.requires) c.take.ensures.went c.take.ensures.err
