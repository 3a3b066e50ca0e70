use Rattle.std.proofs.Common.{◌≡◌, sym, subst}
use Rattle.machine_state.specs.State.{State}
use Rattle.machine_soundness.specs.Sound.{Sound}
use Rattle.machine_soundness.proofs.StartLaws.{sound-start}
use Rattle.one_machine.proofs.machine.Machine.new.Goals as goal

pub returns-clause-ready : goal.returns-clause-ready
returns-clause-ready c = record {
  types = c.requires.types;
  accepted = c.requires.accepted;
  sound = subst (λ (m : State). Sound c.args.image.now c.requires.types m) (sym c.in_ok-shared.ensures) (sound-start c.args.image.now c.requires.types c.requires.accepted c.args.args.now);
  kept = c.in_ok-tables.ensures;
  blanks = c.in_ok-blanks.ensures;
}
