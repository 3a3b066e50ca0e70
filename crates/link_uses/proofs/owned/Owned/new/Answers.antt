use Rattle.link_uses.proofs.OwnedBuilt.{all_seen}
use Rattle.link_uses.proofs.owned.Owned.new.Goals as goal

pub returns : goal.returns
returns c = record {
  names = c.in_ok-names.ensures;
  seen = all_seen c.in_ok-names.names c.args.program.now c.in_ok-names.ensures;
  fields = c.in_ok-fields.ensures;
  methods = c.in_ok-methods.ensures;
}
