use Rattle.std.proofs.Common.{◌≡◌, ◌∙◌}
use Rattle.hierarchy.proofs.Searched.{among}
use Rattle.hierarchy.proofs.closure_table.is_among.Goals as goal

pub returns : goal.returns
returns c = c.is_ok.ensures.value ∙ among c.args.numbers.now c.args.n c.binary_search.result c.requires c.binary_search.ensures.position
