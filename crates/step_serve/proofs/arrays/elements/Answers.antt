use Rattle.std.proofs.Common.{ap}
use Rattle.step_serve.specs.declared.arrays.Level.{Level}
use Rattle.step_serve.proofs.Rows.{room}
use Rattle.step_serve.proofs.arrays.elements.Goals as goal

pub references-requires : goal.references-requires
references-requires c =
    room c.args.level.index c.args.level.count c.args.place c.args.size c.args.below.now
    c.next_level-next.result.index c.from.result c.in-len1-up.len_at_least c.requires.placed c.requires.named
    (ap (λ (l : Level). l.index) c.next_level-next.ensures) c.from.ensures
