use Rattle.std.proofs.Common.{◌∙◌, ap}
use Rattle.class_format.specs.Judging.Keys.{key_ranks}
use Rattle.class_format.proofs.KeyLaws.{keyed}
use Rattle.constant_pool.proofs.Filled.{filled_more}
use Rattle.class_format.proofs.members.fill_keys.Goals as goal

pub loop-at-preserved : goal.loop-at-preserved
loop-at-preserved g c =
    let pool = c.args.texts.now in
    let ranks = keyed pool c.key-name.result c.rank.result c.rank-in-loop-at.result c.rank.ensures.value c.rank-in-loop-at.ensures.value in
    filled_more (λ member. key_ranks pool (g.T.Named.key member)) (λ key. key) c.args.members.now c.loop-at.keys c.loop-at.at c.index-members-at.result (c.rank.result, c.rank-in-loop-at.result) c.loop-at-test.true
    (ranks ∙ ap (key_ranks pool) (c.key-name.ensures ∙ ap g.T.Named.key c.index-members-at.is)) c.loop-at.invariant
