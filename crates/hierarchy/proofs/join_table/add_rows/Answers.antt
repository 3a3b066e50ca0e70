use Rattle.std.proofs.Common.{◌≡◌, length, arith}
use Rattle.hierarchy.proofs.Joining.{joins_more}
use Rattle.hierarchy.proofs.join_table.add_rows.Goals as goal

pub loop-k-preserved : goal.loop-k-preserved
loop-k-preserved c =
    let lens : length c.add_all.new.seen ≡ length c.args.table.now = (let a = c.requires.lens in omega arith) in
    joins_more c.args.table.now c.args.list.now c.loop-k.seen c.add_all.new.seen c.loop-k.all c.add_all.new.all c.row.result.now c.loop-k.k-index c.loop-k-test.true c.row.ensures lens c.in_ok-add_all.ensures c.loop-k.invariant
