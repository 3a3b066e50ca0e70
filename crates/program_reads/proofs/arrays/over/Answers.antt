use Rattle.std.proofs.Common.{◌≡◌, ◌∙◌, sym, ◌+◌, ◌-◌, replicate, arith}
use Rattle.program_reads.proofs.OverLaws.{AreOverFrom, over_none, over_set, over_kept, over_all}
use Rattle.program_reads.proofs.arrays.over.Goals as goal
use Rattle.program_reads.proofs.arrays.over.Goals.{in-Some, in_default}

pub loop-i-init : goal.loop-i-init
loop-i-init c =
    let n = c.classes-count.result in
    let e : n - 0 ≡ n = omega arith in
    let zeros : c.from_vec-over.result ≡ replicate n 0 = grind arith in
    rw (e, zeros) (over_none c.args.image.now.classes n c.classes-count.ensures)

pub loop-i-preserved : goal.loop-i-preserved
loop-i-preserved c =
    let ks = c.args.image.now.classes in
    let n = c.classes-count.result in
    let i = c.loop-i.i in
    let below = c.loop-i-test.true in
    let class = n - 1 - i in
    let e : n - (i + 1) ≡ class = omega arith in
    let up : n - i ≡ class + 1 = omega arith in
    let known : AreOverFrom ks (class + 1) c.loop-i.over = rw up at c.loop-i.invariant in
    let info = c.class.result.now in
    elim c.match-part.branch [
      | in-Some w ↦ rw (e, w.over-is, w.note.ensures) (over_set ks class w.in-Some.part c.loop-i.over info c.class.ensures (sym c.part.ensures ∙ w.in-Some.is) known)
      | in_default w ↦ rw (e, w.over-is) (over_kept ks class c.loop-i.over info c.class.ensures (sym c.part.ensures ∙ w.in_default.is) known)
    ]

pub returns : goal.returns
returns c =
    let e : c.classes-count.result - c.loop-i.i ≡ 0 = (let a = c.loop-i-test.false in omega arith) in
    over_all c.args.image.now c.loop-i.over (rw e at c.loop-i.invariant)
