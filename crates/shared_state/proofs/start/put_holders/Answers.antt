use Rattle.std.proofs.Common.{◌∙◌, ap, ◌<◌, length, arith}
use Rattle.jvm_base.specs.Maps.{put}
use Rattle.jvm_base.specs.Names.{name_cmp}
use Rattle.jvm_base.specs.declared.value.ObjectBody.TheVariants.{Fields}
use Rattle.machine_state.specs.PreMade.{holder}
use Rattle.shared_state.proofs.StartLaws.{holders_step}
use Rattle.shared_state.proofs.start.put_holders.Goals as goal

pub loop-class-preserved : goal.loop-class-preserved
loop-class-preserved c =
    let p = c.args.image.now in
    let i = c.loop-class.class in
    let heap = c.loop-class.heap in
    let h : i < length p.classes = omega (arith, c.loop-class-test.true, c.classes-class-end.ensures) in
    let made = c.in_ok-make.ensures.ok ∙ (ap (λ n. put name_cmp n (Fields c.in_ok-statics.statics) heap) c.named.ensures ∙ ap (λ vs. put name_cmp (holder i) (Fields vs) heap) c.in_ok-statics.ensures) in
    holders_step p i p.classes heap c.make.new.self c.args.heap.now h made c.loop-class.invariant
