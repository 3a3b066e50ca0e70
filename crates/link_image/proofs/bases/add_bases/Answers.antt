use Rattle.std.proofs.Common.{◌≡◌, ◌+◌, ◌++◌, ◌<◌, List, length, drop, ap, sym, ◌∙◌, arith}
use Rattle.std.proofs.lemmas.List.{length-map}
use Rattle.class_format.specs.declared.class.ClassFile.{ClassFile}
use Rattle.link_rules.specs.Numbers.{map_from, super_row}
use Rattle.link_image.specs.Fields.{base_of}
use Rattle.link_image.proofs.Steps.{count_more}
use Rattle.link_image.proofs.bases.add_bases.Goals as goal

pub loop-c-preserved : goal.loop-c-preserved
loop-c-preserved c =
    let all : List ClassFile = c.args.program.now in
    let n = length-map all (super_row all) in
    let m : length c.args.supers.now ≡ length all = ap length c.requires.rows ∙ n in
    let inside : c.loop-c.c < length all = omega arith in
    let step = count_more (base_of all) all c.loop-c.c c.loop-c.c _ c.loop-c.all c.base.result inside c.loop-c.invariant.bases c.base.ensures.value in
    record {
      known = c.base.ensures.known;
      bases = step ∙ ap (λ z. z ++ map_from (λ k f. base_of all k) (c.loop-c.c + 1) (drop (c.loop-c.c + 1) all)) (sym c.in_ok-push.ensures.ok);
    }
