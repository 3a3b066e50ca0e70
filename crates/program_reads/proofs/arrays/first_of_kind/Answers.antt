use Rattle.std.proofs.Common.{◌∙◌, sym, arith}
use Rattle.program_reads.specs.Finding.{is_of_kind}
use Rattle.program_reads.proofs.First.{first_hit, first_miss, first_past, first_of_all}
use Rattle.program_reads.proofs.arrays.first_of_kind.Goals as goal

pub returns-then-is_of_kind : goal.returns-then-is_of_kind
returns-then-is_of_kind c =
    let f = is_of_kind c.args.kind in
    let ks = c.args.image.now.classes in
    sym (first_hit f c.loop-class.class ks c.class.result.now c.class.ensures (sym c.is_of_kind.ensures ∙ c.if-is_of_kind.true)) ∙ c.loop-class.invariant ∙ first_of_all f ks

pub loop-class-preserved : goal.loop-class-preserved
loop-class-preserved c =
    let f = is_of_kind c.args.kind in
    let ks = c.args.image.now.classes in
    sym (first_miss f c.loop-class.class ks c.class.result.now c.class.ensures (sym c.is_of_kind.ensures ∙ c.if-is_of_kind.false)) ∙ c.loop-class.invariant

pub returns : goal.returns
returns c =
    let f = is_of_kind c.args.kind in
    let ks = c.args.image.now.classes in
    sym (first_past f c.loop-class.class ks (let a = c.loop-class-test.false in let b = c.classes-class-end.ensures in omega arith)) ∙ c.loop-class.invariant ∙ first_of_all f ks
