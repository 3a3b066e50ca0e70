use Rattle.std.proofs.Common.{◌≡◌, ℕ, ◌<◌, List, get_or, slice_index, length, arith}
use Rattle.class_format.specs.declared.class.ClassFile.{ClassFile}
use Rattle.hierarchy.specs.Hierarchy.{row_of}
use Rattle.link_rules.specs.Numbers.{super_rows}
use Rattle.link_image.proofs.BaseLaws.{row_read, in_row, row_inside, sum_within, sum_whole, base_small, known_more}
use Rattle.link_image.proofs.bases.+base.Goals as goal

pub base-requires : goal.base-requires
base-requires t c =
    let all : List ClassFile = c.args.program.now in
    let items : List ℕ = c.as_slice-k-items.result.now in
    let row : items ≡ row_of (super_rows all) c.args.c = row_read all c.args.supers.now c.args.c c.index-supers-c.result items c.requires.rows c.requires.inside c.index-supers-c.is c.as_slice-k-items.ensures in
    let w = in_row all c.args.c items c.loop-k.k-index row c.loop-k-test.true in
    let falls = c.requires.ranked.falls c.args.c (get_or items c.loop-k.k-index 0) w in
    let m : slice_index c.args.ranks.now (get_or items c.loop-k.k-index 0) < t = omega (arith, c.decreases, falls) in
    let lens : length c.loop-k.known ≡ length all = omega arith in
    (m, (c.requires.rows, (c.requires.ranked, (c.requires.few_classes, (c.requires.few_fields, (lens, (row_inside all c.args.c (get_or items c.loop-k.k-index 0) w, c.loop-k.invariant.known)))))))

pub overflow_add-sum : goal.overflow_add-sum
overflow_add-sum t c =
    let all : List ClassFile = c.args.program.now in
    let items : List ℕ = c.as_slice-k-items.result.now in
    let row : items ≡ row_of (super_rows all) c.args.c = row_read all c.args.supers.now c.args.c c.index-supers-c.result items c.requires.rows c.requires.inside c.index-supers-c.is c.as_slice-k-items.ensures in
    let s = sum_within all c.args.ranks.now c.args.c items c.loop-k.k-index c.loop-k.sum c.requires.ranked row c.loop-k-test.true c.loop-k.invariant.sum in
    let b = base_small all c.args.ranks.now c.requires.ranked c.requires.few_fields c.requires.few_classes c.args.c in
    omega (arith, c.instances_at.ensures.value, c.base.ensures.value)

pub overflow_add-sum-in-loop-k : goal.overflow_add-sum-in-loop-k
overflow_add-sum-in-loop-k t c =
    let all : List ClassFile = c.args.program.now in
    let items : List ℕ = c.as_slice-k-items.result.now in
    let row : items ≡ row_of (super_rows all) c.args.c = row_read all c.args.supers.now c.args.c c.index-supers-c.result items c.requires.rows c.requires.inside c.index-supers-c.is c.as_slice-k-items.ensures in
    let s = sum_within all c.args.ranks.now c.args.c items c.loop-k.k-index c.loop-k.sum c.requires.ranked row c.loop-k-test.true c.loop-k.invariant.sum in
    let b = base_small all c.args.ranks.now c.requires.ranked c.requires.few_fields c.requires.few_classes c.args.c in
    omega (arith, c.instances_at.ensures.value, c.base.ensures.value)

pub returns-clause-value : goal.returns-clause-value
returns-clause-value t c =
    let all : List ClassFile = c.args.program.now in
    let items : List ℕ = c.as_slice-k-items.result.now in
    let row : items ≡ row_of (super_rows all) c.args.c = row_read all c.args.supers.now c.args.c c.index-supers-c.result items c.requires.rows c.requires.inside c.index-supers-c.is c.as_slice-k-items.ensures in
    let end : c.loop-k.k-index ≡ length items = omega arith in
    sum_whole all c.args.ranks.now c.args.c items c.loop-k.k-index c.loop-k.sum c.requires.ranked row end c.loop-k.invariant.sum

pub returns-clause-known : goal.returns-clause-known
returns-clause-known t c =
    let all : List ClassFile = c.args.program.now in
    let items : List ℕ = c.as_slice-k-items.result.now in
    let row : items ≡ row_of (super_rows all) c.args.c = row_read all c.args.supers.now c.args.c c.index-supers-c.result items c.requires.rows c.requires.inside c.index-supers-c.is c.as_slice-k-items.ensures in
    let end : c.loop-k.k-index ≡ length items = omega arith in
    known_more all c.loop-k.known c.args.c c.loop-k.sum c.loop-k.invariant.known (sum_whole all c.args.ranks.now c.args.c items c.loop-k.k-index c.loop-k.sum c.requires.ranked row end c.loop-k.invariant.sum)
