use Rattle.std.proofs.Common.{◌≡◌, ◌∙◌, ◌<◌, [], length, slice_index, subst, refl, arith}
use Rattle.std.specs.List.{All, Contains}
use Rattle.std.proofs.lemmas.List.{get_or_read}
use Rattle.hierarchy.specs.Hierarchy.{row_of}
use Rattle.hierarchy.specs.Walks.{firsts, all_from}
use Rattle.hierarchy.proofs.Under.{above_in}
use Rattle.hierarchy.proofs.Items.{row_is, in_row}
use Rattle.hierarchy.proofs.Filling.{gathers_more, gathers_all, walk_in}
use Rattle.hierarchy.proofs.walk_table.gather.Goals as goal

pub add_all-requires-clause-inside : goal.add_all-requires-clause-inside
add_all-requires-clause-inside c =
    let rows = c.args.rows.now in
    let k = slice_index c.as_slice-k-items.result.now c.loop-k.k-index in
    let w : Contains (row_of rows c.args.c) k = in_row rows c.args.c c.index-rows-c.result c.as_slice-k-items.result.now c.loop-k.k-index c.requires.inside c.index-rows-c.is c.as_slice-k-items.ensures c.loop-k-test.true in
    let inside : k < length rows = (above_in rows c.args.c k c.requires.within w).1 in
    let kept : k < length c.args.table.now = (let e = c.requires.lens in omega arith) in
    let walked : c.as_slice.result.now ≡ firsts (all_from rows k) = c.as_slice.ensures ∙ get_or_read c.args.table.now k c.index-table-k.result kept c.index-table-k.is [] ∙ c.requires.right.each k (c.requires.filled k w) in
    let n : length rows ≡ length c.loop-k.seen = (let a = c.requires.marks in omega arith) in
    subst (λ z. All (λ x. x < z) c.as_slice.result.now) n (walk_in rows k c.as_slice.result.now c.requires.within inside walked)

pub loop-k-preserved : goal.loop-k-preserved
loop-k-preserved c =
    let rows = c.args.rows.now in
    let items = c.as_slice-k-items.result.now in
    let k = slice_index items c.loop-k.k-index in
    let w : Contains (row_of rows c.args.c) k = in_row rows c.args.c c.index-rows-c.result items c.loop-k.k-index c.requires.inside c.index-rows-c.is c.as_slice-k-items.ensures c.loop-k-test.true in
    let inside : k < length rows = (above_in rows c.args.c k c.requires.within w).1 in
    let kept : k < length c.args.table.now = (let e = c.requires.lens in omega arith) in
    let more : c.as_slice.result.now ≡ row_of c.args.table.now k = c.as_slice.ensures ∙ get_or_read c.args.table.now k c.index-table-k.result kept c.index-table-k.is [] in
    gathers_more rows c.args.table.now c.args.c k items c.loop-k.seen c.add_all.new.seen c.loop-k.all c.add_all.new.all c.as_slice.result.now c.loop-k.k-index c.loop-k-test.true refl more (c.requires.filled k w) c.requires.right c.in_ok-add_all.ensures c.loop-k.invariant

pub clear-requires-clause-inside : goal.clear-requires-clause-inside
clear-requires-clause-inside c =
    let rows = c.args.rows.now in
    let items = c.as_slice-k-items.result.now in
    let row = row_is rows c.args.c c.index-rows-c.result items c.requires.inside c.index-rows-c.is c.as_slice-k-items.ensures in
    let whole = gathers_all rows c.args.ranks.now c.args.c items c.loop-k.seen c.loop-k.all c.loop-k.k-index c.requires.ranked row c.loop-k-test.false c.loop-k.invariant in
    let n : length rows ≡ length c.loop-k.seen = (let a = c.requires.marks in omega arith) in
    subst (λ z. All (λ x. x < z) c.as_slice-2.result.now) n (walk_in rows c.args.c c.as_slice-2.result.now c.requires.within c.requires.inside (c.as_slice-2.ensures ∙ whole))

pub returns-clause-walk : goal.returns-clause-walk
returns-clause-walk c =
    let rows = c.args.rows.now in
    let items = c.as_slice-k-items.result.now in
    let row = row_is rows c.args.c c.index-rows-c.result items c.requires.inside c.index-rows-c.is c.as_slice-k-items.ensures in
    gathers_all rows c.args.ranks.now c.args.c items c.loop-k.seen c.loop-k.all c.loop-k.k-index c.requires.ranked row c.loop-k-test.false c.loop-k.invariant
