use Rattle.std.proofs.Common.{◌≡◌, ℕ, ◌<◌, true, false, List, slice_index_or, sym, ◌∙◌, subst, Some, slice_index, arith}
use Rattle.hierarchy.specs.Hierarchy.{row_of}
use Rattle.hierarchy.specs.Walks.{has}
use Rattle.program_image.specs.Subclass.{part_of, is_sub_of}
use Rattle.program_image.proofs.Rows.{part_all}
use Rattle.program_image.proofs.SubLaws.{tested, row_read, row_kept, part_at, place_of_part, part_in_range, found_in_row, found_by_parts, found_none}
use Rattle.program_image.proofs.subclass.+is_below.Goals as goal

-- an item of a list is one of the list that it is read through
of_list : {A : Type 0} (xs ys : List A) (i : ℕ) (x : A) → xs ≡ ys → x ≡ slice_index_or xs i x → x ≡ slice_index_or ys i x
of_list xs ys i x e h = subst (λ z. x ≡ slice_index_or z i x) e h

pub returns-then-is_among : goal.returns-then-is_among
returns-then-is_among t c =
    let cs = c.args.classes.now in
    let a = c.args.ancestry.now in
    let anc = c.requires.ancestry in
    let row = row_read cs a c.args.low c.index-as_slice-low.result c.as_slice-2.result.now anc c.requires.low_in (of_list _ _ c.args.low c.index-as_slice-low.result c.as_slice.ensures c.index-as_slice-low.is) c.as_slice-2.ensures in
    let there = subst (λ z. has z c.args.high ≡ true) row (sym c.is_among.ensures ∙ c.if-is_among.true) in
    sym (found_in_row cs a.ranks (row_of a.above c.args.low) c.args.low c.args.high (tested _ _ anc.ranked) (row_kept cs a c.args.low anc c.requires.low_in) there)

pub is_below-requires : goal.is_below-requires
is_below-requires t c =
    let cs = c.args.classes.now in
    let a = c.args.ancestry.now in
    let anc = c.requires.ancestry in
    let d : slice_index a.ranks c.args.high ≡ t = c.decreases in
    let e : part_of cs c.args.high ≡ Some c.in-Some.q = sym c.in-Some.ensures in
    let f : slice_index a.ranks c.in-Some.q < slice_index a.ranks c.args.high = anc.ranked.falls c.args.high c.in-Some.q (part_all cs c.args.high c.in-Some.q e) in
    let below : slice_index a.ranks c.in-Some.q < t = omega arith in
    let at = part_at cs a c.args.low c.index-as_slice-low-in-Some.result c.as_slice-p-items.result.now c.loop-p.p-index anc c.requires.low_in (of_list _ _ c.args.low c.index-as_slice-low-in-Some.result c.as_slice-in-Some.ensures c.index-as_slice-low-in-Some.is) c.as_slice-p-items.ensures c.loop-p-test.true in
    (below, (anc, part_in_range cs at.array (slice_index c.as_slice-p-items.result.now c.loop-p.p-index) anc.within at.is_part))

pub returns-then-is_below : goal.returns-then-is_below
returns-then-is_below t c =
    let cs = c.args.classes.now in
    let a = c.args.ancestry.now in
    let anc = c.requires.ancestry in
    let p = slice_index c.as_slice-p-items.result.now c.loop-p.p-index in
    let at = part_at cs a c.args.low c.index-as_slice-low-in-Some.result c.as_slice-p-items.result.now c.loop-p.p-index anc c.requires.low_in (of_list _ _ c.args.low c.index-as_slice-low-in-Some.result c.as_slice-in-Some.ensures c.index-as_slice-low-in-Some.is) c.as_slice-p-items.ensures c.loop-p-test.true in
    sym (found_by_parts cs a.ranks (row_of a.above c.args.low) c.args.low c.args.high at.array p c.in-Some.q (tested _ _ anc.ranked) (row_kept cs a c.args.low anc c.requires.low_in) at.in_row at.is_part (sym c.in-Some.ensures) (sym c.is_below.ensures ∙ c.if-is_below.true))

pub returns-after-loop-p : goal.returns-after-loop-p
returns-after-loop-p t c =
    let cs = c.args.classes.now in
    let a = c.args.ancestry.now in
    let anc = c.requires.ancestry in
    let items = c.as_slice-p-items.result.now in
    let done = c.loop-p-test.false in
    let kept = of_list _ _ c.args.low c.index-as_slice-low-in-Some.result c.as_slice-in-Some.ensures c.index-as_slice-low-in-Some.is in
    let row = row_read cs a c.args.low c.index-as_slice-low.result c.as_slice-2.result.now anc c.requires.low_in (of_list _ _ c.args.low c.index-as_slice-low.result c.as_slice.ensures c.index-as_slice-low.is) c.as_slice-2.ensures in
    let missing = subst (λ z. has z c.args.high ≡ false) row (sym c.is_among.ensures ∙ c.if-is_among.false) in
    sym (found_none cs a.ranks (row_of a.above c.args.low) c.args.low c.args.high (tested _ _ anc.ranked) (row_kept cs a c.args.low anc c.requires.low_in) missing
    (λ k p q h e1 e2 s.
    let w = place_of_part cs a c.args.low c.index-as_slice-low-in-Some.result items k p anc c.requires.low_in kept c.as_slice-p-items.ensures h e1 in
    let same : Some q ≡ Some c.in-Some.q = sym e2 ∙ sym c.in-Some.ensures in
    let q_is : q ≡ c.in-Some.q = cc in
    let s2 : is_sub_of cs p c.in-Some.q ≡ true = subst (λ z. is_sub_of cs p z ≡ true) q_is s in
    c.loop-p.invariant w.0 (let l = w.1.0 in omega arith) (subst (λ z. is_sub_of cs z c.in-Some.q ≡ true) (sym w.1.1) s2)))

pub returns-in_default : goal.returns-in_default
returns-in_default t c =
    let cs = c.args.classes.now in
    let a = c.args.ancestry.now in
    let anc = c.requires.ancestry in
    let row = row_read cs a c.args.low c.index-as_slice-low.result c.as_slice-2.result.now anc c.requires.low_in (of_list _ _ c.args.low c.index-as_slice-low.result c.as_slice.ensures c.index-as_slice-low.is) c.as_slice-2.ensures in
    let missing = subst (λ z. has z c.args.high ≡ false) row (sym c.is_among.ensures ∙ c.if-is_among.false) in
    sym (found_none cs a.ranks (row_of a.above c.args.low) c.args.low c.args.high (tested _ _ anc.ranked) (row_kept cs a c.args.low anc c.requires.low_in) missing
    (λ k p q h e1 e2 s. c.in_default.not-Some q (c.part.ensures ∙ e2)))
