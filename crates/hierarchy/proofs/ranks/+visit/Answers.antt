use Rattle.std.proofs.Common.{rules, ◌≡◌, ℕ, ◌<◌, ◌≤◌, ◌+◌, ◌∙◌, sym, subst, length, slice_index, slice_index_or, List, [], arith, get_or-set_same}
use Rattle.std.specs.List.{Contains}
use Rattle.std.proofs.lemmas.List.{get_or_read}
use Rattle.std.proofs.lemmas.List.Elements.{Contains-get_or}
use Rattle.std.proofs.Math.ListN.{length-set}
use Rattle.hierarchy.specs.Hierarchy.{row_of}
use Rattle.hierarchy.specs.Steps.Marks.{unseen, Leads}
use Rattle.hierarchy.proofs.Visits.{leads_on, seen_one, seen_still, from_places, done_one, grew_over}
use Rattle.hierarchy.proofs.ranks.+visit.Goals as goal

-- the item of this iteration stands in c's row
in_row : (rows : List (List ℕ)) (c : ℕ) (r items : List ℕ) (i : ℕ) → c < length rows → r ≡ slice_index_or rows c r → items ≡ r → i < length items → Contains (row_of rows c) (slice_index items i)
in_row rows c r items i inside is same h =
    let e : items ≡ row_of rows c = same ∙ get_or_read rows c r inside is [] in
    subst (λ z. Contains z (slice_index items i)) e (Contains-get_or items i 0 h)

pub returns-then-mark-eq1 : goal.returns-then-mark-eq1
returns-then-mark-eq1 t c =
    let w = in_row c.args.rows.now c.args.c c.index-rows-c.result c.as_slice-k-items.result.now c.loop-k.k-index c.requires.inside c.index-rows-c.is c.as_slice-k-items.ensures c.loop-k-test.true in
    leads_on c.args.rows.now c.args.marks.now c.loop-k.marks c.args.c _ (omega arith) c.requires.open c.loop-k.invariant.grew w _ c.if-mark-eq1.true

pub visit-requires : goal.visit-requires
visit-requires t c =
    let w = in_row c.args.rows.now c.args.c c.index-rows-c.result c.as_slice-k-items.result.now c.loop-k.k-index c.requires.inside c.index-rows-c.is c.as_slice-k-items.ensures c.loop-k-test.true in
    let inside : c.args.c < length c.args.marks.now = omega arith in
    let ways = leads_on c.args.rows.now c.args.marks.now c.loop-k.marks c.args.c _ inside c.requires.open c.loop-k.invariant.grew w in
    let fewer = seen_one c.args.marks.now c.args.c 1 inside c.requires.new (omega arith) in
    let opened : Leads c.args.rows.now c.loop-k.marks (slice_index c.as_slice-k-items.result.now c.loop-k.k-index) = record { way = ways } in
    let room = c.loop-k.invariant.room in
    let rises = c.loop-k.invariant.rises in
    let bound = c.requires.room in
    let len : length c.loop-k.marks ≡ length c.args.rows.now = c.loop-k.invariant.grew.same ∙ length-set c.args.marks.now c.args.c 1 ∙ c.requires.lens in
    let falls : unseen c.loop-k.marks < t = (let d : unseen c.args.marks.now ≡ t = c.decreases in let l = c.loop-k.invariant.done.some in omega arith) in
    (falls, (c.requires.within, (len, (search rules, (c.if-mark-eq0.true, (opened, (c.loop-k.invariant.done, omega arith)))))))

pub returns : goal.returns
returns t c =
    let inside : c.args.c < length c.args.marks.now = omega arith in
    let inside2 : c.args.c < length c.loop-k.marks = omega (arith, length-set c.args.marks.now c.args.c 1, c.loop-k.invariant.grew.same) in
    let fewer = seen_one c.args.marks.now c.args.c 1 inside c.requires.new (omega arith) in
    let still = seen_still c.loop-k.marks c.args.c (c.loop-k.next + 1) inside2 c.loop-k.invariant.here (omega arith) in
    let row : c.as_slice-k-items.result.now ≡ row_of c.args.rows.now c.args.c = c.as_slice-k-items.ensures ∙ get_or_read c.args.rows.now c.args.c c.index-rows-c.result c.requires.inside c.index-rows-c.is [] in
    let passed = from_places c.loop-k.marks c.as_slice-k-items.result.now (λ i h. c.loop-k.invariant.passed i (let ended = c.loop-k-test.false in omega arith)) in
    let all : (k : ℕ) → Contains (row_of c.args.rows.now c.args.c) k → 2 ≤ slice_index c.loop-k.marks k = subst (λ z. (k : ℕ) → Contains z k → 2 ≤ slice_index c.loop-k.marks k) row passed in
    let done = done_one c.args.rows.now c.loop-k.marks c.args.c c.loop-k.next inside2 c.loop-k.invariant.here c.loop-k.invariant.done all in
    let one = c.loop-k.invariant.done.some in
    let grew = grew_over c.args.marks.now c.loop-k.marks c.args.c (c.loop-k.next + 1) inside c.requires.new (omega arith) c.loop-k.invariant.grew in
    let room = c.loop-k.invariant.room in
    let rises = c.loop-k.invariant.rises in
    let here = get_or-set_same c.loop-k.marks c.args.c (c.loop-k.next + 1) 0 inside2 in
    (done, grew, (let two : 2 ≤ c.loop-k.next + 1 = omega arith in subst (λ z. 2 ≤ z) (sym here) two), omega arith, omega arith)
