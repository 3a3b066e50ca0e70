use Rattle.std.proofs.Common.{◌≡◌, ℕ, ◌<◌, [], List, length, slice_index_or, sym, ◌∙◌, subst, arith}
use Rattle.std.specs.List.{All}
use Rattle.std.proofs.lemmas.List.{get_or_read}
use Rattle.hierarchy.specs.Hierarchy.{row_of}
use Rattle.hierarchy.specs.Steps.Search.{Outcome, Reached}
use Rattle.hierarchy.proofs.Reach.{popped_in, reached_more, is_on_loop_by, not_on_loop}
use Rattle.hierarchy.proofs.upwards.search.Goals as goal

pub bounds-rows-k : goal.bounds-rows-k
bounds-rows-k c = popped_in c.args.rows.now c.args.c c.in-Some.k c.loop-k.seen _ c.loop-k.todo c.requires.within c.requires.inside c.in-Some.ensures c.loop-k.invariant

-- the row that is gone through
row_of_k : (rows : List (List ℕ)) (k : ℕ) (r items : List ℕ) → k < length rows → r ≡ slice_index_or rows k r → items ≡ r → items ≡ row_of rows k
row_of_k rows k r items inside is same = same ∙ get_or_read rows k r inside is []

pub spread-requires : goal.spread-requires
spread-requires c =
    let inside = popped_in c.args.rows.now c.args.c c.in-Some.k c.loop-k.seen _ c.loop-k.todo c.requires.within c.requires.inside c.in-Some.ensures c.loop-k.invariant in
    let row = row_of_k c.args.rows.now c.in-Some.k c.index-rows-k.result c.as_slice.result.now inside c.index-rows-k.is c.as_slice.ensures in
    let n = length c.loop-k.seen in
    let all : All (λ x. x < length c.loop-k.seen) (row_of c.args.rows.now c.in-Some.k) = λ k d l. (let b = c.requires.within c.in-Some.k [] inside k d l in let e = c.loop-k.invariant.same in omega arith) in
    subst (All (λ x. x < length c.loop-k.seen)) (sym row) all

pub returns-then-branch : goal.returns-then-branch
returns-then-branch c =
    let inside = popped_in c.args.rows.now c.args.c c.in-Some.k c.loop-k.seen _ c.loop-k.todo c.requires.within c.requires.inside c.in-Some.ensures c.loop-k.invariant in
    let row = row_of_k c.args.rows.now c.in-Some.k c.index-rows-k.result c.as_slice.result.now inside c.index-rows-k.is c.as_slice.ensures in
    let met = subst (λ b. Outcome b c.as_slice.result.now c.args.c c.loop-k.seen c.pop.new.self c.spread.new.seen c.spread.new.todo) c.if-branch.true c.in_ok-spread.ensures in
    sym (is_on_loop_by c.args.rows.now c.args.c c.in-Some.k c.as_slice.result.now c.loop-k.seen c.pop.new.self c.loop-k.todo c.requires.within row c.in-Some.ensures c.loop-k.invariant met)

pub loop-k-preserved : goal.loop-k-preserved
loop-k-preserved c =
    let inside = popped_in c.args.rows.now c.args.c c.in-Some.k c.loop-k.seen _ c.loop-k.todo c.requires.within c.requires.inside c.in-Some.ensures c.loop-k.invariant in
    let row = row_of_k c.args.rows.now c.in-Some.k c.index-rows-k.result c.as_slice.result.now inside c.index-rows-k.is c.as_slice.ensures in
    let out = subst (λ b. Outcome b c.as_slice.result.now c.args.c c.loop-k.seen c.pop.new.self c.spread.new.seen c.spread.new.todo) c.if-branch.false c.in_ok-spread.ensures in
    reached_more c.args.rows.now c.args.c c.in-Some.k c.as_slice.result.now c.loop-k.seen c.pop.new.self c.loop-k.todo c.spread.new.seen c.spread.new.todo row c.in-Some.ensures c.loop-k.invariant out

pub returns : goal.returns
returns c = sym (not_on_loop c.args.rows.now c.args.c c.loop-k.seen (subst (λ t. Reached c.args.rows.now c.args.c c.loop-k.seen t) c.in_default.ensures.0 c.loop-k.invariant))
