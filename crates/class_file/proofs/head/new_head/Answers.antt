use Rattle.std.proofs.Common.{◌≡◌, ℕ, true, false, refl, cond, sym, subst, ap, ◌∙◌}
use Rattle.std.specs.BTreeMap.{is_at}
use Rattle.std.specs.BTreeSet.{contains}
use Rattle.class_format.specs.Judging.Keys.{key_cmp, key_ranks}
use Rattle.class_file.proofs.SeenLaws.{seen_more, was_there, was_new, is_twice, is_new}
use Rattle.class_file.proofs.head.new_head.Goals as goal

pub returns-then-not-branch-clause-exact : goal.returns-then-not-branch-clause-exact
returns-then-not-branch-clause-exact c = λ keys h.
    let there : contains key_cmp c.args.seen.now (c.rank.result, c.rank-2.result) ≡ true = was_there c.in_ok-insert.field-0 _ c.in_ok-insert.ensures.added c.if-not-branch.true in
    let key : (c.rank.result, c.rank-2.result) ≡ key_ranks c.args.texts.now (c.in_ok-head.head.name, c.in_ok-head.head.desc) = rw (c.rank.ensures.value, c.rank-2.ensures.value) refl in
    let twice = sym (h c.in_ok-head.head.name c.in_ok-head.head.desc) ∙ ap (contains key_cmp c.args.seen.now) (sym key) ∙ there in
    rw c.offset-at.ensures.value (is_twice c.args.kind c.args.texts.now keys c.args.reader.now c.in_ok-head.head _ c.in_ok-head.ensures twice)

pub returns-clause-exact : goal.returns-clause-exact
returns-clause-exact c = λ keys h.
    let there : contains key_cmp c.args.seen.now (c.rank.result, c.rank-2.result) ≡ false = was_new c.in_ok-insert.field-0 _ c.in_ok-insert.ensures.added c.if-not-branch.false in
    let key : (c.rank.result, c.rank-2.result) ≡ key_ranks c.args.texts.now (c.in_ok-head.head.name, c.in_ok-head.head.desc) = rw (c.rank.ensures.value, c.rank-2.ensures.value) refl in
    let new = sym (h c.in_ok-head.head.name c.in_ok-head.head.desc) ∙ ap (contains key_cmp c.args.seen.now) (sym key) ∙ there in
    is_new c.args.kind c.args.texts.now keys c.args.reader.now c.in_ok-head.head c.any_head.new.reader c.in_ok-head.ensures new

pub returns-clause-seen : goal.returns-clause-seen
returns-clause-seen c = λ keys h.
    let key : (c.rank.result, c.rank-2.result) ≡ key_ranks c.args.texts.now (c.in_ok-head.head.name, c.in_ok-head.head.desc) = rw (c.rank.ensures.value, c.rank-2.ensures.value) refl in
    seen_more c.args.texts.now c.rank.ensures.gap c.args.seen.now c.insert.new.self keys c.in_ok-head.head.name c.in_ok-head.head.desc h
    (subst (λ (k : ℕ × ℕ). (q : ℕ × ℕ) → contains key_cmp c.insert.new.self q ≡ cond (is_at (key_cmp k) q) true (contains key_cmp c.args.seen.now q)) key c.in_ok-insert.ensures.updates.0)
