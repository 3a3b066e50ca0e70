use Rattle.std.proofs.Common.{◌≡◌, ◌∙◌, sym, refl, length, arith, ◌==◌, ◌&&◌}
use Rattle.std.proofs.lemmas.Bool.{and_parts}
use Rattle.flow_types.specs.Tree.{superclasses}
use Rattle.shared_types.specs.Trees.{types, is_sized}
use Rattle.shared_types.proofs.Laws.{top_joined_all, joined_top_all, length_top, counted}
use Rattle.shared_types.proofs.tree.Tree.+join.Goals as goal

pub returns-in-Unusable : goal.returns-in-Unusable
returns-in-Unusable t c =
    let e : c.in-Unusable.field-0 ≡ length (types c.args.low.now) = sym (length_top c.in-Unusable.field-0) ∙ (rw c.in-Unusable.is at c.requires.alike) in
    rw c.in-Unusable.is (top_joined_all (superclasses c.args.image.now) c.in-Unusable.field-0 (types c.args.low.now) e)

pub returns-in-Unusable-low : goal.returns-in-Unusable-low
returns-in-Unusable-low t c =
    let e : length (types c.args.self.now) ≡ c.in-Unusable-low.count = (rw c.in-Unusable-low.is at c.requires.alike) ∙ length_top c.in-Unusable-low.count in
    (refl, rw c.in-Unusable-low.is (sym (joined_top_all (superclasses c.args.image.now) c.in-Unusable-low.count (types c.args.self.now) e)))

pub returns-in_ok-after-in-Pair-self : goal.returns-in_ok-after-in-Pair-self
returns-in_ok-after-in-Pair-self t c =
    let p = c.in-Pair-self.first.value in
    let q = c.in-Pair-self.second.value in
    let u = c.in-Pair.under.value in
    let v = c.in-Pair.below.value in
    let (h1, h2) = and_parts (c.in-Pair-self.count == length (types p)) (is_sized p && is_sized q) (rw c.in-Pair-self.is at c.requires.high) in
    let (h3, h4) = and_parts (is_sized p) (is_sized q) h2 in
    let d : c.in-Pair-self.count ≡ length (types p) = counted c.in-Pair-self.count (length (types p)) (is_sized p && is_sized q) (rw c.in-Pair-self.is at c.requires.high) in
    let e : c.in-Pair.other ≡ length (types u) = counted c.in-Pair.other (length (types u)) (is_sized u && is_sized v) (rw c.in-Pair.is at c.requires.low) in
    let l : length (types p) ≡ length (types u) = omega (arith, c.if-count-other.true) in
    rw (c.in-Pair-self.is, c.in-Pair.is) (c.join_parts.ensures (superclasses c.args.image.now) u v h3 h4 d l (rw (c.deref.ensures, c.deref-in-Pair-self.ensures) at c.in_ok-before-in-Pair-self.ensures) (rw (c.deref-in-Pair-self-2.ensures, c.deref-in-Pair-self-3.ensures) at c.in_ok-after-in-Pair-self.ensures))
