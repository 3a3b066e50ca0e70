use Rattle.std.proofs.Common.{refl, ℕ, List, ◌∙◌, ap, subst, ◌≡◌, ◌++◌, ◌-◌, ◌+◌, map, Option, Some, sym, arith}
use Rattle.program_image.specs.Selection.{over_class, supers}
use Rattle.step_serve.proofs.Chains.{walk_next, walks_first, walks_on, walks_last}
use Rattle.step_serve.proofs.blanks.supers.Goals as goal

pub loop-init : goal.loop-init
loop-init c =
    walks_first c.args.image.now.classes c.new-list.result c.args.class (c.from-most.result + 2) 0
    c.new-list.ensures (omega (arith, c.from-most.ensures, c.classes.ensures)) refl

pub loop-preserved : goal.loop-preserved
loop-preserved c =
    let classes = c.args.image.now.classes in
    let before =
    subst
    (λ (o : Option ℕ). c.loop.list ++ walk_next (c.from-most.result + 2 - c.loop.counter) (map over_class classes) o ≡ supers classes c.args.class)
    c.in-Some.is c.loop.invariant in
    ap (λ (xs : List ℕ). xs ++ walk_next (c.from-most.result + 2 - (c.loop.counter + 1)) (map over_class classes) c.over-next.result) c.in_ok-push-in-Some.ensures.ok
    ∙ walks_on classes c.loop.list _ (c.from-most.result + 2) c.loop.counter c.in-Some.class
    c.over-next.result c.loop-test.true c.over-next.ensures before

pub returns : goal.returns
returns c =
    walks_last c.args.image.now.classes c.loop.list _ _ c.loop.counter c.loop.next
    c.loop-test.false c.loop.invariant
