use Rattle.std.proofs.Common.{◌≡◌, ◌∙◌, subst, ◌<◌, length}
use Rattle.std.proofs.lemmas.Option.{slice_get_within}
use Rattle.flow_verifier.specs.Methods.{ops_of}
use Rattle.flow_verifier.specs.Worklist.Leading.{ways_caught}
use Rattle.flow_verifier.specs.Worklist.Catching.{IsCatching}
use Rattle.flow_verifier.specs.Worklist.Going.{IsTakenOff}
use Rattle.flow_verifier.proofs.Throwing.{with_caught, kept_range, kept_catches, throw_end, throw_keep}
use Rattle.flow_verifier.proofs.rising.Rising.catch.Goals as goal

pub keep-requires-clause-range : goal.keep-requires-clause-range
keep-requires-clause-range g c =
    let x = c.in_ok-throw_to_all.ensures.throwing in
    let a = x.caught in
    let at : c.throw_to_all.new.catch.at ≡ c.args.at = c.throw_to_all.ensures.at ∙ (rw c.in-Some.is at c.in_ok-catch.ensures.at) in
    let inside : c.args.at < length (ops_of c.args.image.now c.args.m.now.number) = subst (λ z. z < length (ops_of c.args.image.now c.args.m.now.number)) at (slice_get_within (ops_of c.args.image.now c.args.m.now.number) c.throw_to_all.new.catch.at a.placed a.is_placed) in
    kept_range c.args.image.now c.requires.tree c.args.m.now c.requires.fine c.throw_to_all.new.self.frames c.throw_to_all.new.self.catches c.args.at x.catching inside

pub returns-clause-catching : goal.returns-clause-catching
returns-clause-catching g c =
    let x = c.in_ok-throw_to_all.ensures.throwing in
    let at : c.throw_to_all.new.catch.at ≡ c.args.at = c.throw_to_all.ensures.at ∙ (rw c.in-Some.is at c.in_ok-catch.ensures.at) in
    kept_catches c.args.image.now c.requires.tree c.args.m.now c.requires.fine c.throw_to_all.new.self.frames c.throw_to_all.new.self.catches c.keep.new.self c.args.at c.throw_to_all.new.catch.caught c.caught.result c.keep.ensures.ranges c.keep.ensures.frames c.caught.ensures
    (subst (λ z. IsCatching c.args.image.now c.args.m.now c.throw_to_all.new.self.frames (with_caught c.throw_to_all.new.self.catches z c.throw_to_all.new.catch.caught)) at
    (throw_keep c.args.image.now c.requires.tree c.args.m.now c.requires.fine c.throw_to_all.new.catch c.throw_to_all.new.self x))

pub returns-clause-off : goal.returns-clause-off
returns-clause-off g c =
    let at : c.throw_to_all.new.catch.at ≡ c.args.at = c.throw_to_all.ensures.at ∙ (rw c.in-Some.is at c.in_ok-catch.ensures.at) in
    subst (λ z. IsTakenOff c.args.image.now c.args.m.now z (ways_caught c.args.image.now c.args.m.now z) c.throw_to_all.new.self.frames c.throw_to_all.new.self.todo) at
    (throw_end c.args.image.now c.requires.tree c.args.m.now c.requires.fine c.throw_to_all.new.catch c.throw_to_all.new.self c.in_ok-throw_to_all.ensures.throwing)
