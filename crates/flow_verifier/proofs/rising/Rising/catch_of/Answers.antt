use Rattle.std.proofs.Common.{◌≡◌, List, sym, subst, refl}
use Rattle.std.specs.List.{list_any}
use Rattle.std.proofs.lemmas.List.Sorted.{list_any-IsPermutation}
use Rattle.flow_types.specs.Tree.{superclasses}
use Rattle.flow_verifier.specs.declared.method.Handler.{Handler}
use Rattle.flow_verifier.specs.Methods.{ops_of}
use Rattle.flow_verifier.specs.Given.{covers}
use Rattle.flow_verifier.specs.Worklist.Flowing.{IsMore}
use Rattle.flow_verifier.specs.Worklist.Ranges.{range_at}
use Rattle.flow_verifier.specs.Worklist.HandlerTrees.{handlers_in}
use Rattle.flow_verifier.specs.Typing.{frame_at, FitsPlace}
use Rattle.flow_verifier.specs.Worklist.Catching.{without_operands}
use Rattle.flow_verifier.proofs.HandlerLaws.{covering}
use Rattle.flow_verifier.proofs.RangeLaws.{there}
use Rattle.flow_verifier.proofs.Throwing.{no_frame, nothing_off, placed_at, bare_alike, taken_off, throw_start}
use Rattle.flow_verifier.proofs.rising.Rising.catch_of.Goals as goal

pub returns-in_default-clause-throwing : goal.returns-in_default-clause-throwing
returns-in_default-clause-throwing c =
    nothing_off c.args.image.now c.requires.tree c.args.m.now c.requires.fine c.args.at c.args.self.now.frames c.args.self.now.todo c.requires.going (λ f k e i j. no_frame (frame_at c.args.self.now.frames c.args.at) f (sym c.in_default.ensures) i)

pub address_of-address-requires-clause-place : goal.address_of-address-requires-clause-place
address_of-address-requires-clause-place c =
    placed_at c.args.image.now c.requires.tree c.args.m.now c.requires.fine c.args.at c.in-Some.f.now c.args.self.now.frames _ c.requires.going (sym c.in-Some.ensures)

pub more_caught-requires-clause-alike : goal.more_caught-requires-clause-alike
more_caught-requires-clause-alike c =
    bare_alike c.args.image.now c.requires.tree c.args.m.now c.requires.fine c.args.at c.in-Some.f.now c.args.self.now.frames _ c.args.self.now.catches c.of-before.result.now c.requires.catching c.requires.going (sym c.in-Some.ensures) c.of-before.ensures

pub returns-in_default-2-clause-throwing : goal.returns-in_default-2-clause-throwing
returns-in_default-2-clause-throwing c =
    let fits : FitsPlace (superclasses c.args.image.now) (without_operands c.in-Some.f.now) c.of-before.result.now = rw c.in_default-2.is at c.in_ok-caught.ensures in
    taken_off c.args.image.now c.requires.tree c.args.m.now c.requires.fine c.args.at c.in-Some.f.now c.args.self.now.frames c.args.self.now.todo c.args.self.now.catches c.requires.catching c.requires.going (sym c.in-Some.ensures) (subst (λ z. FitsPlace (superclasses c.args.image.now) (without_operands c.in-Some.f.now) z) c.of-before.ensures fits)

pub returns-clause-throwing : goal.returns-clause-throwing
returns-clause-throwing c =
    let (o, placed) = there (ops_of c.args.image.now c.args.m.now.number) c.args.at (placed_at c.args.image.now c.requires.tree c.args.m.now c.requires.fine c.args.at c.in-Some.f.now c.args.self.now.frames _ c.requires.going (sym c.in-Some.ensures)) in
    let known = c.requires.known in
    let all : List Handler = handlers_in c.args.facts.now.handlers in
    let address : o.at ≡ c.address_of-address.result = sym (c.address_of-address.ensures o placed) in
    let more : IsMore (superclasses c.args.image.now) (list_any (covers c.address_of-address.result) all) (frame_at c.args.self.now.catches.frames (range_at c.args.self.now.catches.ranges c.args.at)) c.in-Some.f.now c.in-Some-2.caught = (rw (c.in-Some-2.is, c.of-before.ensures) at c.in_ok-caught.ensures) in
    throw_start c.args.image.now c.requires.tree c.args.m.now c.requires.fine c.args.at c.address_of-address.result o c.in-Some.f.now (record { at = c.args.at; caught = c.in-Some-2.caught; thrown = c.in_ok-thrown.thrown; handlers = c.in_ok-handlers.handlers }) c.args.self.now placed refl address
    (covering c.args.image.now c.args.m.now c.args.at c.address_of-address.result o all c.in_ok-handlers.handlers placed address known.handlers c.in_ok-handlers.ensures)
    (sym c.in-Some.ensures) c.requires.marked c.requires.catching c.requires.going
    (subst (λ z. IsMore (superclasses c.args.image.now) z (frame_at c.args.self.now.catches.frames (range_at c.args.self.now.catches.ranges c.args.at)) c.in-Some.f.now c.in-Some-2.caught) (sym (list_any-IsPermutation (covers c.address_of-address.result) c.args.m.now.handlers all known.handlers)) more)
    c.in_ok-thrown.ensures
