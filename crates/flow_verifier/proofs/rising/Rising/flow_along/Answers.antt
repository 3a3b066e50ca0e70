use Rattle.std.proofs.Common.{◌≡◌, ℕ, slice_get, Some}
use Rattle.std.specs.Prelude.{get_or}
use Rattle.flow_verifier.proofs.Ways.{on_ok}
use Rattle.flow_verifier.proofs.Visits.{place-at, on_both, visit-target, next-alike, next-step, next-falls}
use Rattle.flow_verifier.proofs.rising.Rising.flow_along.Goals as goal

pub flow-requires-clause-within : goal.flow-requires-clause-within
flow-requires-clause-within g c =
    let to : ℕ = get_or c.as_slice.result.now c.args.k 0 in
    let w : slice_get c.args.visit.now.to c.args.k ≡ Some to = place-at c.args.visit.now.to c.as_slice.result.now c.args.k 0 c.as_slice.ensures c.requires.way in
    visit-target c.args.image.now c.requires.tree c.args.m.now c.requires.fine c.args.visit.now c.args.k to c.args.self.now c.requires.visiting w

pub flow-requires-clause-alike : goal.flow-requires-clause-alike
flow-requires-clause-alike g c =
    let to : ℕ = get_or c.as_slice.result.now c.args.k 0 in
    let w : slice_get c.args.visit.now.to c.args.k ≡ Some to = place-at c.args.visit.now.to c.as_slice.result.now c.args.k 0 c.as_slice.ensures c.requires.way in
    next-alike c.args.image.now c.requires.tree c.args.m.now c.requires.fine c.args.visit.now c.args.k to c.args.self.now c.requires.visiting w

pub returns-clause-visiting : goal.returns-clause-visiting
returns-clause-visiting g c =
    let to : ℕ = get_or c.as_slice.result.now c.args.k 0 in
    let w : slice_get c.args.visit.now.to c.args.k ≡ Some to = place-at c.args.visit.now.to c.as_slice.result.now c.args.k 0 c.as_slice.ensures c.requires.way in
    on_both c.flow.result _ _ _ c.flow.ensures.flows c.flow.ensures.marked (λ f n. next-step c.args.image.now c.requires.tree c.args.m.now c.requires.fine c.args.visit.now c.args.k to c.args.self.now c.flow.new.self c.requires.visiting w f n c.flow.ensures.catches)

pub returns-clause-falls : goal.returns-clause-falls
returns-clause-falls g c =
    let to : ℕ = get_or c.as_slice.result.now c.args.k 0 in
    let w : slice_get c.args.visit.now.to c.args.k ≡ Some to = place-at c.args.visit.now.to c.as_slice.result.now c.args.k 0 c.as_slice.ensures c.requires.way in
    on_ok c.flow.result _ _ c.flow.ensures.flows (λ f. next-falls c.args.image.now c.requires.tree c.args.m.now c.requires.fine c.args.visit.now c.args.k to c.args.self.now c.flow.new.self c.requires.visiting w f)
