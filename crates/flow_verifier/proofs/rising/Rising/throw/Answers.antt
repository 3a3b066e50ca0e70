use Rattle.std.proofs.Common.{◌≡◌, slice_get, Some}
use Rattle.std.specs.Prelude.{get_or}
use Rattle.flow_verifier.specs.declared.method.Handler.{Handler}
use Rattle.flow_verifier.specs.Worklist.Going.{IsPut}
use Rattle.flow_verifier.proofs.Ways.{on_ok}
use Rattle.flow_verifier.proofs.Visits.{on_both}
use Rattle.flow_verifier.proofs.Throwing.{no_handler, handler_at, throw_target, throw_alike, throw_step, throw_falls}
use Rattle.flow_verifier.proofs.rising.Rising.throw.Goals as goal

pub flow-requires-clause-within : goal.flow-requires-clause-within
flow-requires-clause-within g c =
    let h : Handler = get_or c.as_slice.result.now c.args.k no_handler in
    let i : slice_get c.args.catch.now.handlers c.args.k ≡ Some h = handler_at c.args.catch.now.handlers c.as_slice.result.now c.args.k c.as_slice.ensures c.requires.handler in
    throw_target c.args.image.now c.requires.tree c.args.m.now c.requires.fine c.args.catch.now c.args.k h c.args.self.now c.requires.throwing i

pub flow-requires-clause-alike : goal.flow-requires-clause-alike
flow-requires-clause-alike g c =
    let h : Handler = get_or c.as_slice.result.now c.args.k no_handler in
    let i : slice_get c.args.catch.now.handlers c.args.k ≡ Some h = handler_at c.args.catch.now.handlers c.as_slice.result.now c.args.k c.as_slice.ensures c.requires.handler in
    let q : IsPut c.args.catch.now.thrown c.put_class.new.self h.class = c.in_ok-put_class.ensures in
    throw_alike c.args.image.now c.requires.tree c.args.m.now c.requires.fine c.args.catch.now c.args.k h c.put_class.new.self c.args.self.now c.requires.throwing i q

pub returns-clause-throwing : goal.returns-clause-throwing
returns-clause-throwing g c =
    let h : Handler = get_or c.as_slice.result.now c.args.k no_handler in
    let i : slice_get c.args.catch.now.handlers c.args.k ≡ Some h = handler_at c.args.catch.now.handlers c.as_slice.result.now c.args.k c.as_slice.ensures c.requires.handler in
    let q : IsPut c.args.catch.now.thrown c.put_class.new.self h.class = c.in_ok-put_class.ensures in
    on_both c.flow.result _ _ _ c.flow.ensures.flows c.flow.ensures.marked (λ f mk. throw_step c.args.image.now c.requires.tree c.args.m.now c.requires.fine c.args.catch.now c.args.k h c.put_class.new.self c.args.self.now c.flow.new.self c.requires.throwing i q f mk c.flow.ensures.catches)

pub returns-clause-falls : goal.returns-clause-falls
returns-clause-falls g c =
    let h : Handler = get_or c.as_slice.result.now c.args.k no_handler in
    let i : slice_get c.args.catch.now.handlers c.args.k ≡ Some h = handler_at c.args.catch.now.handlers c.as_slice.result.now c.args.k c.as_slice.ensures c.requires.handler in
    let q : IsPut c.args.catch.now.thrown c.put_class.new.self h.class = c.in_ok-put_class.ensures in
    on_ok c.flow.result _ _ c.flow.ensures.flows (λ f. throw_falls c.args.image.now c.requires.tree c.args.m.now c.requires.fine c.args.catch.now c.args.k h c.put_class.new.self c.args.self.now c.flow.new.self c.requires.throwing i q f)
