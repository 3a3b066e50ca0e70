use Rattle.std.proofs.Common.{◌∙◌, ap, sym, subst, ◌<◌, length, arith, map}
use Rattle.machine_state.specs.Changes.{changed}
use Rattle.machine_state.specs.Serving.{change_of}
use Rattle.shared_state.specs.Orderly.{lasting}
use Rattle.shared_state.specs.Parts.{state_of}
use Rattle.shared_state.specs.Making.{AllNew}
use Rattle.shared_state.specs.contracts.shared.Shared.{the_view}
use Rattle.shared_state.proofs.MakingLaws.{orderly_new, made_changed, none_ended}
use Rattle.shared_state.proofs.shared.Shared.perform_all.Goals as goal

pub make_all-requires : goal.make_all-requires
make_all-requires c =
    let h = c.args.self.now.heap in
    let many : 2 < length c.args.effects = omega (arith, c.len.ensures, c.if-len-gt2.true) in
    subst (λ x. AllNew x c.args.effects) (sym (ap (λ p. p.heap) c.self.view_is)) (orderly_new h h c.args.effects many c.requires)

pub returns-then-len-gt2-clause-ok : goal.returns-then-len-gt2-clause-ok
returns-then-len-gt2-clause-ok c =
    let es = c.args.effects in
    let h = c.args.self.now.heap in
    let ts = c.args.threads.now.items in
    let p = the_view c.self.inside in
    let many : 2 < length es = omega (arith, c.len.ensures, c.if-len-gt2.true) in
    let new = subst (λ x. AllNew x es) (sym (ap (λ p. p.heap) c.self.view_is)) (orderly_new h h es many c.requires) in
    ap (λ x. state_of (record p { heap = x }) ts) c.in_ok-make_all.ensures.ok ∙ (sym (made_changed c.self.inside.heap h es p ts new) ∙ ap (λ q. changed (lasting (map (change_of h) es)) (state_of q ts)) c.self.view_is)

pub returns-then-len-gt2-clause-ended : goal.returns-then-len-gt2-clause-ended
returns-then-len-gt2-clause-ended c =
    let es = c.args.effects in
    let h = c.args.self.now.heap in
    let many : 2 < length es = omega (arith, c.len.ensures, c.if-len-gt2.true) in
    sym (none_ended h h es (orderly_new h h es many c.requires))
