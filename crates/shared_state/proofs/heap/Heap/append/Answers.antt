use Rattle.std.proofs.Common.{◌≡◌, ◌∙◌, ◌++◌, ap, sym, rules, Some, None}
use Rattle.std.specs.Map.{lookup, set_value}
use Rattle.std.specs.BTreeMap.{is_at}
use Rattle.jvm_base.specs.Names.{name_cmp}
use Rattle.machine_state.specs.State.{body_at}
use Rattle.machine_state.specs.Changes.{with_content}
use Rattle.machine_state.specs.Serving.{content_of}
use Rattle.shared_state.specs.Stored.{stored_body}
use Rattle.machine_state.proofs.Results.{on_ok_more, on_err_more}
use Rattle.shared_state.proofs.StoredLaws.{altered_there, absent_there, body_there, same_there}
use Rattle.shared_state.proofs.heap.Heap.append.Goals as goal
use Rattle.shared_state.proofs.heap.Heap.append.Goals.{in-Some, in-None}

pub returns-clause-ok : goal.returns-clause-ok
returns-clause-ok c =
    let n = c.args.name in
    let us = c.args.units.now in
    let es = c.self.inside.objects.entries in
    let heap = c.args.self.now in
    let after = c.match-get_mut.self-inside.objects.entries in
    let f = with_content (content_of (body_at heap n) ++ us) in
    elim c.match-get_mut.branch [
      | in-Some w ↦
          let s = w.in-Some.body.now in
          let t = w.append.new.body in
          let here : Some s ≡ lookup (is_at (name_cmp n)) es = search rules in
          let a : after ≡ set_value (is_at (name_cmp n)) es t = rw w.self-inside-is (c.get_mut.follows.holds t).0 in
          let body = body_there n s es heap c.self.view_is here in
          rw w.result-is (on_ok_more w.append.result (λ e. altered_there n s t es after heap f c.self.view_is here (e ∙ ap (λ o. with_content (content_of o ++ us) (stored_body s)) (sym body)) a) w.append.ensures.ok)
      | in-None w ↦
          let none : None ≡ lookup (is_at (name_cmp n)) es = search rules in
          let a : after ≡ es = search rules in
          rw w.result-is (absent_there n es after heap f c.self.view_is none a)
    ]

pub returns-clause-err : goal.returns-clause-err
returns-clause-err c =
    let n = c.args.name in
    let es = c.self.inside.objects.entries in
    let heap = c.args.self.now in
    let after = c.match-get_mut.self-inside.objects.entries in
    elim c.match-get_mut.branch [
      | in-Some w ↦
          let s = w.in-Some.body.now in
          let t = w.append.new.body in
          let here : Some s ≡ lookup (is_at (name_cmp n)) es = search rules in
          let a : after ≡ set_value (is_at (name_cmp n)) es t = rw w.self-inside-is (c.get_mut.follows.holds t).0 in
          rw w.result-is (on_err_more w.append.result (λ e. same_there n s t es after heap c.self.view_is here a e) w.append.ensures.err)
      | in-None w ↦ rw w.result-is tt
    ]
