use Rattle.std.proofs.Common.{◌≡◌, Some, None, rules}
use Rattle.std.specs.Map.{lookup, set_value}
use Rattle.std.specs.BTreeMap.{is_at}
use Rattle.jvm_base.specs.Names.{name_cmp}
use Rattle.machine_state.specs.Changes.{with_element}
use Rattle.shared_state.proofs.StoredLaws.{altered_there, absent_there}
use Rattle.shared_state.proofs.heap.Heap.set_element.Goals as goal
use Rattle.shared_state.proofs.heap.Heap.set_element.Goals.{in-Some, in-None}

pub returns : goal.returns
returns c =
    let n = c.args.name in
    let es = c.self.inside.objects.entries in
    let after = c.match-get_mut.self-inside.objects.entries in
    let f = with_element c.args.place c.args.value in
    elim c.match-get_mut.branch [
      | in-Some w ↦
          let here : Some w.in-Some.body.now ≡ lookup (is_at (name_cmp n)) es = search rules in
          let t = w.set_element.new.body in
          let a : after ≡ set_value (is_at (name_cmp n)) es t = rw w.self-inside-is (c.get_mut.follows.holds t).0 in
          altered_there n w.in-Some.body.now t es after c.args.self.now f c.self.view_is here w.set_element.ensures a
      | in-None w ↦
          let none : None ≡ lookup (is_at (name_cmp n)) es = search rules in
          let a : after ≡ es = search rules in
          absent_there n es after c.args.self.now f c.self.view_is none a
    ]
