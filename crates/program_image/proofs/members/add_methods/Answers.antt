use Rattle.std.proofs.Common.{◌≡◌, ◌∙◌, sym, ap, true, false, Some, slice_get, slice_index, ◌<◌, length, subst}
use Rattle.std.specs.List.{All}
use Rattle.std.proofs.lemmas.Option.{slice_get-get_or}
use Rattle.hierarchy.specs.Walks.{or_else}
use Rattle.hierarchy.proofs.WalkLaws.{or_else_none}
use Rattle.program_image.specs.Built.Members.{member_at}
use Rattle.program_image.proofs.MemberLaws.{one_method, members_more}
use Rattle.program_image.proofs.members.add_methods.Goals as goal
use Rattle.program_image.proofs.members.add_methods.Goals.{then-is_instance+in_ok-add_method, else-is_instance}

pub loop-m-preserved : goal.loop-m-preserved
loop-m-preserved c = λ key.
    let ms = c.args.methods.now in
    let signs = c.args.signs.now in
    let m = slice_index c.as_slice-m-items.result.now c.loop-m.m-index in
    let now = member_at c.loop-m.declared.entries key in
    let inside : m < length ms = (subst (λ z. All (λ k. k < length ms) z) (sym c.as_slice-m-items.ensures) c.requires.within) c.loop-m.m-index 0 c.loop-m-test.true in
    let at : slice_get ms m ≡ Some c.index-methods-m.result = slice_get-get_or ms m c.index-methods-m.result inside ∙ ap Some (sym c.index-methods-m.is) in
    members_more ms signs c.args.class key c.as_slice-m-items.result.now c.loop-m.m-index (member_at c.args.declared.now.entries key) now _ c.loop-m-test.true (c.loop-m.invariant key)
    (elim c.if-is_instance.branch [
      | then-is_instance+in_ok-add_method w ↦ ap (λ d. member_at d.entries key) w.declared-is ∙ w.in_ok-add_method.ensures key ∙ ap (or_else now) (sym (one_method ms signs c.args.class key m c.index-methods-m.result true at (sym c.is_instance.ensures ∙ w.if-is_instance.true)))
      | else-is_instance w ↦ ap (λ d. member_at d.entries key) w.declared-is ∙ sym (or_else_none now) ∙ ap (or_else now) (sym (one_method ms signs c.args.class key m c.index-methods-m.result false at (sym c.is_instance.ensures ∙ w.if-is_instance.false)))
    ])
