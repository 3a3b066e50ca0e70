use Rattle.std.proofs.Common.{◌≡◌, ◌∙◌, sym, ap, position, Some, None}
use Rattle.program_image.specs.Signatures.{same_desc, same_elem}
use Rattle.link_arrays.proofs.SetLaws.{place_some, place_none}
use Rattle.link_arrays.proofs.Types.{derived_elem_is}
use Rattle.link_arrays.proofs.desc_set.DescSet.place.Goals as goal

pub returns-in_err-place-clause-at : goal.returns-in_err-place-clause-at
returns-in_err-place-clause-at c =
    let elems = c.self.inside.elems.keys in
    let e = c.args.desc.now.elem in
    let none : position (same_elem e) elems ≡ None = ap (λ same. position (same e) elems) (sym derived_elem_is) ∙ sym c.in_err-place.ensures.index in
    c.from_residual.ensures
    ∙ place_none elems e c.args.desc.now.dims c.self.inside.rows.keys none c.self.invariant
    ∙ ap (position (same_desc c.args.desc.now)) c.self.view_is

pub returns-clause-at : goal.returns-clause-at
returns-clause-at c =
    let elems = c.self.inside.elems.keys in
    let e = c.args.desc.now.elem in
    let at : position (same_elem e) elems ≡ Some c.in_ok-place.place = ap (λ same. position (same e) elems) (sym derived_elem_is) ∙ sym c.in_ok-place.ensures.index in
    c.get_index_of-2.ensures.index
    ∙ place_some elems e c.args.desc.now.dims c.in_ok-place.place c.self.inside.rows.keys at c.self.invariant
    ∙ ap (position (same_desc c.args.desc.now)) c.self.view_is
