use Rattle.std.proofs.Common.{◌≡◌, ◌∙◌, sym, ap, subst, not, position, Some}
use Rattle.numbering.specs.Seen.{is_seen, with_item}
use Rattle.program_image.specs.Signatures.{same_desc, same_elem}
use Rattle.link_arrays.specs.Arrays.{array}
use Rattle.link_arrays.specs.Sets.{types_of, AreRows}
use Rattle.link_arrays.proofs.SetLaws.{rows_grown, types_grown, row_seen, row_added, rows_added}
use Rattle.link_arrays.proofs.desc_set.DescSet.add.Goals as goal

pub invariant_of-self-in_err-insert : goal.invariant_of-self-in_err-insert
invariant_of-self-in_err-insert c =
    let elems = c.elem_place.new.elems.keys in
    subst (AreRows elems) (sym c.in_err-insert.ensures.err)
    (rows_grown c.self.inside.elems.keys elems c.args.elem.now c.self.inside.rows.keys c.in_ok-place.ensures.elems c.self.invariant)

pub invariant_of-self-2 : goal.invariant_of-self-2
invariant_of-self-2 c =
    let elems = c.elem_place.new.elems.keys in
    let rows = c.self.inside.rows.keys in
    let grown = rows_grown c.self.inside.elems.keys elems c.args.elem.now rows c.in_ok-place.ensures.elems c.self.invariant in
    subst (AreRows elems) (sym c.in_ok-insert.ensures.keys)
    (rows_added elems c.args.elem.now c.args.dims c.in_ok-place.place rows c.in_ok-place.ensures.place grown)

pub returns-clause-fresh : goal.returns-clause-fresh
returns-clause-fresh c =
    let elems = c.elem_place.new.elems.keys in
    let rows = c.self.inside.rows.keys in
    let e = c.args.elem.now in
    let grown = rows_grown c.self.inside.elems.keys elems e rows c.in_ok-place.ensures.elems c.self.invariant in
    let types = types_grown c.self.inside.elems.keys elems e rows c.in_ok-place.ensures.elems c.self.invariant in
    c.in_ok-insert.ensures.added
    ∙ ap not (row_seen elems e c.args.dims c.in_ok-place.place rows c.in_ok-place.ensures.place grown
    ∙ ap (λ ts. is_seen same_desc ts (array c.args.dims e)) (types ∙ c.self.view_is))

pub returns-clause-types : goal.returns-clause-types
returns-clause-types c =
    let elems = c.elem_place.new.elems.keys in
    let rows = c.self.inside.rows.keys in
    let e = c.args.elem.now in
    let grown = rows_grown c.self.inside.elems.keys elems e rows c.in_ok-place.ensures.elems c.self.invariant in
    let types = types_grown c.self.inside.elems.keys elems e rows c.in_ok-place.ensures.elems c.self.invariant in
    ap (types_of elems) c.in_ok-insert.ensures.keys
    ∙ row_added elems e c.args.dims c.in_ok-place.place rows c.in_ok-place.ensures.place grown
    ∙ ap (λ ts. with_item same_desc ts (array c.args.dims e)) (types ∙ c.self.view_is)
