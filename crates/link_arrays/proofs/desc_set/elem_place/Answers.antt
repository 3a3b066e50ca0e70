use Rattle.std.proofs.Common.{◌≡◌, ◌∙◌, ap}
use Rattle.jvm_base.specs.contracts.desc.ElemPartialEq.TheImpl as derived_elem
use Rattle.numbering.specs.Seen.{with_item}
use Rattle.program_image.specs.Signatures.{same_elem}
use Rattle.link_arrays.proofs.SetLaws.{elem_number}
use Rattle.link_arrays.proofs.Types.{derived_elem_is}
use Rattle.link_arrays.proofs.desc_set.elem_place.Goals as goal

pub returns-clause-elems : goal.returns-clause-elems
returns-clause-elems c =
    c.in_ok-place.ensures.keys
    ∙ ap (λ same. with_item same c.args.elems.now.keys c.in_ok-copy.copy) derived_elem_is
    ∙ ap (with_item same_elem c.args.elems.now.keys) c.in_ok-copy.ensures

pub returns-clause-place : goal.returns-clause-place
returns-clause-place c =
    elem_number c.args.elems.now.keys c.insert_full.new.self.keys c.args.elem.now c.in_ok-copy.copy derived_elem.eq-value.it c.in_ok-place.place
    derived_elem_is c.in_ok-copy.ensures c.in_ok-place.ensures.index c.in_ok-place.ensures.keys c.in_ok-place.ensures.within
