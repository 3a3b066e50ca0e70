use Rattle.std.proofs.Common.{◌≡◌, ℕ, ◌<◌, List, length, get_or, ap, sym, ◌∙◌, subst, arith}
use Rattle.std.proofs.lemmas.Option.{slice_get_within, get_or_from_slice_get}
use Rattle.jvm_base.specs.declared.desc.Desc.{Desc}
use Rattle.class_format.specs.declared.class.ClassFile.{ClassFile}
use Rattle.link_rules.specs.Numbers.{methods_at}
use Rattle.link_uses.specs.declared.lookup.Found.{Found}
use Rattle.program_image.specs.declared.info.ClassInfo.{ClassInfo}
use Rattle.link_image.specs.Classes.{class_infos}
use Rattle.link_image.proofs.MainLaw.{IsNumbered, is_numbered}
use Rattle.link_image.proofs.Within.{main_in}
use Rattle.link_image.proofs.image.method_number.Goals as goal

-- the method in the list of classes that is given
numbered : (all : List ClassFile) (arrays : List Desc) (literals : List (List ℕ)) (infos : List ClassInfo) (x : Found) → infos ≡ class_infos all arrays literals → x.place < length (methods_at all x.class) → IsNumbered all infos x
numbered all arrays literals infos x e h = subst (λ z. IsNumbered all z x) (sym e) (is_numbered all arrays literals x h)

pub bounds-lookup-x : goal.bounds-lookup-x
bounds-lookup-x c =
    let n = numbered c.args.lookup.now.resolver.now c.args.lookup.now.arrays.now c.args.lookup.now.constants.literals.now c.args.lookup.now.infos.now c.args.x.now c.requires.infos c.requires.inside in
    slice_get_within c.args.lookup.now.infos.now c.args.x.now.class n.info n.at

pub offset_bounds-as_slice-x : goal.offset_bounds-as_slice-x
offset_bounds-as_slice-x c =
    let l = main_in c.args.lookup.now.resolver.now c.args.x.now c.requires.inside in
    let few = c.requires.few in
    omega arith

pub bounds-as_slice-x : goal.bounds-as_slice-x
bounds-as_slice-x c =
    let infos : List ClassInfo = c.args.lookup.now.infos.now in
    let n = numbered c.args.lookup.now.resolver.now c.args.lookup.now.arrays.now c.args.lookup.now.constants.literals.now infos c.args.x.now c.requires.infos c.requires.inside in
    let same : get_or infos c.args.x.now.class c.index-lookup-x.result ≡ n.info = get_or_from_slice_get infos c.args.x.now.class n.info c.index-lookup-x.result n.at in
    let list : c.as_slice.result.now ≡ n.info.methods = c.as_slice.ensures ∙ ap (λ (i : ClassInfo). i.methods) same in
    subst (λ z. c.args.x.now.place < length z) (sym list) n.place_in

pub returns : goal.returns
returns c =
    let infos : List ClassInfo = c.args.lookup.now.infos.now in
    let n = numbered c.args.lookup.now.resolver.now c.args.lookup.now.arrays.now c.args.lookup.now.constants.literals.now infos c.args.x.now c.requires.infos c.requires.inside in
    let same : get_or infos c.args.x.now.class c.index-lookup-x.result ≡ n.info = get_or_from_slice_get infos c.args.x.now.class n.info c.index-lookup-x.result n.at in
    let list : c.as_slice.result.now ≡ n.info.methods = c.as_slice.ensures ∙ ap (λ (i : ClassInfo). i.methods) same in
    ap (λ z. get_or z c.args.x.now.place 0) list ∙ n.number
