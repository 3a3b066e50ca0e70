use Rattle.std.proofs.Common.{◌≡◌, ℕ, ◌+◌, ◌++◌, ◌<◌, ◌≤◌, List, Some, length, slice_get, get_or, drop, ap, sym, ◌∙◌, arith}
use Rattle.std.proofs.lemmas.List.{length-map}
use Rattle.std.proofs.lemmas.Option.{slice_get_within, get_or_from_slice_get}
use Rattle.class_format.specs.declared.class.ClassFile.{ClassFile}
use Rattle.link_rules.specs.Numbers.{map_from, interface_row}
use Rattle.link_image.specs.Classes.{class_info, declared_infos}
use Rattle.link_image.specs.Fields.{base_of}
use Rattle.link_image.proofs.Counts.{first_zero, first_more, first_in, base_at, interfaces_at}
use Rattle.link_image.proofs.ListLaws.{length_map_from}
use Rattle.link_image.proofs.Steps.{not_past, map_more_at, map_end}
use Rattle.link_image.proofs.classes.declared_infos.Goals as goal

-- as many first places as classes
count : (all : List ClassFile) (bases : List ℕ) → bases ≡ map_from (λ k f. base_of all k) 0 all → length bases ≡ length all
count all bases e = ap length e ∙ length_map_from (λ k f. base_of all k) 0 all

pub loop-number-init : goal.loop-number-init
loop-number-init c = record {
  first = first_zero c.args.program.now;
  infos = ap (λ z. z ++ declared_infos c.args.program.now c.args.constants.now.classes c.args.constants.now.literals.now) (sym c.new-infos.ensures);
}

pub loop-number-preserved-in_default : goal.loop-number-preserved-in_default
loop-number-preserved-in_default c =
    let n = count c.args.program.now c.args.bases.now c.requires.bases in
    let no : ⊥ = not_past c.args.program.now c.loop-number.number (omega arith) c.in_default.ensures in
    absurd no

pub offset_bounds-interfaces-number : goal.offset_bounds-interfaces-number
offset_bounds-interfaces-number c =
    let n = count c.args.program.now c.args.bases.now c.requires.bases in omega arith

pub bounds-interfaces-number : goal.bounds-interfaces-number
bounds-interfaces-number c =
    let n = count c.args.program.now c.args.bases.now c.requires.bases in
    let m = length-map c.args.program.now (interface_row c.args.program.now) in
    let l = ap length c.requires.interfaces in omega arith

pub overflow_cast-number : goal.overflow_cast-number
overflow_cast-number c =
    let n = count c.args.program.now c.args.bases.now c.requires.bases in omega arith

pub class_info-requires-clause-interfaces : goal.class_info-requires-clause-interfaces
class_info-requires-clause-interfaces c =
    interfaces_at c.args.program.now c.args.interfaces.now c.loop-number.number c.in-Some.file.now c.index-interfaces-number.result c.as_slice-row.result.now c.requires.interfaces (sym c.in-Some.ensures) c.index-interfaces-number.is c.as_slice-row.ensures

pub class_info-requires-clause-base : goal.class_info-requires-clause-base
class_info-requires-clause-base c =
    let z : 0 + c.loop-number.number ≡ c.loop-number.number = omega arith in
    base_at c.args.program.now c.args.bases.now c.loop-number.number c.in-Some.file.now c.requires.bases (sym c.in-Some.ensures) ∙ ap (base_of c.args.program.now) z

-- a class's fields are few, and so are those of its superclasses
pub class_info-requires-clause-places : goal.class_info-requires-clause-places
class_info-requires-clause-places c =
    let all : List ClassFile = c.args.program.now in
    let f : ClassFile = c.in-Some.file.now in
    let e : slice_get all c.loop-number.number ≡ Some f = sym c.in-Some.ensures in
    let inside = slice_get_within all c.loop-number.number f e in
    let s : length (get_or all c.loop-number.number f).fields ≡ length f.fields = ap (λ (g : ClassFile). length g.fields) (get_or_from_slice_get all c.loop-number.number f f e) in
    let l : length (get_or all c.loop-number.number f).fields < 65536 = c.requires.fields c.loop-number.number f inside in
    let b : get_or c.args.bases.now c.loop-number.number 0 ≤ 2147483648 = c.requires.places c.loop-number.number 0 c.loop-number-test.true in
    omega arith

pub class_info-requires-clause-methods : goal.class_info-requires-clause-methods
class_info-requires-clause-methods c =
    let l = first_in c.args.program.now c.loop-number.number c.in-Some.file.now (sym c.in-Some.ensures) in
    let q = c.loop-number.invariant.first in
    omega arith

pub overflow_cast-first : goal.overflow_cast-first
overflow_cast-first c =
    let l = first_in c.args.program.now c.loop-number.number c.in-Some.file.now (sym c.in-Some.ensures) in
    let q = c.loop-number.invariant.first in
    omega (arith, c.len.ensures)

pub overflow_add-first : goal.overflow_add-first
overflow_add-first c =
    let l = first_in c.args.program.now c.loop-number.number c.in-Some.file.now (sym c.in-Some.ensures) in
    let q = c.loop-number.invariant.first in
    omega (arith, c.len.ensures)

pub loop-number-preserved : goal.loop-number-preserved
loop-number-preserved c =
    let all : List ClassFile = c.args.program.now in
    let e : slice_get all c.loop-number.number ≡ Some c.in-Some.file.now = sym c.in-Some.ensures in
    let q = c.loop-number.invariant.first in
    let more = first_more all c.loop-number.number c.in-Some.file.now e in
    let g = class_info all c.args.constants.now.classes c.args.constants.now.literals.now in
    let step = map_more_at g all c.loop-number.number c.in-Some.file.now (declared_infos all c.args.constants.now.classes c.args.constants.now.literals.now) c.loop-number.infos c.in_ok-class_info.field-0 e c.loop-number.invariant.infos c.in_ok-class_info.ensures in
    record {
      first = omega (arith, c.len.ensures);
      infos = step ∙ ap (λ z. z ++ map_from g (c.loop-number.number + 1) (drop (c.loop-number.number + 1) all)) (sym c.in_ok-push.ensures.ok);
    }

pub returns : goal.returns
returns c =
    let all : List ClassFile = c.args.program.now in
    let n = count all c.args.bases.now c.requires.bases in
    map_end (class_info all c.args.constants.now.classes c.args.constants.now.literals.now) all c.loop-number.number c.loop-number.number (declared_infos all c.args.constants.now.classes c.args.constants.now.literals.now) c.loop-number.infos (omega arith) c.loop-number.invariant.infos
