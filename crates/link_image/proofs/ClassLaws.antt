-- Numbers of classes are below their count.
use Rattle.std.proofs.Common.{◌≡◌, ℕ, ◌+◌, ◌<◌, Bool, true, false, List, ◌++◌, Some, length, ap, ◌∙◌, arith}
use Rattle.std.specs.Prelude.{◌==◌, if◌then◌else◌}
use Rattle.std.specs.List.{AllByRecursion}
use Rattle.std.specs.Option.{option_to_list}
use Rattle.std.proofs.lemmas.List.{length-map, length-append}
use Rattle.jvm_base.specs.declared.desc.Desc.{Desc}
use Rattle.jvm_base.specs.declared.desc.Elem.{Elem}
use Rattle.jvm_base.specs.declared.desc.Elem.TheVariants.{Object}
use Rattle.jvm_base.proofs.Options.{then_some}
use Rattle.class_format.specs.declared.class.ClassFile.{ClassFile}
use Rattle.class_names.specs.Classes.{super_text, interface_texts}
use Rattle.link_rules.specs.Numbers.{number_of, super_row, interface_row}
use Rattle.link_arrays.proofs.ArrayLaws.{number_within, array_within}
use Rattle.link_arrays.specs.ArrayClasses.{array_number, elem_number, type_number, array_class, array_classes}
use Rattle.program_image.specs.declared.info.ClassInfo.{ClassInfo}
use Rattle.link_image.specs.Classes.{super_number, class_info, declared_infos, class_infos}
use Rattle.link_image.proofs.ListLaws.{length_map_from, all_append, all_filtered}

pub super_within : (all : List ClassFile) (f : ClassFile) (k : ℕ) → super_number all f ≡ Some k → k < length all
super_within all f k e = let t = then_some (number_of all) (super_text f) k e in number_within all t.0 k t.2

pub interfaces_within : (all : List ClassFile) (f : ClassFile) → AllByRecursion (λ k. k < length all) (interface_row all f)
interfaces_within all f = all_filtered (λ k. k < length all) (number_of all) (interface_texts f) (λ t k e. number_within all t k e)

pub super_row_within : (all : List ClassFile) (f : ClassFile) → AllByRecursion (λ k. k < length all) (super_row all f)
super_row_within all f = all_filtered (λ k. k < length all) (number_of all) (option_to_list (super_text f)) (λ t k e. number_within all t k e)

-- each number directly above a declared class
pub above_within : (all : List ClassFile) (f : ClassFile) → AllByRecursion (λ k. k < length all) (super_row all f ++ interface_row all f)
above_within all f = all_append (λ k. k < length all) (super_row all f) (interface_row all f) (super_row_within all f) (interfaces_within all f)

elem_within : (all : List ClassFile) (e : Elem) (k : ℕ) → elem_number all e ≡ Some k → k < length all
elem_within all (Object name) k h = number_within all name k h
elem_within all _ k h = absurd cc

pub type_within : (all : List ClassFile) (arrays : List Desc) (d : Desc) (k : ℕ) → type_number all arrays d ≡ Some k → k < length all + length arrays
type_within all arrays d k e = by (d.dims == 0) e
  where
    by : (b : Bool) → (if b then elem_number all d.elem else array_number all arrays d) ≡ Some k → k < length all + length arrays
    by true h = let a = elem_within all d.elem k h in omega arith
    by false h = (array_within all arrays d k h).1

-- how many classes there are
pub count_infos : (all : List ClassFile) (arrays : List Desc) (literals : List (List ℕ)) → length (class_infos all arrays literals) ≡ length all + length arrays
unfolding class_infos
count_infos all arrays literals =
    let declared : List ClassInfo = declared_infos all (length all + length arrays) literals in
    length-append declared (array_classes all arrays)
    ∙ ap (λ n. n + length (array_classes all arrays)) (length_map_from (class_info all (length all + length arrays) literals) 0 all)
    ∙ ap (λ n. length all + n) (length-map arrays (array_class all arrays))
