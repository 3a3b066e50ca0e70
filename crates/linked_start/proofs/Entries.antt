-- The methods that no instruction calls take what a machine gives them.
use Rattle.std.proofs.Common.{◌≡◌, ◌∙◌, sym, ap, subst, refl, ℕ, ◌+◌, ◌<◌, Bool, true, List, [], ◌∷◌, ◌++◌, length, map, Option, Some, None, arith}
use Rattle.std.specs.Prelude.{◌||◌, if◌then◌else◌}
use Rattle.std.proofs.lemmas.Option.{slice_get_within}
use Rattle.jvm_base.specs.Descriptors.{method_of, args_at, desc_of, desc_at, elem_at}
use Rattle.jvm_base.specs.Words.{from}
use Rattle.jvm_base.specs.declared.desc.Desc.{Desc}
use Rattle.jvm_base.specs.declared.desc.MethodDesc.{MethodDesc}
use Rattle.jvm_base.specs.declared.name.Name.{Name}
use Rattle.jvm_base.specs.declared.value.Value.TheVariants.{Ref}
use Rattle.boot_table.specs.Files.{boot_files}
use Rattle.boot_table.specs.Table.{boot_rows, first_rows, exceptions}
use Rattle.class_format.specs.Flags.{is_static}
use Rattle.class_format.specs.KnownTexts.{is_clinit}
use Rattle.class_format.specs.declared.class.ClassFile.{ClassFile}
use Rattle.class_link.specs.Mains.{main_desc}
use Rattle.hierarchy.proofs.Tests.{or_left}
use Rattle.link_rules.specs.Members.{method_name}
use Rattle.link_uses.specs.declared.lookup.Found.{Found}
use Rattle.link_image.specs.Classes.{class_infos}
use Rattle.link_image.specs.Image.{image_of}
use Rattle.link_image.specs.Methods.{first_method, natives_before, no_method_desc, method_infos}
use Rattle.link_image.proofs.ClassLaws.{count_infos}
use Rattle.program_image.specs.Program.{Program}
use Rattle.program_image.specs.declared.info.MethodInfo.{MethodInfo}
use Rattle.flow_types.specs.Tree.{superclasses}
use Rattle.flow_types.specs.Types.{type_fits}
use Rattle.flow_types.specs.TypeLists.{AreOperands}
use Rattle.flow_types.specs.declared.element.Element.TheVariants.{Object}
use Rattle.flow_types.specs.declared.flow_type.FlowType.{FlowType}
use Rattle.flow_types.specs.declared.flow_type.FlowType.TheVariants as flow
use Rattle.flow_types.proofs.TreeLaws.{below-refl}
use Rattle.instruction_table.specs.ClassTypes.{class_type, desc_type, method_at, owner_of, args_of, is_static_method, plain}
use Rattle.flow_verifier.specs.Methods.{begins_fresh}
use Rattle.machine_state.specs.BootClasses.{string}
use Rattle.machine_state.specs.Classes.{array_class_over, thread_run}
use Rattle.machine_state.specs.PreMade.{arguments}
use Rattle.frame_soundness.specs.AcceptedProgram.{IsAlone, entry_types, nothing_desc}
use Rattle.frame_soundness.specs.Holding.{desc_of as desc_at_number}
use Rattle.frame_soundness.specs.Values.{all_held}
use Rattle.linked_classes.specs.Linking.{AreRight}
use Rattle.linked_methods.proofs.Methods.{methods_law}
use Rattle.linked_start.specs.Linking.{HaveStrings, IsMain, EntriesLaw}
use Rattle.linked_start.proofs.Mains.{IsMainAt, main_in_files, file_there, info, info_there, is_fixed, is_desc}
use Rattle.linked_start.proofs.Strings.{IsOver, strings_class}

-- what main takes and gives
main_takes : MethodDesc
main_takes = from no_method_desc (λ d. d) (method_of main_desc)

module _ (files : List ClassFile) (arrays : List Desc) (literals : List (List ℕ)) (main : Found) where
  abbrev p : Program
  p = image_of (boot_files ++ files) arrays literals main

  -- its parameter is an array of Strings
  main_args : from [] (λ (i : MethodDesc). map (desc_type p) i.args) (Some main_takes) ≡ flow.Array 1 (Object string) ∷ []
  unfolding main_takes method_of args_at desc_of desc_at elem_at image_of class_infos boot_files boot_rows first_rows exceptions
  main_args = refl

  -- Thread's `run` takes nothing and gives nothing
  run : desc_at_number p (thread_run p) ≡ Some nothing_desc
  unfolding method_of args_at desc_of desc_at elem_at image_of class_infos method_infos first_method natives_before boot_files boot_rows first_rows exceptions
  run = refl

  module _ (right : AreRight files arrays literals main) (given : HaveStrings arrays) (is : IsMain files main) where
    abbrev at : IsMainAt 34 files main
    at = main_in_files files main is

    -- main is of its descriptor, static, and of a class that is there
    takes : (info files main is).desc ≡ main_takes
    unfolding info main_takes
    takes = ap (λ (us : List ℕ). from no_method_desc (λ d. d) (method_of us)) (is_desc files main is)

    here : method_at p p.main ≡ Some (info files main is)
    here = info_there files main is arrays literals

    fixed : is_static_method p p.main ≡ true
    unfolding info
    fixed = ap (λ (o : Option MethodInfo). is_static (from 0 (λ i. i.flags) o) || is_clinit (from [] (λ i. i.name) o)) here ∙ or_left (is_static at.item.flags) (is_clinit (method_name at.file at.item)) (is_fixed files main is)

    owner : owner_of p p.main ≡ main.class
    unfolding info
    owner = let z : 0 + main.class ≡ main.class = omega arith in ap (λ (o : Option MethodInfo). from 0 (λ i. i.owner) o) here ∙ z

    class_there : main.class < length p.classes
    unfolding image_of
    class_there =
        let l : main.class < length (boot_files ++ files) = slice_get_within (boot_files ++ files) main.class at.file (file_there files main is) in
        let n = count_infos (boot_files ++ files) arrays literals in omega arith

    alone : IsAlone p p.main main_takes
    alone = record {
      is_desc = ap (λ (o : Option MethodInfo). from None (λ i. Some i.desc) o) here ∙ ap Some takes;
      fixed = fixed;
      bound = subst (λ (k : ℕ). k < length p.classes) (sym owner) class_there;
    }

    -- it is given an array of Strings
    types : entry_types p p.main ≡ flow.Array 1 (Object string) ∷ []
    types =
        ap (λ (b : Bool). (if b then [] else (if begins_fresh p p.main then flow.FreshThis else flow.Class (plain p (owner_of p p.main))) ∷ []) ++ map (desc_type p) (args_of p p.main)) fixed
        ∙ ap (λ (o : Option MethodInfo). map (desc_type p) (from [] (λ i. i.desc.args) o)) here
        ∙ ap (λ (d : MethodDesc). map (desc_type p) d.args) takes
        ∙ main_args

    held_there : (there : Name → Bool) → there (arguments p) ≡ true → all_held p p.main there (Ref (arguments p) ∷ []) (entry_types p p.main) ≡ true
    held_there there h =
        let s : IsOver files arrays literals main right given (array_class_over p string) = strings_class files arrays literals main right given in
        let t : type_fits (superclasses p) (class_type p (array_class_over p string)) (flow.Array 1 (Object string)) ≡ true =
        ap (λ (t : FlowType). type_fits (superclasses p) t (flow.Array 1 (Object string))) s.type ∙ below-refl (superclasses p) right.tree string in
        ap (all_held p p.main there (Ref (arguments p) ∷ [])) types ∙ rw (h, t) refl

    operands : AreOperands (entry_types p p.main)
    operands = subst AreOperands (sym types) (refl, tt)

-- so they do in an image
pub entries_law : EntriesLaw
entries_law files arrays literals main right members given is = record {
  clinits = (methods_law files arrays literals main right members).clinits;
  main_desc = main_takes;
  main = alone files arrays literals main right given is;
  main_held = held_there files arrays literals main right given is;
  main_operands = operands files arrays literals main right given is;
  run = run files arrays literals main;
}
