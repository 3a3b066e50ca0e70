use Rattle.std.proofs.Common.{◌≡◌, ℕ, List, ap, ◌∙◌}
use Rattle.jvm_base.specs.declared.desc.Desc.{Desc}
use Rattle.class_format.specs.declared.class.ClassFile.{ClassFile}
use Rattle.program_image.specs.declared.info.ClassInfo.{ClassInfo}
use Rattle.program_image.specs.declared.info.MethodInfo.{MethodInfo}
use Rattle.program_image.specs.Places.{Placing}
use Rattle.link_uses.specs.declared.lookup.Found.{Found}
use Rattle.link_image.specs.Classes.{class_infos}
use Rattle.link_image.specs.Image.{image_of, method_number}
use Rattle.link_image.specs.Methods.{method_infos}
use Rattle.link_image.specs.Targets.{Known, all_targets}
use Rattle.program_image.specs.Program.{program}
use Rattle.link_image.proofs.IsImageLaw.{AreMade, made_image, made_program, ok_as}
use Rattle.link_image.proofs.image.build.Goals as goal

-- what each part of the code says makes the lists those of the definition
made : (all front : List ClassFile) (arrays : List Desc) (literals : List (List ℕ)) (main : Found) (classes infos : List ClassInfo) (methods : List MethodInfo) (targets : List Placing) (contents : List (List ℕ)) (number : ℕ) → front ≡ all → classes ≡ class_infos front arrays literals → infos ≡ classes → methods ≡ method_infos front → targets ≡ all_targets (record { all = all; arrays = arrays; literals = literals; infos = infos }) → contents ≡ literals → number ≡ method_number all main → AreMade all arrays literals main classes methods targets contents number
made all front arrays literals main classes infos methods targets contents number p c i m t l n =
    let own : classes ≡ class_infos all arrays literals = c ∙ ap (λ z. class_infos z arrays literals) p in
    let k : List ClassInfo → Known = λ z. record { all = all; arrays = arrays; literals = literals; infos = z } in
    record {
      classes_are = own;
      methods_are = m ∙ ap method_infos p;
      targets_are = t ∙ ap (λ z. all_targets (k z)) (i ∙ own);
      contents_are = l;
      number_is = n;
    }

pub with_signs-requires-clause-image : goal.with_signs-requires-clause-image
with_signs-requires-clause-image c =
    let m = made c.args.resolver.now c.program-program.result.now c.args.arrays.now c.args.literals.now c.args.main c.in_ok-classes.classes c.as_slice.result.now c.in_ok-methods.methods c.in_ok-targets.targets c.in_ok-contents.contents c.method_number-number.result c.program-program.ensures c.in_ok-classes.ensures c.as_slice.ensures c.in_ok-methods.ensures c.in_ok-targets.ensures c.in_ok-contents.ensures c.method_number-number.ensures in
    made_image c.args.resolver.now c.args.arrays.now c.args.literals.now c.args.main c.args.ranks.now c.in_ok-classes.classes c.in_ok-methods.methods c.in_ok-targets.targets c.in_ok-contents.contents c.method_number-number.result c.requires.small c.requires.fit c.requires.ranked m

pub returns : goal.returns
returns c =
    let m = made c.args.resolver.now c.program-program.result.now c.args.arrays.now c.args.literals.now c.args.main c.in_ok-classes.classes c.as_slice.result.now c.in_ok-methods.methods c.in_ok-targets.targets c.in_ok-contents.contents c.method_number-number.result c.program-program.ensures c.in_ok-classes.ensures c.as_slice.ensures c.in_ok-methods.ensures c.in_ok-targets.ensures c.in_ok-contents.ensures c.method_number-number.ensures in
    ok_as c.with_signs.result (program c.in_ok-classes.classes c.in_ok-methods.methods c.in_ok-targets.targets c.in_ok-contents.contents c.method_number-number.result) (image_of c.args.resolver.now c.args.arrays.now c.args.literals.now c.args.main)
    (made_program c.args.resolver.now c.args.arrays.now c.args.literals.now c.args.main c.in_ok-classes.classes c.in_ok-methods.methods c.in_ok-targets.targets c.in_ok-contents.contents c.method_number-number.result m) c.with_signs.ensures
