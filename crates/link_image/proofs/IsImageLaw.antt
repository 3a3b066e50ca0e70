-- The lists of an image meet its condition.
use Rattle.std.proofs.Common.{◌≡◌, ℕ, ◌+◌, ◌<◌, List, length, get_or, ap, sym, ◌∙◌, subst, arith, Result, Ok, Err}
use Rattle.std.specs.Prelude.{IfOk}
use Rattle.std.specs.List.{All}
use Rattle.jvm_base.specs.declared.desc.Desc.{Desc}
use Rattle.class_format.specs.declared.class.ClassFile.{ClassFile}
use Rattle.class_format.proofs.Recursion.{all_of}
use Rattle.hierarchy.specs.Hierarchy.{IsRanked}
use Rattle.link_rules.specs.Numbers.{above_rows}
use Rattle.link_uses.specs.declared.lookup.Found.{Found}
use Rattle.program_image.specs.Condition.{IsImage, IsClassWithin, IsPlacingWithin}
use Rattle.program_image.specs.Places.{Placing}
use Rattle.program_image.specs.Program.{program}
use Rattle.program_image.specs.declared.info.ClassInfo.{ClassInfo}
use Rattle.program_image.specs.declared.info.MethodInfo.{MethodInfo}
use Rattle.link_image.specs.Classes.{class_infos}
use Rattle.link_image.specs.Image.{image_of, method_number}
use Rattle.link_image.specs.Methods.{count_methods, method_infos}
use Rattle.link_image.specs.Parts.{AreSmall, Fit}
use Rattle.link_image.specs.Targets.{known, all_targets}
use Rattle.link_image.proofs.Apart.{none_above_itself}
use Rattle.link_image.proofs.ClassLaws.{count_infos}
use Rattle.link_image.proofs.TargetPlaces.{targets_differ}
use Rattle.link_image.proofs.Within.{count_method_infos, above_in, classes_in, owners_in, main_in, targets_in}

pub is_image : (all : List ClassFile) (arrays : List Desc) (literals : List (List ℕ)) (main : Found) (ranks : List ℕ) → AreSmall all → Fit all arrays literals main → IsRanked (above_rows all) ranks → IsImage (class_infos all arrays literals) (method_infos all) (all_targets (known all arrays literals)) literals (method_number all main)
is_image all arrays literals main ranks small fit r =
    let n : length (class_infos all arrays literals) ≡ length all + length arrays = count_infos all arrays literals in
    let m : length (method_infos all) ≡ count_methods all = count_method_infos all in
    record {
      few_classes = let h = fit.classes in omega arith;
      few_methods = let h = small.methods in omega arith;
      few_literals = let h = fit.objects in omega arith;
      above_in = above_in all arrays literals small.some;
      classes_in =
          subst (λ k. All (IsClassWithin k (length (method_infos all))) (class_infos all arrays literals)) (sym n)
          (subst (λ k. All (IsClassWithin (length all + length arrays) k) (class_infos all arrays literals)) (sym m)
          (all_of (IsClassWithin (length all + length arrays) (count_methods all)) (class_infos all arrays literals) (classes_in all arrays literals)));
      owners_in = λ i d l.
          let own : (d : MethodInfo) → d.owner < length all → d.owner < length (class_infos all arrays literals) = λ d h. omega arith in
          own (get_or (method_infos all) i d) (all_of (λ (x : MethodInfo). x.owner < length all) (method_infos all) (owners_in all) i d l);
      targets_in =
          subst (λ k. All (IsPlacingWithin k (length (method_infos all))) (all_targets (known all arrays literals))) (sym n)
          (subst (λ k. All (IsPlacingWithin (length all + length arrays) k) (all_targets (known all arrays literals))) (sym m)
          (all_of (IsPlacingWithin (length all + length arrays) (count_methods all)) (all_targets (known all arrays literals)) (targets_in all arrays literals)));
      main_in = subst (λ k. method_number all main < k) (sym m) (main_in all main fit.main_in);
      places_differ = targets_differ (known all arrays literals) small.code;
      literals_differ = fit.differ;
      apart = none_above_itself all arrays literals ranks r small.some;
    }

-- the lists that `build` makes: those of the definition
pub record AreMade (all : List ClassFile) (arrays : List Desc) (literals : List (List ℕ)) (main : Found) (classes : List ClassInfo) (methods : List MethodInfo) (targets : List Placing) (contents : List (List ℕ)) (number : ℕ) : Type 0 where
  pub classes_are : classes ≡ class_infos all arrays literals
  pub methods_are : methods ≡ method_infos all
  pub targets_are : targets ≡ all_targets (known all arrays literals)
  pub contents_are : contents ≡ literals
  pub number_is : number ≡ method_number all main

-- they meet the condition
pub made_image : (all : List ClassFile) (arrays : List Desc) (literals : List (List ℕ)) (main : Found) (ranks : List ℕ) (classes : List ClassInfo) (methods : List MethodInfo) (targets : List Placing) (contents : List (List ℕ)) (number : ℕ) → AreSmall all → Fit all arrays literals main → IsRanked (above_rows all) ranks → AreMade all arrays literals main classes methods targets contents number → IsImage classes methods targets contents number
made_image all arrays literals main ranks classes methods targets contents number small fit r m =
    subst (λ z. IsImage z methods targets contents number) (sym m.classes_are)
    (subst (λ z. IsImage (class_infos all arrays literals) z targets contents number) (sym m.methods_are)
    (subst (λ z. IsImage (class_infos all arrays literals) (method_infos all) z contents number) (sym m.targets_are)
    (subst (λ z. IsImage (class_infos all arrays literals) (method_infos all) (all_targets (known all arrays literals)) z number) (sym m.contents_are)
    (subst (λ z. IsImage (class_infos all arrays literals) (method_infos all) (all_targets (known all arrays literals)) literals z) (sym m.number_is)
    (is_image all arrays literals main ranks small fit r)))))

-- their program is the image
pub made_program : (all : List ClassFile) (arrays : List Desc) (literals : List (List ℕ)) (main : Found) (classes : List ClassInfo) (methods : List MethodInfo) (targets : List Placing) (contents : List (List ℕ)) (number : ℕ) → AreMade all arrays literals main classes methods targets contents number → program classes methods targets contents number ≡ image_of all arrays literals main
unfolding image_of
made_program all arrays literals main classes methods targets contents number m =
    ap (λ z. program z methods targets contents number) m.classes_are
    ∙ ap (λ z. program (class_infos all arrays literals) z targets contents number) m.methods_are
    ∙ ap (λ z. program (class_infos all arrays literals) (method_infos all) z contents number) m.targets_are
    ∙ ap (λ z. program (class_infos all arrays literals) (method_infos all) (all_targets (known all arrays literals)) z number) m.contents_are
    ∙ ap (λ z. program (class_infos all arrays literals) (method_infos all) (all_targets (known all arrays literals)) literals z) m.number_is

-- an answer's value is that of another spelling
pub ok_as : {A E : Type 0} (r : Result A E) (a b : A) → a ≡ b → IfOk r (λ x. x ≡ a) → IfOk r (λ x. x ≡ b)
ok_as (Ok x) a b e h = h ∙ e
ok_as (Err y) a b e h = h
