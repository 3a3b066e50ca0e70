-- The number of a declared method stands in the list of its class.
use Rattle.std.proofs.Common.{◌≡◌, ℕ, zero, suc, ◌+◌, ◌<◌, List, [], ◌∷◌, ◌++◌, Option, Some, None, length, slice_get, get_or, ap, ◌∙◌, refl, arith}
use Rattle.std.specs.Prelude.{option_map}
use Rattle.std.proofs.lemmas.Option.{get_or_from_slice_get}
use Rattle.jvm_base.specs.Words.{from}
use Rattle.jvm_base.specs.declared.desc.Desc.{Desc}
use Rattle.class_format.specs.declared.class.ClassFile.{ClassFile}
use Rattle.class_format.specs.declared.class.MethodItem.{MethodItem}
use Rattle.link_rules.specs.Numbers.{map_from, methods_at}
use Rattle.link_uses.specs.declared.lookup.Found.{Found}
use Rattle.link_arrays.specs.ArrayClasses.{array_classes}
use Rattle.program_image.specs.declared.info.ClassInfo.{ClassInfo}
use Rattle.link_image.specs.Classes.{class_info, declared_infos, class_infos}
use Rattle.link_image.specs.Image.{method_number}
use Rattle.link_image.specs.Methods.{first_method}
use Rattle.link_image.proofs.ListLaws.{get_map_from, length_map_from}
use Rattle.link_image.proofs.Steps.{item_at, item_there}

-- what stands in the first of two lists stands in both
pub in_front : {A : Type 0} (xs ys : List A) (i : ℕ) (x : A) → slice_get xs i ≡ Some x → slice_get (xs ++ ys) i ≡ Some x
in_front [] ys i x e = absurd cc
in_front (z ∷ xs) ys zero x e = e
in_front (z ∷ xs) ys (suc i) x e = in_front xs ys i x e

-- a declared class as an image has it
pub info_at : (all : List ClassFile) (arrays : List Desc) (literals : List (List ℕ)) (c : ℕ) (f : ClassFile) → slice_get all c ≡ Some f → slice_get (class_infos all arrays literals) c ≡ Some (class_info all (length all + length arrays) literals (0 + c) f)
unfolding class_infos
info_at all arrays literals c f e =
    in_front (declared_infos all (length all + length arrays) literals) (array_classes all arrays) c (class_info all (length all + length arrays) literals (0 + c) f)
    (get_map_from (class_info all (length all + length arrays) literals) 0 all c ∙ ap (option_map (class_info all (length all + length arrays) literals (0 + c))) e)

-- the method's place is one of its class's, and its number stands there
pub record IsNumbered (all : List ClassFile) (infos : List ClassInfo) (x : Found) : Type 0 where
  pub info : ClassInfo
  pub at : slice_get infos x.class ≡ Some info
  pub place_in : x.place < length info.methods
  pub number : get_or info.methods x.place 0 ≡ method_number all x

pub is_numbered : (all : List ClassFile) (arrays : List Desc) (literals : List (List ℕ)) (x : Found) → x.place < length (methods_at all x.class) → IsNumbered all (class_infos all arrays literals) x
is_numbered all arrays literals x h = by (slice_get all x.class) refl h
  where
    by : (o : Option ClassFile) → slice_get all x.class ≡ o → x.place < length (from [] (λ f. f.methods) o) → IsNumbered all (class_infos all arrays literals) x
    by None e l = absurd (omega arith)
    by (Some f) e l =
        let z : 0 + x.class ≡ x.class = omega arith in
        let z2 : 0 + x.place ≡ x.place = omega arith in
        let g : ℕ → MethodItem → ℕ = λ i m. first_method all (0 + x.class) + i in
        let there : slice_get f.methods x.place ≡ Some (item_at f.methods x.place l) = item_there f.methods x.place l in
        let n : slice_get (map_from g 0 f.methods) x.place ≡ Some (first_method all (0 + x.class) + (0 + x.place)) = get_map_from g 0 f.methods x.place ∙ ap (option_map (g (0 + x.place))) there in
        record {
          info = class_info all (length all + length arrays) literals (0 + x.class) f;
          at = info_at all arrays literals x.class f e;
          place_in = let k = length_map_from g 0 f.methods in omega arith;
          number = get_or_from_slice_get (map_from g 0 f.methods) x.place (first_method all (0 + x.class) + (0 + x.place)) 0 n ∙ ap (λ i. first_method all i + (0 + x.place)) z ∙ ap (λ i. first_method all x.class + i) z2;
        }
