-- Counts of methods and of native methods, class by class.
use Rattle.std.proofs.Common.{◌≡◌, ℕ, ◌+◌, ◌≤◌, List, Some, length, slice_get, slice_index, get_or, ap, sym, ◌∙◌, refl}
use Rattle.std.proofs.lemmas.Option.{get_or_from_slice_get, slice_get-map}
use Rattle.std.specs.Prelude.{option_map}
use Rattle.class_format.specs.declared.class.ClassFile.{ClassFile}
use Rattle.link_rules.specs.Numbers.{map_from, interface_row, interface_rows}
use Rattle.link_image.specs.Fields.{base_of}
use Rattle.link_image.specs.Methods.{count_methods, first_method, natives, natives_before}
use Rattle.link_image.specs.Parts.{count_natives}
use Rattle.link_image.proofs.ListLaws.{get_map_from}
use Rattle.link_image.proofs.Steps.{sum_more, sum_in}

pub first_zero : (all : List ClassFile) → 0 ≡ first_method all 0
unfolding first_method
first_zero all = refl

pub first_more : (all : List ClassFile) (c : ℕ) (f : ClassFile) → slice_get all c ≡ Some f → first_method all c + length f.methods ≡ first_method all (c + 1)
unfolding first_method
first_more all c f e = sym (sum_more (λ (g : ClassFile). length g.methods) all c f e)

pub first_in : (all : List ClassFile) (c : ℕ) (f : ClassFile) → slice_get all c ≡ Some f → first_method all c + length f.methods ≤ count_methods all
unfolding first_method
first_in all c f e = sum_in (λ (g : ClassFile). length g.methods) all c f e

pub natives_zero : (all : List ClassFile) → 0 ≡ natives_before all 0
unfolding natives_before
natives_zero all = refl

pub natives_more : (all : List ClassFile) (c : ℕ) (f : ClassFile) → slice_get all c ≡ Some f → natives_before all c + natives f.methods ≡ natives_before all (c + 1)
unfolding natives_before
natives_more all c f e = sym (sum_more (λ (g : ClassFile). natives g.methods) all c f e)

pub natives_in : (all : List ClassFile) (c : ℕ) (f : ClassFile) → slice_get all c ≡ Some f → natives_before all c + natives f.methods ≤ count_natives all
unfolding natives_before
natives_in all c f e = sum_in (λ (g : ClassFile). natives g.methods) all c f e

-- the first place of a class in their list
pub base_at : (all : List ClassFile) (bases : List ℕ) (c : ℕ) (f : ClassFile) → bases ≡ map_from (λ k g. base_of all k) 0 all → slice_get all c ≡ Some f → slice_index bases c ≡ base_of all (0 + c)
base_at all bases c f e h =
    get_or_from_slice_get bases c (base_of all (0 + c)) 0 (ap (λ z. slice_get z c) e ∙ get_map_from (λ k g. base_of all k) 0 all c ∙ ap (option_map (λ (g : ClassFile). base_of all (0 + c))) h)

-- the interfaces of a class in their table
pub interfaces_at : (all : List ClassFile) (rows : List (List ℕ)) (c : ℕ) (f : ClassFile) (r items : List ℕ) → rows ≡ interface_rows all → slice_get all c ≡ Some f → r ≡ get_or rows c r → items ≡ r → items ≡ interface_row all f
interfaces_at all rows c f r items e h is same =
    same ∙ is ∙ get_or_from_slice_get rows c (interface_row all f) r (ap (λ z. slice_get z c) e ∙ slice_get-map (interface_row all) all c ∙ ap (option_map (interface_row all)) h)
