-- Rows of numbers lie within the classes, and ranks of all steps are those of each.
use Rattle.std.proofs.Common.{◌≡◌, ℕ, ◌<◌, List, [], ◌∷◌, ◌++◌, Option, Some, None, map, length, sym, ◌∙◌, subst, refl, arith, zero, suc, inl, inr}
use Rattle.std.specs.List.{All, AllByRecursion, Contains, filter_map, cons_option}
use Rattle.std.specs.Option.{option_to_list}
use Rattle.std.proofs.lemmas.List.{length-map}
use Rattle.std.proofs.lemmas.List.Elements.{Contains-append_left, Contains-append_right, Contains-append_cases}
use Rattle.std.proofs.lemmas.List.Quantifiers.{position-Some}
use Rattle.class_format.specs.declared.class.ClassFile.{ClassFile}
use Rattle.class_format.proofs.Recursion.{all_of}
use Rattle.class_names.specs.Known.{is_name}
use Rattle.class_names.specs.Classes.{this_name, super_text, interface_texts}
use Rattle.hierarchy.specs.Hierarchy.{row_of, IsWithin, IsRanked}
use Rattle.link_rules.specs.Numbers.{number_of, super_row, interface_row}
use Rattle.link_members.specs.declared.row_table.Step.{Step}
use Rattle.link_members.specs.declared.row_table.Step.TheVariants.{Super, Interfaces, Above, Fields}
use Rattle.link_members.specs.Rows.{row_by}

-- the number of a class is below their count
number_within : (all : List ClassFile) (name : List ℕ) (k : ℕ) → number_of all name ≡ Some k → k < length all
number_within all name k e =
    let p = (position-Some (is_name name) (map this_name all) k [] e).0 in
    let l = length-map all this_name in omega arith

in_front : (all : List ClassFile) (o : Option ℕ) (rest : List ℕ) → ((k : ℕ) → o ≡ Some k → k < length all) → AllByRecursion (λ k. k < length all) rest → AllByRecursion (λ k. k < length all) (cons_option o rest)
in_front all None rest w r = r
in_front all (Some k) rest w r = (w k refl, r)

texts_within : (all : List ClassFile) (texts : List (List ℕ)) → AllByRecursion (λ k. k < length all) (filter_map (number_of all) texts)
texts_within all [] = tt
texts_within all (t ∷ ts) = in_front all (number_of all t) (filter_map (number_of all) ts) (number_within all t) (texts_within all ts)

joined_within : (n : ℕ) (xs ys : List ℕ) → AllByRecursion (λ k. k < n) xs → AllByRecursion (λ k. k < n) ys → AllByRecursion (λ k. k < n) (xs ++ ys)
joined_within n [] ys p q = q
joined_within n (x ∷ xs) ys p q = (p.0, joined_within n xs ys p.1 q)

super_within : (all : List ClassFile) (f : ClassFile) → AllByRecursion (λ k. k < length all) (super_row all f)
super_within all f = texts_within all (option_to_list (super_text f))

interfaces_within : (all : List ClassFile) (f : ClassFile) → AllByRecursion (λ k. k < length all) (interface_row all f)
interfaces_within all f = texts_within all (interface_texts f)

-- each number in a row is that of a class
row_within : (step : Step) (all : List ClassFile) (f : ClassFile) → AllByRecursion (λ k. k < length all) (row_by step all f)
row_within Super all f = super_within all f
row_within Interfaces all f = interfaces_within all f
row_within Above all f = joined_within (length all) (super_row all f) (interface_row all f) (super_within all f) (interfaces_within all f)
row_within Fields all f = joined_within (length all) (interface_row all f) (super_row all f) (interfaces_within all f) (super_within all f)

all_rows : {A : Type 0} (n : ℕ) (g : A → List ℕ) (xs : List A) → ((x : A) → AllByRecursion (λ k. k < n) (g x)) → AllByRecursion (λ row. All (λ k. k < n) row) (map g xs)
all_rows n g [] h = tt
all_rows n g (x ∷ xs) h = (all_of (λ k. k < n) (g x) (h x), all_rows n g xs h)

pub rows_within : (step : Step) (all : List ClassFile) → IsWithin (map (row_by step all) all)
rows_within step all =
    let same : length (map (row_by step all) all) ≡ length all = length-map all (row_by step all) in
    subst (λ n. All (λ row. All (λ k. k < n) row) (map (row_by step all) all)) (sym same) (all_of (λ row. All (λ k. k < length all) row) (map (row_by step all) all) (all_rows (length all) (row_by step all) all (row_within step all)))

-- what is above by one step is above by all
above_all : (step : Step) (all : List ClassFile) (f : ClassFile) (k : ℕ) → Contains (row_by step all f) k → Contains (row_by Above all f) k
above_all Super all f k w = Contains-append_left (super_row all f) (interface_row all f) k w
above_all Interfaces all f k w = Contains-append_right (super_row all f) (interface_row all f) k w
above_all Above all f k w = w
above_all Fields all f k w = elim (Contains-append_cases (interface_row all f) (super_row all f) k w) [
  | inl l ↦ Contains-append_right (super_row all f) (interface_row all f) k l
  | inr r ↦ Contains-append_left (super_row all f) (interface_row all f) k r
]

-- a row that isn't empty is that of a class
row_at : {A : Type 0} (g h : A → List ℕ) (xs : List A) (c k : ℕ) → ((x : A) → Contains (g x) k → Contains (h x) k) → Contains (row_of (map g xs) c) k → Contains (row_of (map h xs) c) k
row_at g h [] c k e w = w
row_at g h (x ∷ xs) zero k e w = e x w
row_at g h (x ∷ xs) (suc c) k e w = row_at g h xs c k e w

-- ranks of the rows of all steps are ranks of those of each
pub ranked_by : (step : Step) (all : List ClassFile) (ranks : List ℕ) → IsRanked (map (row_by Above all) all) ranks → IsRanked (map (row_by step all) all) ranks
ranked_by step all ranks r =
    let a = length-map all (row_by Above all) in
    let b = length-map all (row_by step all) in
    record {
      all = r.all ∙ a ∙ sym b;
      falls = λ c k w. r.falls c k (row_at (row_by step all) (row_by Above all) all c k (λ f. above_all step all f k) w);
      most = λ c. let m = r.most c in omega arith;
    }
