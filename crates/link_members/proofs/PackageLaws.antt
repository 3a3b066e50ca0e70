-- Packages have one number exactly where they are one.
use Rattle.std.proofs.Common.{◌≡◌, ℕ, ◌+◌, List, [], ◌∷◌, ◌++◌, length, Option, Some, slice_get, sym, ap, ◌∙◌, subst}
use Rattle.std.specs.Cmp.Lexicographic.{nat_list_eq_equiv}
use Rattle.std.proofs.lemmas.List.{length_push}
use Rattle.class_format.specs.declared.class.ClassFile.{ClassFile}
use Rattle.class_names.specs.Classes.{this_name}
use Rattle.link_rules.specs.Numbers.{name_at}
use Rattle.link_rules.specs.Packages.{package_of}
use Rattle.link_rules.proofs.MarkLaws.{last_or_before}
use Rattle.link_members.specs.declared.package_numbers.OwnPackage.{OwnPackage}
use Rattle.link_members.specs.declared.package_numbers.Packages.{Packages}
use Rattle.link_members.specs.Near.{AreNumbered, ArePackages, IsOwn}
use Rattle.link_members.specs.Signs.{is_number, name_number}
use Rattle.link_members.proofs.SignLaws.{number_is}

-- one class more
pub numbered_more : (all : List ClassFile) (names : List (List ℕ)) (numbers more : List (Option ℕ)) (n : Option ℕ) (i : ℕ) → length numbers ≡ i → AreNumbered all names numbers → n ≡ name_number names (package_of (name_at all i)) → more ≡ numbers ++ n ∷ [] → (length more ≡ i + 1) × AreNumbered all names more
numbered_more all names numbers more n i l are same grown = (
  ap length grown ∙ length_push numbers n ∙ ap (λ k. k + 1) l,
  λ t y h.
      last_or_before numbers n y t (subst (λ (z : List (Option ℕ)). slice_get z t ≡ Some y) grown h) (λ k z. z ≡ name_number names (package_of (name_at all k))) are (subst (λ k. n ≡ name_number names (package_of (name_at all k))) (sym l) same),
)

-- the package of a class, and the numbers of all
pub own_is : (all : List ClassFile) (f : ClassFile) (packages : Packages) (own : OwnPackage) → ArePackages all packages → own.name.now ≡ package_of (this_name f) → own.number ≡ name_number packages.names own.name.now → own.numbers.now ≡ packages.numbers → IsOwn all f own
own_is all f packages own are name number table = record {
  name = name;
  each = λ k n h.
      let there : name_number packages.names (package_of (name_at all k)) ≡ Some n = sym (are k (Some n) (ap (λ (z : List (Option ℕ)). slice_get z k) (sym table) ∙ h)) in
      ap (λ (o : Option ℕ). is_number o n) (number ∙ ap (name_number packages.names) name)
      ∙ number_is packages.names (package_of (name_at all k)) (package_of (this_name f)) n there
      ∙ nat_list_eq_equiv.symm (package_of (name_at all k)) (package_of (this_name f));
}
