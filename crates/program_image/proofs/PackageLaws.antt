-- The numbers of packages.
use Rattle.std.proofs.Common.{◌≡◌, ℕ, zero, suc, ◌+◌, ◌<◌, Bool, true, false, if◌then◌else◌, List, [], ◌∷◌, length, map, nat_eq, Option, Some, None, take, slice_get, slice_index, refl, sym, ap, subst, ◌∙◌, arith}
use Rattle.std.proofs.lemmas.Bool.Decides.{nat_tests}
use Rattle.std.proofs.lemmas.List.{length-map}
use Rattle.jvm_base.specs.Words.{from}
use Rattle.program_image.specs.declared.info.ClassInfo.{ClassInfo}
use Rattle.program_image.specs.Named.{first_from, first_by}
use Rattle.program_image.specs.Selection.{package_at}
use Rattle.program_image.specs.Signatures.{same_text}
use Rattle.program_image.specs.Built.Packages.{name_package, package_number, ArePackages}
use Rattle.program_image.proofs.Rows.{there}
use Rattle.program_image.proofs.Signatures.{texts_decide}

-- a class of a text, as the first of that text
pub record Found (of : ClassInfo → List ℕ) (n : ℕ) (text : List ℕ) (ks : List ClassInfo) : Type 0 where
  pub place : ℕ
  pub info : ClassInfo
  pub first : first_from of n text ks ≡ Some (n + place)
  pub at : slice_get ks place ≡ Some info
  pub same : of info ≡ text

-- where a class has the text, one is the first of it
found : (of : ClassInfo → List ℕ) (ks : List ClassInfo) (n i : ℕ) (k : ClassInfo) (text : List ℕ) → slice_get ks i ≡ Some k → of k ≡ text → Found of n text ks
found of [] n i k text e s = absurd cc
found of (x ∷ xs) n zero k text e s =
    let one : x ≡ k = cc in
    let has : of x ≡ text = ap of one ∙ s in
    record {
      place = 0;
      info = x;
      first = ap (λ b. if b then Some n else first_from of (suc n) text xs) ((texts_decide (of x) text).1 has) ∙ ap Some (omega arith);
      at = refl;
      same = has;
    }
found of (x ∷ xs) n (suc i) k text e s = by (same_text (of x) text) refl (found of xs (suc n) i k text e s)
  where
    by : (b : Bool) → same_text (of x) text ≡ b → Found of (suc n) text xs → Found of n text (x ∷ xs)
    by true t rest = record {
      place = 0;
      info = x;
      first = ap (λ b. if b then Some n else first_from of (suc n) text xs) t ∙ ap Some (omega arith);
      at = refl;
      same = (texts_decide (of x) text).0 t;
    }
    by false t rest =
        record {
          place = suc rest.place;
          info = rest.info;
          first = ap (λ b. if b then Some n else first_from of (suc n) text xs) t ∙ rest.first ∙ ap Some (omega arith);
          at = rest.at;
          same = rest.same;
        }

-- the number of the package of a class that is there
pub record Numbered (classes : List ClassInfo) (k : ClassInfo) : Type 0 where
  pub place : ℕ
  pub first : ClassInfo
  pub number : package_number classes k ≡ place
  pub at : slice_get classes place ≡ Some first
  pub same : name_package first ≡ name_package k

numbered : (classes : List ClassInfo) (c : ℕ) (k : ClassInfo) → slice_get classes c ≡ Some k → Numbered classes k
numbered classes c k at =
    let f = found name_package classes 0 c k (name_package k) at refl in
    let zero_more : 0 + f.place ≡ f.place = omega arith in
    record { place = f.place; first = f.info; number = ap (from 0 (λ n. n)) f.first ∙ zero_more; at = f.at; same = f.same }

-- two classes have one number exactly where their packages are one
told : (classes : List ClassInfo) (c d : ℕ) (k l : ClassInfo) → slice_get classes c ≡ Some k → slice_get classes d ≡ Some l → nat_eq (package_number classes k) (package_number classes l) ≡ same_text (name_package k) (name_package l)
told classes c d k l ec ed = by (same_text (name_package k) (name_package l)) refl
  where
    by : (b : Bool) → same_text (name_package k) (name_package l) ≡ b → nat_eq (package_number classes k) (package_number classes l) ≡ b
    by true t =
        let one : package_number classes k ≡ package_number classes l = ap (λ p. from 0 (λ n. n) (first_by name_package p classes)) ((texts_decide (name_package k) (name_package l)).0 t) in
        grind (arith, nat_tests)
    by false t =
        let x = numbered classes c k ec in
        let y = numbered classes d l ed in
        let apart : package_number classes k ≡ package_number classes l → ⊥ = λ e.
        let places : x.place ≡ y.place = sym x.number ∙ e ∙ y.number in
        let both : Some x.first ≡ Some y.first = sym x.at ∙ ap (slice_get classes) places ∙ y.at in
        let one : x.first ≡ y.first = cc in
        let same : name_package k ≡ name_package l = sym x.same ∙ ap name_package one ∙ y.same in
        let yes : true ≡ false = sym ((texts_decide (name_package k) (name_package l)).1 same) ∙ t in
        absurd cc in
        grind (arith, nat_tests)

-- the number of the class of a place
at_place : (classes ks : List ClassInfo) (c : ℕ) (k : ClassInfo) → slice_get ks c ≡ Some k → slice_index (map (package_number classes) ks) c ≡ package_number classes k
at_place classes [] c k e = absurd cc
at_place classes (x ∷ xs) zero k e = let one : x ≡ k = cc in ap (package_number classes) one
at_place classes (x ∷ xs) (suc c) k e = at_place classes xs c k e

-- the numbers tell packages apart
pub packages_tell : (classes : List ClassInfo) (packages : List ℕ) → packages ≡ map (package_number classes) classes → ArePackages classes packages
packages_tell classes packages e = record {
  all = ap length e ∙ length-map classes (package_number classes);
  tell = λ c d hc hd.
      let k = there classes c hc in
      let l = there classes d hd in
      let at : (n : ℕ) (info : ClassInfo) → slice_get classes n ≡ Some info → package_at classes n ≡ name_package info = λ n info s. ap (from [] name_package) s in
      ap (λ ps. nat_eq (slice_index ps c) (slice_index ps d)) e
      ∙ ap (λ n. nat_eq n (slice_index (map (package_number classes) classes) d)) (at_place classes classes c k.0 k.1)
      ∙ ap (nat_eq (package_number classes k.0)) (at_place classes classes d l.0 l.1)
      ∙ told classes c d k.0 l.0 k.1 l.1
      ∙ ap (λ t. same_text t (name_package l.0)) (sym (at c k.0 k.1))
      ∙ ap (same_text (package_at classes c)) (sym (at d l.0 l.1));
}

-- the numbers of all classes, once there are as many
pub all_numbered : (classes : List ClassInfo) (packages : List ℕ) (n : ℕ) → length classes ≡ n → packages ≡ map (package_number classes) (take n classes) → packages ≡ map (package_number classes) classes
all_numbered classes packages n e h = h ∙ ap (λ k. map (package_number classes) (take k classes)) (sym e) ∙ ap (map (package_number classes)) (all classes)
  where
    all : (ks : List ClassInfo) → take (length ks) ks ≡ ks
    all [] = refl
    all (k ∷ ks) = ap (λ ys. k ∷ ys) (all ks)
