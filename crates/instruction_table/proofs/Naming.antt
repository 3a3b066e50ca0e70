-- The class of a name, as the image's table tells it.
use Rattle.std.proofs.Common.{◌≡◌, ◌∙◌, sym, ap, refl, ℕ, suc, Bool, true, false, if◌then◌else◌, List, [], ◌∷◌, Some, None, nat_eq}
use Rattle.std.specs.Cmp.Lexicographic.{pointwise}
use Rattle.jvm_base.specs.Words.{from}
use Rattle.program_image.specs.declared.info.ClassInfo.{ClassInfo}
use Rattle.program_image.specs.Named.{first_from, first_named, its_name}
use Rattle.program_image.specs.Program.{Program}
use Rattle.instruction_table.specs.ClassTypes.{named_from, class_named}

-- the first class of the name, or Object
named_so : (n : ℕ) (name : List ℕ) (ks : List ClassInfo) → named_from n name ks ≡ from 0 (λ (c : ℕ). c) (first_from its_name n name ks)
named_so n name [] = refl
named_so n name (k ∷ ks) = by_test (pointwise nat_eq k.name name) (named_so (suc n) name ks)
  where
    by_test : (t : Bool) → named_from (suc n) name ks ≡ from 0 (λ (c : ℕ). c) (first_from its_name (suc n) name ks)
        → (if t then n else named_from (suc n) name ks) ≡ from 0 (λ (c : ℕ). c) (if t then Some n else first_from its_name (suc n) name ks)
    by_test true h = refl
    by_test false h = h

pub named_some : (p : Program) (name : List ℕ) (c : ℕ) → Some c ≡ first_named p.classes name → c ≡ class_named p name
named_some p name c e = ap (from 0 (λ (k : ℕ). k)) e ∙ sym (named_so 0 name p.classes)

pub named_none : (p : Program) (name : List ℕ) → None ≡ first_named p.classes name → 0 ≡ class_named p name
named_none p name e = ap (from 0 (λ (k : ℕ). k)) e ∙ sym (named_so 0 name p.classes)
