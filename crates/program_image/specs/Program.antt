-- The linked program: classes, methods and targets by number.
use Rattle.std.specs.Prelude.{ℕ, List, [], refl, Option}
use Rattle.std.specs.Coded.{Coded, code_by, coded×, coded_ℕ, coded_list}
use Rattle.program_image.specs.declared.info.ClassInfo.{ClassInfo}
use Rattle.program_image.specs.declared.info.MethodInfo.{MethodInfo}
use Rattle.program_image.specs.declared.info.Target.{Target}
use Rattle.program_image.specs.contracts.info.ClassInfo.{the_row as class_row}
use Rattle.program_image.specs.contracts.info.MethodInfo.{the_row as method_row}
use Rattle.program_image.specs.contracts.info.Target.{the_row as target_row}
use Rattle.program_image.specs.Places.{Placing, Targets, placed, target_at}

-- classes and methods by number, what each place in the code names, the contents of literals, and
-- the number of the main method
pub record Program : Type 0 where
  pub classes : List ClassInfo
  pub methods : List MethodInfo
  pub targets : Targets
  pub literals : List (List ℕ)
  pub main : ℕ

-- the program of these lists
abbrev pub program : List ClassInfo → List MethodInfo → List Placing → List (List ℕ) → ℕ → Program
program classes methods targets literals main = record { classes = classes; methods = methods; targets = placed [] targets; literals = literals; main = main }

-- what the place at an address of a method names
abbrev pub target_of : Program → ℕ → ℕ → Option Target
target_of p m at = target_at p.targets m at

-- how a program is kept
abbrev pub program_code : Coded Program
program_code =
    code_by (List ClassInfo × (List MethodInfo × (Targets × (List (List ℕ) × ℕ))))
    (coded× (coded_list class_row.coded) (coded× (coded_list method_row.coded) (coded× (coded_list (coded× (coded× coded_ℕ coded_ℕ) target_row.coded)) (coded× (coded_list (coded_list coded_ℕ)) coded_ℕ))))
    (λ p. (p.classes, (p.methods, (p.targets, (p.literals, p.main))))) (λ t. record { classes = t.0; methods = t.1.0; targets = t.1.1.0; literals = t.1.1.1.0; main = t.1.1.1.1 }) (λ _. refl)
