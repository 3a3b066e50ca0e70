-- The superclasses of a program by number.
use Rattle.std.proofs.Common.{◌≡◌, ◌∙◌, ap, refl, ℕ, Some, None, length}
use Rattle.std.specs.Prelude.{slice_get}
use Rattle.std.proofs.lemmas.Option.{slice_get-map}
use Rattle.std.proofs.lemmas.List.{length-map}
use Rattle.program_image.specs.Program.{Program}
use Rattle.program_image.specs.declared.info.ClassInfo.{ClassInfo}
use Rattle.flow_types.specs.Tree.{superclass, superclasses, flat}

-- the superclass of a class that is there
pub there : (p : Program) (c : ℕ) (k : ClassInfo) → slice_get p.classes c ≡ Some k → superclass (superclasses p) c ≡ k.super_class
there p c k e = ap flat (slice_get-map (λ (z : ClassInfo). z.super_class) p.classes c) ∙ rw e refl

-- a number past the classes has none
pub past : (p : Program) (c : ℕ) → slice_get p.classes c ≡ None → superclass (superclasses p) c ≡ None
past p c e = ap flat (slice_get-map (λ (z : ClassInfo). z.super_class) p.classes c) ∙ rw e refl

-- there are as many as classes
pub count : (p : Program) → length (superclasses p) ≡ length p.classes
count p = length-map p.classes (λ (z : ClassInfo). z.super_class)
