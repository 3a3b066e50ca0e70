-- What linking owes to the verifier.
use Rattle.std.specs.Prelude.{◌≡◌, ℕ, List, []}
use Rattle.std.specs.List.{All}
use Rattle.class_format.specs.declared.class.ClassFile.{ClassFile}
use Rattle.class_format.specs.Meaning.{IsClass}
use Rattle.class_link.specs.Linked.{linked}
use Rattle.class_link.specs.Refusals.{link_refusals}
use Rattle.flow_types.specs.Tree.{superclasses, IsTree}
use Rattle.acceptance.specs.Accepted.{AreVerifiable}

-- linking refuses nothing of these class files with that main class
pub record AreLinked (files : List ClassFile) (main : List ℕ) : Type 0 where
  pub formed : All IsClass files
  pub none : link_refusals files main ≡ []

-- the classes of a linked program form one tree, and its methods with code may be verified
abbrev pub LinkedLaw : Type 0
LinkedLaw = (files : List ClassFile) (main : List ℕ) →
    AreLinked files main →
    IsTree (superclasses (linked files main)) × AreVerifiable (linked files main)
