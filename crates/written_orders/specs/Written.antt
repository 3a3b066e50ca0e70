-- What class files that are accepted owe to those who write down how they run.
use Rattle.std.specs.Prelude.{ℕ, ◌≤◌, List, length}
use Rattle.std.specs.List.{All}
use Rattle.class_format.specs.Meaning.{IsClass}
use Rattle.class_format.specs.declared.class.ClassFile.{ClassFile}
use Rattle.link_arrays.specs.ArrayClasses.{class_limit}
use Rattle.class_link.specs.Linked.{linked}
use Rattle.acceptance.specs.Accepted.{AreAccepted}
pub use Rattle.order_laws.specs.Naming.{HaveTexts}

-- they are linked to no more classes than there may be
abbrev pub FewLaw : Type 0
FewLaw =
    (files : List ClassFile) (main : List ℕ)
    → AreAccepted files main → length (linked files main).classes ≤ class_limit

-- each order of what they are linked to has a text
abbrev pub WrittenLaw : Type 0
WrittenLaw =
    (files : List ClassFile) (main : List ℕ)
    → All IsClass files → AreAccepted files main → HaveTexts (linked files main)
