-- Classes by a text of theirs: those whose texts look alike at a glance stand together.
use Rattle.std.specs.Prelude.{◌≡◌, ℕ, ◌-◌, ◌+◌, ◌*◌, false, List, [], length, Option, Some, None, slice_get, if◌then◌else◌}
use Rattle.std.specs.declared.cmp.Ordering.{Ordering}
use Rattle.std.specs.Ordering.{ordering_then, nat_cmp}
use Rattle.jvm_base.specs.Maps.{find}
use Rattle.jvm_base.specs.Words.{from}
use Rattle.hierarchy.specs.Walks.{first_some}
use Rattle.program_image.specs.declared.alike.By.{By}
use Rattle.program_image.specs.declared.alike.By.TheVariants.{Name, Package}
use Rattle.program_image.specs.declared.info.ClassInfo.{ClassInfo}
use Rattle.program_image.specs.Named.{first_by}
use Rattle.program_image.specs.Selection.{package_of}
use Rattle.program_image.specs.Signatures.{same_text}

-- a length, and a number of four units
abbrev pub Seen : Type 0
Seen = ℕ × ℕ

-- the unit so many places before the end of a text, or its first one
abbrev pub letter_before : List ℕ → ℕ → ℕ
letter_before text back = from 0 (λ u. u) (slice_get text (length text - back))

-- what is seen of a text at a glance: its length and its last four units
abbrev pub glance : List ℕ → Seen
glance text = (
  length text,
  (letter_before text 4 * 65536 + letter_before text 3) * 4294967296
      + (letter_before text 2 * 65536 + letter_before text 1),
)

-- by the length, then by the units
abbrev pub glance_cmp : Seen → Seen → Ordering
glance_cmp a b = ordering_then (nat_cmp a.0 b.0) (nat_cmp a.1 b.1)

-- the text of a class by which it is looked up
abbrev pub text_of : By → ClassInfo → List ℕ
text_of Name info = info.name
text_of Package info = package_of info.name

-- classes by what is seen of their texts
abbrev pub Alikes : Type 0
Alikes = List (Seen × List ℕ)

-- the classes whose texts look so
abbrev pub candidates : Alikes → Seen → List ℕ
candidates entries seen = from [] (λ ks. ks) (find glance_cmp seen entries)

-- the class of a number, where it has the text
abbrev pub with_text : By → List ClassInfo → List ℕ → ℕ → Option ℕ
with_text by classes text c =
    if from false (λ info. same_text (text_of by info) text) (slice_get classes c) then Some c else None

-- the first class of the text among those that look like it
abbrev pub first_alike : By → List ClassInfo → Alikes → List ℕ → Option ℕ
first_alike by classes entries text =
    first_some (with_text by classes text) (candidates entries (glance text))

-- for each text the first of some classes that has it is found so
abbrev pub AreAlike : By → List ClassInfo → List ClassInfo → Alikes → Type 0
AreAlike by classes some entries =
    (text : List ℕ) → first_alike by classes entries text ≡ first_by (text_of by) text some

-- the table of classes by name
unfoldable pub AreNames : List ClassInfo → Alikes → Type 0
AreNames classes entries = AreAlike Name classes classes entries
