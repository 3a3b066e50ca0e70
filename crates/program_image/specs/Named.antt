-- Classes by a text of theirs.
use Rattle.std.specs.Prelude.{ℕ, suc, List, [], ◌∷◌, Option, Some, None, if◌then◌else◌}
use Rattle.program_image.specs.declared.info.ClassInfo.{ClassInfo}
use Rattle.program_image.specs.Signatures.{same_text}

-- the first class whose text is this, counted from a number, if there is one
abbrev pub first_from : (ClassInfo → List ℕ) → ℕ → List ℕ → List ClassInfo → Option ℕ
first_from of n text [] = None
first_from of n text (k ∷ ks) = if same_text (of k) text then Some n else first_from of (suc n) text ks

-- the first class whose text is this
abbrev pub first_by : (ClassInfo → List ℕ) → List ℕ → List ClassInfo → Option ℕ
first_by of text classes = first_from of 0 text classes

-- a class's name
abbrev pub its_name : ClassInfo → List ℕ
its_name info = info.name

-- the first class of a name
abbrev pub first_named : List ClassInfo → List ℕ → Option ℕ
first_named classes name = first_by its_name name classes
