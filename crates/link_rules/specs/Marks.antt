-- What a table tells of each text of a pool.
use Rattle.std.specs.Prelude.{◌≡◌, ℕ, Bool, true, List, [], Some, slice_get}
use Rattle.jvm_base.specs.declared.pool.PoolItem.{PoolItem}
use Rattle.class_names.specs.Texts.{text_in}
use Rattle.link_rules.specs.declared.error.LinkErr.{LinkErr}

-- the text stands at an index of which this is told
abbrev pub IsTold : List Bool → List PoolItem → List ℕ → Bool → Type 0
IsTold told pool text b = (t : ℕ) × ((slice_get told t ≡ Some b) × (text ≡ text_in pool t))

-- a text of which true is told isn't refused
abbrev pub AreRight : (List ℕ → List LinkErr) → List PoolItem → List Bool → Type 0
AreRight refusals pool told =
    (t : ℕ) → slice_get told t ≡ Some true → refusals (text_in pool t) ≡ []

-- what is told of a text is what a test says
abbrev pub AreTested : (List ℕ → Bool) → List PoolItem → List Bool → Type 0
AreTested test pool told =
    (t : ℕ) (b : Bool) → slice_get told t ≡ Some b → b ≡ test (text_in pool t)
