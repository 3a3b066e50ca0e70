-- Finite maps as lists of entries in the order of their keys, in std's words. These compute, so that
-- whole runs of the machine are theorems by `refl`.
use Rattle.std.specs.Prelude.{List, Option}
use Rattle.std.specs.declared.cmp.Ordering.{Ordering}
use Rattle.std.specs.Map.{lookup, set_value}
use Rattle.std.specs.BTreeMap.{is_at, insert_entry}

-- the value of a key
abbrev pub find : {K X : Type 0} → (K → K → Ordering) → K → List (K × X) → Option X
find cmp q es = lookup (is_at (cmp q)) es

-- the map with this value for a key
abbrev pub put : {K X : Type 0} → (K → K → Ordering) → K → X → List (K × X) → List (K × X)
put cmp k v es = insert_entry cmp es k v

-- a key that is there takes another value
abbrev pub replace : {K X : Type 0} → (K → K → Ordering) → K → X → List (K × X) → List (K × X)
replace cmp k v es = set_value (is_at (cmp k)) es v
