-- Names of objects, and their order: by node, class and index.
use Rattle.std.specs.Prelude.{ℕ, Bool}
use Rattle.std.specs.declared.cmp.Ordering.{Ordering}
use Rattle.std.specs.Ordering.{nat_cmp, ordering_then, eq_by_cmp}
use Rattle.jvm_base.specs.declared.name.Name.{Name}

-- by node, then class, then index
abbrev pub name_cmp : Name → Name → Ordering
name_cmp a b = ordering_then (nat_cmp a.node b.node) (ordering_then (nat_cmp a.class b.class) (nat_cmp a.index b.index))

-- the one test of names
abbrev pub name_eq : Name → Name → Bool
name_eq a b = eq_by_cmp name_cmp a b

-- a name from its parts
abbrev pub named : ℕ → ℕ → ℕ → Name
named node class index = record { node = node; class = class; index = index }

-- the name that a step which makes nothing is given
abbrev pub no_name : Name
no_name = named 0 0 0
