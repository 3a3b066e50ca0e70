-- How many types can lie above one.
use Rattle.std.specs.Prelude.{ℕ, zero, suc, ◌+◌, List, length, Option, Some, None}
use Rattle.flow_types.specs.Tree.{superclass}
use Rattle.flow_types.specs.declared.element.Element.{Element}
use Rattle.flow_types.specs.declared.element.Element.TheVariants.{Primitive, Object}
use Rattle.flow_types.specs.declared.flow_type.FlowType.{FlowType}
use Rattle.flow_types.specs.declared.flow_type.FlowType.TheVariants.{Unusable, Null, Class, Array}

-- how many steps up there are from a class, of at most n
abbrev pub steps_up : ℕ → List (Option ℕ) → ℕ → ℕ
steps_up zero supers c = 0
steps_up (suc n) supers c =
    elim (superclass supers c) as (λ _. ℕ) [ None ↦ 0 | Some up ↦ suc (steps_up n supers up) ]

-- how many superclasses a class has
abbrev pub depth : List (Option ℕ) → ℕ → ℕ
depth supers c = steps_up (length supers) supers c

-- of an array's elements: a class is as high as it has superclasses
abbrev pub elem_rank : List (Option ℕ) → Element → ℕ
elem_rank supers (Primitive k) = 0
elem_rank supers (Object c) = depth supers c

-- a type above another has a lower number: Unusable has 0, and Null more than each class and array
abbrev pub type_rank : List (Option ℕ) → FlowType → ℕ
type_rank supers Unusable = 0
type_rank supers Null = length supers + 257
type_rank supers (Class c) = 1 + depth supers c
type_rank supers (Array d e) = 1 + d + elem_rank supers e
type_rank supers _ = 1
