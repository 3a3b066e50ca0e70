-- The primitive types that arrays may be of.
use Rattle.std.specs.Prelude.{ℕ, Bool, ◌==◌, List, [], ◌∷◌}
use Rattle.code_table.specs.declared.element_kind.TheConstants as kind
use Rattle.flow_types.specs.Tables.{in_table}
use Rattle.flow_types.specs.declared.element.Primitive.{Primitive}
use Rattle.flow_types.specs.declared.element.Primitive.TheVariants as primitive

-- the number by which `newarray` names it (JVMS2 6, newarray)
abbrev pub primitive_number : Primitive → ℕ
primitive_number primitive.Boolean = kind.T_BOOLEAN
primitive_number primitive.Char = kind.T_CHAR
primitive_number primitive.Float = kind.T_FLOAT
primitive_number primitive.Double = kind.T_DOUBLE
primitive_number primitive.Byte = kind.T_BYTE
primitive_number primitive.Short = kind.T_SHORT
primitive_number primitive.Int = kind.T_INT
primitive_number primitive.Long = kind.T_LONG

-- the two are one
abbrev pub same_primitive : Primitive → Primitive → Bool
same_primitive a b = primitive_number a == primitive_number b

-- the numbers of primitive types; Long has the one that is left
abbrev pub primitives : List (ℕ × Primitive)
primitives =
    (kind.T_BOOLEAN, primitive.Boolean)
    ∷ (kind.T_CHAR, primitive.Char)
    ∷ (kind.T_FLOAT, primitive.Float)
    ∷ (kind.T_DOUBLE, primitive.Double)
    ∷ (kind.T_BYTE, primitive.Byte)
    ∷ (kind.T_SHORT, primitive.Short)
    ∷ (kind.T_INT, primitive.Int)
    ∷ []

-- the primitive type of a number
abbrev pub primitive_of : ℕ → Primitive
primitive_of n = in_table primitives primitive.Long n
