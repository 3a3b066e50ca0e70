-- Array types as rows: how many dimensions, and at which place an element type stands.
use Rattle.std.specs.Prelude.{◌≡◌, ℕ, ◌==◌, ◌&&◌, Bool, List, [], ◌∷◌, map, position, Some, slice_get, slice_index_or, length, ◌<◌}
use Rattle.std.specs.List.{All}
use Rattle.jvm_base.specs.declared.desc.Desc.{Desc}
use Rattle.jvm_base.specs.declared.desc.Elem.{Elem}
use Rattle.jvm_base.specs.declared.desc.Elem.TheVariants.{Byte}
use Rattle.jvm_base.specs.Descriptors.{desc_text}
use Rattle.jvm_base.specs.Words.{from}
use Rattle.program_image.specs.Signatures.{same_elem}
use Rattle.link_arrays.specs.Arrays.{array}
use Rattle.link_arrays.specs.declared.desc_set.ArrayType.{ArrayType}
use Rattle.link_arrays.specs.declared.desc_set.ElemShare.{ElemShare}

-- so many dimensions over the element type at a place
abbrev pub Row : Type 0
Row = ℕ × ℕ

-- the rows are one
abbrev pub same_row : Row → Row → Bool
same_row a b = (a.0 == b.0) && (a.1 == b.1)

-- the element type at a place
abbrev pub elem_at : List Elem → ℕ → Elem
elem_at elems i = from Byte (λ e. e) (slice_get elems i)

-- the type that a row is
abbrev pub type_of : List Elem → Row → Desc
type_of elems row = array row.0 (elem_at elems row.1)

-- the types that rows are
abbrev pub types_of : List Elem → List Row → List Desc
types_of elems rows = map (type_of elems) rows

-- the element type of a row stands first at its place
abbrev pub IsRow : List Elem → Row → Type 0
IsRow elems row = position (same_elem (elem_at elems row.1)) elems ≡ Some row.1

-- so it is with each of the rows
abbrev pub AreRows : List Elem → List Row → Type 0
AreRows elems [] = Unit {0}
AreRows elems (row ∷ rows) = IsRow elems row × AreRows elems rows

-- ---- what array classes share

-- the most dimensions of an array (JVMS2 4.10)
abbrev pub most_dims : ℕ
most_dims = 255

-- an element type, and the name of the class of its arrays of most dimensions
abbrev pub share_of : Elem → ElemShare
share_of e = record { elem = e; text = desc_text (array most_dims e) }

-- an array type, with what it shares
abbrev pub array_type : Desc → ArrayType
array_type d = record { dims = d.dims; share = share_of d.elem }

-- the type of a row, where these are what types share
abbrev pub shared_type : List ElemShare → Row → ArrayType
shared_type shares row = record {
  dims = row.0;
  share = slice_index_or shares row.1 (share_of Byte);
}

-- what each row shares is there
abbrev pub AreShared : List ElemShare → List Row → Type 0
AreShared shares rows = All (λ row. row.1 < length shares) rows
