-- The constant pool, read item by item (JVMS2 4.4).
use Rattle.std.specs.Prelude.{ℕ, ◌+◌, ◌-◌, List, [], ◌∷◌, length, Option, Some, None, Result, Ok, Err, nat_lt, Bool, false, ◌==◌, if◌then◌else◌, slice_get}
use Rattle.std.specs.Option.{option_map_or}
use Rattle.std.specs.Int.{Width, w8, w16, w32, w64, cast_signed}
use Rattle.jvm_base.specs.declared.pool.PoolItem.{PoolItem}
use Rattle.jvm_base.specs.declared.pool.PoolItem.TheVariants.{Gap, Utf8, Integer, Float, Long, Double, Class, Text, Field, Method, InterfaceMethod, NameAndKind}
use Rattle.jvm_base.specs.Text.{units_of}
use Rattle.constant_pool.specs.Items.{is_wide}
use Rattle.class_file.specs.declared.error.ClassErr.{ClassErr}
use Rattle.class_file.specs.declared.error.ClassErr.TheVariants.{PoolTag, PoolText}
use Rattle.class_file.specs.Reading.Words.{Place, ◌>>=◌, need, want, number_at, bytes_at, each_at, adding}

-- whether the last item so far is a wide one
abbrev pub is_after_wide : List PoolItem → Bool
is_after_wide pool = option_map_or is_wide (slice_get pool (length pool - 1)) false

-- a text: its length in bytes, and so many bytes of modified UTF-8
unfoldable pub text_item_at : ℕ → Place → Result (PoolItem × Place) ClassErr
text_item_at i p = do
  len ← number_at w16 p
  bytes ← bytes_at len.0 len.1
  units ← want (units_of bytes.0) (PoolText i)
  Ok (Utf8 units, bytes.1)

-- an item of one number
abbrev pub number_item_at : Width → (ℕ → PoolItem) → Place → Result (PoolItem × Place) ClassErr
number_item_at w item p = do
  n ← number_at w p
  Ok (item n.0, n.1)

-- an item of two indices, where the second is below the count
abbrev pub wide_item_at : ℕ → Bool → (ℕ → PoolItem) → Place → Result (PoolItem × Place) ClassErr
wide_item_at i has_room item p = do
  _ ← need has_room (PoolTag i)
  number_item_at w64 item p

-- two indices, one behind the other
unfoldable pub two_indices_at : Place → Result ((ℕ × ℕ) × Place) ClassErr
two_indices_at p = do
  a ← number_at w16 p
  b ← number_at w16 a.1
  Ok ((a.0, b.0), b.1)

-- an item of two indices
abbrev pub pair_item_at : (ℕ → ℕ → PoolItem) → Place → Result (PoolItem × Place) ClassErr
pair_item_at item p = do
  pair ← two_indices_at p
  Ok (item pair.0.0 pair.0.1, pair.1)

-- what follows the tag
unfoldable pub content_at : ℕ → ℕ → Bool → Place → Result (PoolItem × Place) ClassErr
content_at tag i has_room p =
    if tag == 1 then text_item_at i p
    else (if tag == 3 then number_item_at w32 (λ n. Integer (cast_signed w32 n)) p
    else (if tag == 4 then number_item_at w32 Float p
    else (if tag == 5 then wide_item_at i has_room (λ n. Long (cast_signed w64 n)) p
    else (if tag == 6 then wide_item_at i has_room Double p
    else (if tag == 7 then number_item_at w16 Class p
    else (if tag == 8 then number_item_at w16 Text p
    else (if tag == 9 then pair_item_at Field p
    else (if tag == 10 then pair_item_at Method p
    else (if tag == 11 then pair_item_at InterfaceMethod p
    else (if tag == 12 then pair_item_at NameAndKind p
    else Err (PoolTag i)))))))))))

-- an item from its tag on
unfoldable pub item_at : ℕ → Bool → Place → Result (PoolItem × Place) ClassErr
item_at i has_room p = do
  tag ← number_at w8 p
  content_at tag.0 i has_room tag.1

-- the next item of a pool of this count: a gap behind a wide item
unfoldable pub next_item_at : ℕ → List PoolItem → Place → Result (PoolItem × Place) ClassErr
next_item_at count pool p =
    if is_after_wide pool then Ok (Gap, p)
    else item_at (length pool) (nat_lt (length pool + 1) count) p

-- the pool of this count; at counts 0 and 1 it is index 0 alone
unfoldable pub pool_at : ℕ → Place → Result (List PoolItem × Place) ClassErr
pool_at count p = each_at (adding (next_item_at count)) (count - 1) (Gap ∷ []) p
