-- What is known of code that was decoded.
use Rattle.std.specs.Prelude.{◌≡◌, ℕ, ◌<◌, ◌≤◌, ◌⊎◌, true, false, List, Option, Some, slice_get}
use Rattle.jvm_base.specs.declared.code_item.CodeItem.{CodeItem}
use Rattle.jvm_base.specs.declared.pool.PoolItem.{PoolItem}
use Rattle.jvm_base.specs.declared.pool.PoolItem.TheVariants.{Integer, Long, Text}
use Rattle.constant_pool.specs.Items.{class_at}
use Rattle.class_format.specs.Meaning.{AreBytes}
use Rattle.code_table.specs.Accepted.{IsCode}
use Rattle.code_table.specs.ElementKinds.{is_kind, is_left_out_kind}
use Rattle.code_table.specs.Items.{class_dimensions, field_desc, method_desc, interface_method_desc}
use Rattle.code_table.specs.declared.code.Code.{Code}
use Rattle.code_table.specs.declared.code.Placed.{Placed}
use Rattle.code_table.specs.declared.op.Op.{Op}
use Rattle.code_table.specs.declared.op.Op.TheVariants as op
use Rattle.frame_ops.specs.Stepping.{IsRising, HasFewArguments}
use Rattle.frame_soundness.specs.AcceptedProgram.{IsSwitch}

-- ---- one instruction, by the pool of its class (JVMS2 4.8.1)

-- the item is a constant of one slot that is loaded: an int or a text
abbrev pub IsLoaded : Option PoolItem → Type 0
IsLoaded (Some (Integer n)) = Unit {0}
IsLoaded (Some (Text text)) = Unit {0}
IsLoaded _ = ⊥

-- of two slots: a long
abbrev pub IsLoadedWide : Option PoolItem → Type 0
IsLoadedWide (Some (Long n)) = Unit {0}
IsLoadedWide _ = ⊥

-- what the pool and the instruction's own numbers allow: constants that are loaded, members of
-- their descriptors, classes, kinds of elements, and dimensions of which at least one is made and at
-- most all
abbrev pub IsAllowed : List PoolItem → Op → Type 0
IsAllowed pool (op.Ldc i) = IsLoaded (slice_get pool i)
IsAllowed pool (op.Ldc2 i) = IsLoadedWide (slice_get pool i)
IsAllowed pool (op.Static o i d) = field_desc pool i ≡ Some d
IsAllowed pool (op.Field o i d) = field_desc pool i ≡ Some d
IsAllowed pool (op.Invoke o i d) =
    (method_desc pool i ≡ Some d) ⊎ (interface_method_desc pool i ≡ Some d)
IsAllowed pool (op.New i) = (name : ℕ) × (class_at pool i ≡ Some name)
IsAllowed pool (op.Cast o i) = (name : ℕ) × (class_at pool i ≡ Some name)
IsAllowed pool (op.NewArray k) = (is_kind k ≡ true) × (is_left_out_kind k ≡ false)
IsAllowed pool (op.AnewArray i) =
    (dims : ℕ) × (class_dimensions pool i ≡ Some dims) × (dims < 255)
IsAllowed pool (op.MultiNewArray i n) =
    (dims : ℕ) × (class_dimensions pool i ≡ Some dims) × (0 < n) × (n ≤ dims)
IsAllowed pool _ = Unit {0}

-- of a call, it has few arguments too, and of a switch, it leads to one of its targets
pub record IsFine (pool : List PoolItem) (o : Op) : Type 0 where
  pub allowed : IsAllowed pool o
  pub few : HasFewArguments o
  pub switches : IsSwitch o

-- ---- all of some code

pub record IsFineCode (pool : List PoolItem) (code : Code) : Type 0 where
  pub rising : IsRising code.ops
  pub ops : (i : ℕ) (o : Placed) → slice_get code.ops i ≡ Some o → IsFine pool o.op

-- each code that was decoded from bytes is so
abbrev pub DecodingLaw : Type 0
DecodingLaw = (item : CodeItem) (pool : List PoolItem) (code : Code) →
    AreBytes item.code → IsCode item pool code → IsFineCode pool code
