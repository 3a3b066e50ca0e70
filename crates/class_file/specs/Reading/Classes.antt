-- A class file, read from front to back (JVMS2 4.1).
use Rattle.std.specs.Prelude.{ℕ, List, length, Option, Some, None, Result, Ok, Err, nat_eq, not, ◌||◌, ◌==◌}
use Rattle.std.specs.Int.{w16, w32}
use Rattle.jvm_base.specs.declared.pool.PoolItem.{PoolItem}
use Rattle.class_file.specs.declared.error.ClassErr.{ClassErr}
use Rattle.class_file.specs.declared.error.ClassErr.TheVariants.{Magic, Version, PoolLink, ItemLink, Flags, Extra}
use Rattle.class_format.specs.declared.class.ClassFile.{ClassFile}
use Rattle.class_file.specs.declared.class_reader.Members.{Members}
use Rattle.class_file.specs.declared.class_reader.Names.{Names}
use Rattle.class_format.specs.Flags.{class_flags_clash}
use Rattle.class_format.specs.Spelling.{magic_number}
use Rattle.class_format.specs.Versions.{is_other_version}
use Rattle.constant_pool.specs.Items.{is_class_at}
use Rattle.constant_pool.specs.Links.{bad_link}
use Rattle.class_file.specs.Reading.Members.{other_at, field_at, method_at}
use Rattle.class_file.specs.Reading.Pools.{pool_at}
use Rattle.class_file.specs.Reading.Words.{Place, offset_of, ◌>>=◌, need, number_at, counted_at, listed_at}

-- ---- versions

-- the numbers of a version: minor, major
unfoldable pub version_numbers_at : Place → Result ((ℕ × ℕ) × Place) ClassErr
version_numbers_at p = do
  minor ← number_at w16 p
  major ← number_at w16 minor.1
  Ok ((minor.0, major.0), major.1)

-- the magic, and a version that is read
unfoldable pub version_at : Place → Result ((ℕ × ℕ) × Place) ClassErr
version_at p = do
  magic ← number_at w32 p
  _ ← need (nat_eq magic.0 magic_number) Magic
  v ← version_numbers_at magic.1
  _ ← need (not (is_other_version v.0.1 v.0.0)) (Version v.0.1 v.0.0)
  Ok v

-- ---- the linked pool

-- the lowest index that isn't linked is refused
abbrev pub linked : Option ℕ → Result (Unit {0}) ClassErr
linked None = Ok tt
linked (Some i) = Err (PoolLink i)

-- ---- the class's own flags and links

-- the index of a class item
unfoldable pub class_index_at : List PoolItem → Place → Result (ℕ × Place) ClassErr
class_index_at pool p = do
  class ← number_at w16 p
  _ ← need (is_class_at pool class.0) (ItemLink (offset_of p))
  Ok class

-- 0 stands for no superclass
unfoldable pub super_index_at : List PoolItem → Place → Result (ℕ × Place) ClassErr
super_index_at pool p = do
  class ← number_at w16 p
  _ ← need (nat_eq class.0 0 || is_class_at pool class.0) (ItemLink (offset_of p))
  Ok class

-- an interface that the class names; no interface is refused for being named twice
unfoldable pub interface_at : List PoolItem → List ℕ → Place → Result (ℕ × Place) ClassErr
interface_at pool earlier p = class_index_at pool p

-- the flags of a class, and the classes that it names: itself, its superclass, its interfaces
unfoldable pub names_at : List PoolItem → Place → Result (Names × Place) ClassErr
names_at pool p = do
  flags ← number_at w16 p
  _ ← need (not (class_flags_clash flags.0)) (Flags (offset_of p))
  this ← class_index_at pool flags.1
  super ← super_index_at pool this.1
  interfaces ← listed_at (interface_at pool) super.1
  Ok (record { flags = flags.0; this_class = this.0; super_class = super.0; interfaces = interfaces.0 }, interfaces.1)

-- ---- all of it

-- what follows the pool, where each item of it is linked
unfoldable pub members_at : List PoolItem → Place → Result (Members × Place) ClassErr
members_at pool p = do
  _ ← linked (bad_link pool)
  names ← names_at pool p
  fields ← listed_at (field_at pool) names.1
  methods ← listed_at (method_at pool) fields.1
  others ← counted_at (other_at pool) tt methods.1
  Ok (record { names = names.0; fields = fields.0; methods = methods.0 }, others.1)

-- a class file, whatever follows it
unfoldable pub class_body_at : Place → Result (ClassFile × Place) ClassErr
class_body_at p = do
  version ← version_at p
  count ← number_at w16 version.1
  pool ← pool_at count.0 count.1
  members ← members_at pool.0 pool.1
  Ok (
    record {
      minor = version.0.0;
      major = version.0.1;
      pool = pool.0;
      flags = members.0.names.flags;
      this_class = members.0.names.this_class;
      super_class = members.0.names.super_class;
      interfaces = members.0.names.interfaces;
      fields = members.0.fields;
      methods = members.0.methods;
    },
    members.1,
  )

-- a class file that is all of the bytes
unfoldable pub class_at : List ℕ → Result ClassFile ClassErr
class_at bytes = do
  class ← class_body_at (record { total = length bytes; rest = bytes })
  _ ← need (length class.1.rest == 0) (Extra (offset_of class.1))
  Ok class.0
