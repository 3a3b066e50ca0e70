use Rattle.std.proofs.Common.{length, sym}
use Rattle.constant_pool.specs.Facts.Kinds.{kind_of}
use Rattle.jvm_base.specs.declared.pool.PoolItem.TheVariants.{Gap}
use Rattle.class_format.proofs.Rooms.{front_length}
use Rattle.class_format.proofs.formed.has_formed_parts.Goals as goal

pub slice_bounds-kinds-end : goal.slice_bounds-kinds-end
slice_bounds-kinds-end c = sym (front_length (length c.args.pool.now) (kind_of Gap) c.requires.few)

pub fill_kinds-requires : goal.fill_kinds-requires
fill_kinds-requires c = front_length (length c.args.pool.now) (kind_of Gap) c.requires.few
