-- What instructions name has the parts of its types.
use Rattle.std.proofs.Common.{List, [], Option, Some, None}
use Rattle.jvm_base.specs.declared.desc.Desc.{Desc}
use Rattle.jvm_base.specs.declared.pool.PoolItem.{PoolItem}
use Rattle.jvm_base.specs.Words.{from}
use Rattle.class_format.specs.declared.class.ClassFile.{ClassFile}
use Rattle.code_table.specs.declared.code.Code.{Code}
use Rattle.code_table.specs.declared.op.Op.{Op}
use Rattle.class_names.specs.Classes.{codes_of}
use Rattle.link_arrays.specs.Arrays.{with_parts, op_array, op_types, code_types, file_types}
use Rattle.link_arrays.specs.Counting.{AreClosed}
use Rattle.link_arrays.proofs.Levels.{closed_none, closed_levels, closed_flat}

closed_some : (o : Option Desc) → AreClosed (from [] with_parts o)
closed_some None = closed_none
closed_some (Some d) = closed_levels d.dims d.elem

pub closed_op : (pool : List PoolItem) (op : Op) → AreClosed (op_types pool op)
closed_op pool op = closed_some (op_array pool op)

pub closed_code : (pool : List PoolItem) (code : Option Code) → AreClosed (code_types pool code)
closed_code pool code = closed_flat (λ p. op_types pool p.op) (λ p. closed_op pool p.op) (from [] (λ c. c.ops) code)

pub closed_file : (f : ClassFile) → AreClosed (file_types f)
closed_file f = closed_flat (code_types f.pool) (closed_code f.pool) (codes_of f)
