-- What a table of classes owes, all together.
use Rattle.typed_classes.specs.Tables.{ClassesLaw}
use Rattle.typed_classes.proofs.Subtypes.{sub_fits, supers_fit, strings, buffers}
use Rattle.typed_classes.proofs.Fields.{fields}

-- classes are of their types
pub classes_law : ClassesLaw
classes_law p table = record {
  subs = record { tree = table.tree; sub_fits = sub_fits p table };
  supers_fit = supers_fit p table;
  strings = strings p table;
  buffers = buffers p table;
  parts = λ c part a e q. (table.arrays c a e).part_typed part q;
  fields = fields p table;
}
