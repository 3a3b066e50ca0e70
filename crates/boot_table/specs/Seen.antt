-- A row of the code's table as its names.
use Rattle.std.specs.Prelude.{map, option_map, ◌+◌, if◌then◌else◌}
use Rattle.boot_table.specs.declared.op.BootOp.{BootOp}
use Rattle.boot_table.specs.declared.op.BootOp.TheVariants.{Aload0, Aload1, Areturn, Return, Getfield, Putfield, Invokespecial, Invokeinterface, Ifnull}
use Rattle.boot_table.specs.declared.op.Reference.{Reference}
use Rattle.boot_table.specs.declared.row.BootClass.{BootClass}
use Rattle.boot_table.specs.declared.row.BootCode.{BootCode}
use Rattle.boot_table.specs.declared.row.BootField.{BootField}
use Rattle.boot_table.specs.declared.row.BootMethod.{BootMethod}
use Rattle.boot_table.specs.declared.exceptions.BootException.{BootException}
use Rattle.boot_table.specs.Table.{exception_of, public, supers, is_abstract}
use Rattle.boot_table.specs.Rows.{Row, Field, Method, Code, Member, Instruction as of, Instruction}

-- what a reference names
abbrev pub seen_reference : Reference → Member
seen_reference r = record { class = r.class.now; name = r.name.now; desc = r.desc.now }

-- an instruction
abbrev pub seen_op : BootOp → Instruction
seen_op Aload0 = of.Aload0
seen_op Aload1 = of.Aload1
seen_op Areturn = of.Areturn
seen_op Return = of.Return
seen_op (Getfield r) = of.Getfield (seen_reference r)
seen_op (Putfield r) = of.Putfield (seen_reference r)
seen_op (Invokespecial r) = of.Invokespecial (seen_reference r)
seen_op (Invokeinterface r) = of.Invokeinterface (seen_reference r)
seen_op (Ifnull n) = of.Ifnull n

-- a code
abbrev pub seen_code : BootCode → Code
seen_code c = record { max_stack = c.max_stack; max_locals = c.max_locals; ops = map seen_op c.ops.now }

-- a field
abbrev pub seen_field : BootField → Field
seen_field f = record { flags = f.flags; name = f.name.now; desc = f.desc.now }

-- a method
abbrev pub seen_method : BootMethod → Method
seen_method m = record { flags = m.flags; name = m.name.now; desc = m.desc.now; code = option_map seen_code m.code }

-- a class
abbrev pub seen : BootClass → Row
seen c = record {
  name = c.name.now;
  super_class = option_map (λ s. s.now) c.super_class;
  interfaces = map (λ s. s.now) c.interfaces.now;
  flags = c.flags;
  fields = map seen_field c.fields.now;
  methods = map seen_method c.methods.now;
}

-- an exception, of which only names are kept
abbrev pub seen_exception : BootException → Row
seen_exception e =
    exception_of
    (if e.is_abstract then public + supers + is_abstract else public + supers)
    e.name.now e.above.now
