-- How large files may be.
use Rattle.std.specs.Prelude.{◌<◌, ◌^◌, length}
use Rattle.class_format.specs.declared.class.ClassFile.{ClassFile}

-- a count of methods takes two bytes
abbrev pub HasFewMethods : ClassFile → Type 0
HasFewMethods f = length f.methods < 2 ^ 16
