use Rattle.std.proofs.Common.{List, ◌++◌, take}
use Rattle.class_format.specs.declared.class.ClassFile.{ClassFile}
use Rattle.link_image.specs.Kept.Signs.{AreMethodBacks}
use Rattle.link_image.proofs.signs.add_classes.Given as goal

abbrev pub invariant-loop-file : goal.invariant-loop-file
invariant-loop-file l = (fs : List ClassFile) → AreMethodBacks fs l.initial.all → AreMethodBacks (fs ++ take l.file-index l.files) l.all
