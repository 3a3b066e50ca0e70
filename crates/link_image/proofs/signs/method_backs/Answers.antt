use Rattle.std.proofs.Common.{[], subst}
use Rattle.class_format.specs.declared.class.ClassFile.{ClassFile}
use Rattle.link_image.specs.Kept.Signs.{AreMethodBacks}
use Rattle.link_image.proofs.SignLaws.{no_class}
use Rattle.link_image.proofs.signs.method_backs.Goals as goal

pub returns : goal.returns
returns c =
    let start : AreMethodBacks [] (record { names = c.new.result; descs = c.new-2.result }) = no_class (record { names = c.new.result; descs = c.new-2.result }) c.new.ensures c.new-2.ensures in
    subst (λ fs. AreMethodBacks fs c.add_classes-2.new.all) c.parts.ensures (c.in_ok-add_classes-2.ensures c.parts.result.0.now (c.in_ok-add_classes.ensures [] start))
