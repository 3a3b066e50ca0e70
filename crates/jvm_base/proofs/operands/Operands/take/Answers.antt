use Rattle.std.proofs.Common.{◌∙◌}
use Rattle.jvm_base.proofs.Tops.{taken}
use Rattle.jvm_base.proofs.operands.Operands.take.Goals as goal

pub returns : goal.returns
returns c = taken c.self.inside.items.items c.truncate.new.self.items c.self.inside.room c.len.result c.args.count c.args.self.now c.self.view_is c.truncate.ensures.items (c.len.ensures ∙ c.self.inside.items.ok.0) c.requires
