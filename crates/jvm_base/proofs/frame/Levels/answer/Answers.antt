use Rattle.std.proofs.Common.{refl}
use Rattle.jvm_base.proofs.Tops.{top_set}
use Rattle.jvm_base.proofs.frame.Levels.answer.Goals as goal

pub returns : goal.returns
returns c = top_set c.self.inside.items.items c.args.self.now _ c.args.next c.args.takes c.args.value c.in-Some.top.now c.answer_level.new.level c.self.view_is c.self.inside.items.ok.0 (c.in-Some.ensures.variant.0 refl) c.in-Some.ensures.value c.answer_level.ensures
