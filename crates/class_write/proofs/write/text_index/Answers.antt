use Rattle.class_write.proofs.Plain.{no_place}
use Rattle.class_write.proofs.write.text_index.Goals as goal

pub returns-in-None : goal.returns-in-None
returns-in-None c = no_place _ c.args.pool.now c.in-None.ensures.value
