use Rattle.jvm_base.proofs.Descs.{desc_reader}
use Rattle.jvm_base.proofs.desc_text.desc_has_one_spelling.Goals as goal

pub returns-clause-written : goal.returns-clause-written
returns-clause-written c = desc_reader.again

pub returns-clause-read : goal.returns-clause-read
returns-clause-read c = desc_reader.takes
