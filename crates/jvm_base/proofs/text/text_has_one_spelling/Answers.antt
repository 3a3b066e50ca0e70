use Rattle.jvm_base.proofs.Texts.{text_reader}
use Rattle.jvm_base.proofs.text.text_has_one_spelling.Goals as goal

pub returns-clause-written : goal.returns-clause-written
returns-clause-written c = text_reader.again

pub returns-clause-read : goal.returns-clause-read
returns-clause-read c = text_reader.takes
