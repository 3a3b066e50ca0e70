use Rattle.jvm_base.proofs.Methods.{method_reader}
use Rattle.jvm_base.proofs.desc_text.method_has_one_spelling.Goals as goal

pub returns-clause-written : goal.returns-clause-written
returns-clause-written c = method_reader.again

pub returns-clause-read : goal.returns-clause-read
returns-clause-read c = method_reader.takes
