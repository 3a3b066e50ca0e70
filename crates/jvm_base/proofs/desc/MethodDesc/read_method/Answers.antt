use Rattle.std.proofs.Common.{List, ℕ, subst}
use Rattle.jvm_base.specs.Reads.{Reads}
use Rattle.jvm_base.specs.Descriptors.{method_of, method_text, IsMethodDesc}
use Rattle.jvm_base.specs.declared.units.NameErr.TheVariants.{BadDesc}
use Rattle.jvm_base.proofs.Readers.{found, only, refused}
use Rattle.jvm_base.proofs.Methods.{method_reader}
use Rattle.jvm_base.proofs.desc.MethodDesc.read_method.Goals as goal

read : (c : goal.After-read_method) → Reads BadDesc c.read_method.result (method_of c.args.text.now)
read c = subst (λ (z : List ℕ). Reads BadDesc c.read_method.result (method_of z)) c.as_slice.ensures c.read_method.ensures

pub returns-clause-found : goal.returns-clause-found
returns-clause-found c = found method_of method_text IsMethodDesc method_reader BadDesc c.read_method.result c.args.text.now (read c)

pub returns-clause-only : goal.returns-clause-only
returns-clause-only c = only method_of method_text IsMethodDesc method_reader BadDesc c.read_method.result c.args.text.now (read c)

pub returns-clause-refused : goal.returns-clause-refused
returns-clause-refused c = refused method_of method_text IsMethodDesc method_reader BadDesc c.read_method.result c.args.text.now (read c)
