use Rattle.std.proofs.Common.{List, ℕ, subst}
use Rattle.jvm_base.specs.Reads.{Reads}
use Rattle.jvm_base.specs.Descriptors.{desc_of, desc_text, IsDesc}
use Rattle.jvm_base.specs.declared.units.NameErr.TheVariants.{BadDesc}
use Rattle.jvm_base.proofs.Readers.{found, only, refused}
use Rattle.jvm_base.proofs.Descs.{desc_reader}
use Rattle.jvm_base.proofs.desc.Desc.read_field.Goals as goal

read : (c : goal.After-read_desc) → Reads BadDesc c.read_desc.result (desc_of c.args.text.now)
read c = subst (λ (z : List ℕ). Reads BadDesc c.read_desc.result (desc_of z)) c.as_slice.ensures c.read_desc.ensures

pub returns-clause-found : goal.returns-clause-found
returns-clause-found c = found desc_of desc_text IsDesc desc_reader BadDesc c.read_desc.result c.args.text.now (read c)

pub returns-clause-only : goal.returns-clause-only
returns-clause-only c = only desc_of desc_text IsDesc desc_reader BadDesc c.read_desc.result c.args.text.now (read c)

pub returns-clause-refused : goal.returns-clause-refused
returns-clause-refused c = refused desc_of desc_text IsDesc desc_reader BadDesc c.read_desc.result c.args.text.now (read c)
