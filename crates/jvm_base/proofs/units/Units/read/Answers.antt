use Rattle.jvm_base.specs.Text.{units_of, text_bytes}
use Rattle.jvm_base.specs.Units.{AreUnits}
use Rattle.jvm_base.specs.declared.units.NameErr.TheVariants.{BadUtf}
use Rattle.jvm_base.proofs.Readers.{found, only, refused}
use Rattle.jvm_base.proofs.Texts.{text_reader}
use Rattle.jvm_base.proofs.units.Units.read.Goals as goal

pub returns-clause-found : goal.returns-clause-found
returns-clause-found c = found units_of text_bytes AreUnits text_reader BadUtf c.read_units.result c.args.bytes.now c.read_units.ensures

pub returns-clause-only : goal.returns-clause-only
returns-clause-only c = only units_of text_bytes AreUnits text_reader BadUtf c.read_units.result c.args.bytes.now c.read_units.ensures

pub returns-clause-refused : goal.returns-clause-refused
returns-clause-refused c = refused units_of text_bytes AreUnits text_reader BadUtf c.read_units.result c.args.bytes.now c.read_units.ensures
