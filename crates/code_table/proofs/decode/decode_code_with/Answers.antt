use Rattle.code_table.proofs.Acceptance.{found_of, only_of, refused_of, due_of}
use Rattle.code_table.proofs.decode.decode_code_with.Goals as goal

pub returns-clause-found : goal.returns-clause-found
returns-clause-found c = found_of c.args.item.now c.args.descs.now c.decoded.result c.decoded.ensures

pub returns-clause-only : goal.returns-clause-only
returns-clause-only c = only_of c.args.item.now c.args.descs.now c.decoded.result c.decoded.ensures

pub returns-clause-refused : goal.returns-clause-refused
returns-clause-refused c = refused_of c.args.item.now c.args.descs.now c.decoded.result c.decoded.ensures

pub returns-clause-due : goal.returns-clause-due
returns-clause-due c = due_of c.args.item.now c.args.descs.now c.decoded.result c.decoded.ensures
