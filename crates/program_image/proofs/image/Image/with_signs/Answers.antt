use Rattle.program_image.proofs.Rows.{methods_within}
use Rattle.program_image.proofs.image.Image.with_signs.Goals as goal

pub new-requires-2-clause-within : goal.new-requires-2-clause-within
new-requires-2-clause-within c = methods_within c.args.classes c.as_slice-2.result.now c.args.methods c.as_slice-3.result.now c.as_slice-2.ensures c.as_slice-3.ensures c.requires.image.classes_in
