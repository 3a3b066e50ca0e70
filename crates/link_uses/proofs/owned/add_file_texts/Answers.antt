use Rattle.link_uses.specs.Owned.{class_texts}
use Rattle.link_uses.proofs.OwnedBuilt.{texts_more}
use Rattle.link_uses.proofs.owned.add_file_texts.Goals as goal

pub loop-file-preserved : goal.loop-file-preserved
loop-file-preserved c = texts_more class_texts c.args.files.now c.loop-file.file-index c.file-item.result c.loop-file.names c.add_class_texts.new.names _ c.loop-file-test.true c.file-item.is c.in_ok-add_class_texts.ensures c.loop-file.invariant
