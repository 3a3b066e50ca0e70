use Rattle.link_members.specs.Signs.{file_texts}
use Rattle.link_members.proofs.SignLaws.{texts_more}
use Rattle.link_members.proofs.signs.add_files.Goals as goal

pub loop-file-preserved : goal.loop-file-preserved
loop-file-preserved c = texts_more file_texts c.args.files.now c.loop-file.file-index c.file-item.result c.loop-file.names c.add_file.new.names _ c.loop-file-test.true c.file-item.is c.in_ok-add_file.ensures c.loop-file.invariant
