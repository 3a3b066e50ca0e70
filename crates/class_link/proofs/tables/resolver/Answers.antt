use Rattle.std.proofs.Common.{List}
use Rattle.class_format.specs.declared.class.ClassFile.{ClassFile}
use Rattle.link_members.specs.declared.row_table.Step.TheVariants.{Super, Interfaces}
use Rattle.link_members.proofs.RowLaws.{ranked_by}
use Rattle.class_link.proofs.tables.resolver.Goals as goal

pub new-requires : goal.new-requires
new-requires c =
    let all : List ClassFile = c.args.program.now in
    record {
      some = c.requires.some;
      few = c.requires.few;
      super_walks = c.requires.supers;
      interface_walks = c.in_ok-interfaces.ensures;
      field_walks = c.in_ok-fields.ensures;
      ranked = (c.args.ranks.now, ranked_by Interfaces all c.args.ranks.now c.requires.ranked);
      super_ranked = (c.args.ranks.now, ranked_by Super all c.args.ranks.now c.requires.ranked);
    }
