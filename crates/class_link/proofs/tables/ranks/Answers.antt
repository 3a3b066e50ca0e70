use Rattle.std.proofs.Common.{◌≡◌, List, length, map, ap, sym, ◌∙◌, subst, arith}
use Rattle.std.proofs.lemmas.List.{length-map}
use Rattle.class_format.specs.declared.class.ClassFile.{ClassFile}
use Rattle.hierarchy.specs.Hierarchy.{IsWithin}
use Rattle.link_members.specs.declared.row_table.Step.TheVariants.{Above}
use Rattle.link_members.specs.Rows.{row_by, IsFalling}
use Rattle.link_members.proofs.RowLaws.{rows_within}
use Rattle.link_rules.specs.Answers.{IsAnswer}
use Rattle.link_rules.specs.Classes.{super_loop}
use Rattle.link_rules.specs.Numbers.{numbered, above_rows}
use Rattle.class_link.proofs.BootLaws.{boot_falls}
use Rattle.class_link.proofs.tables.ranks.Goals as goal

pub check_loops-requires-clause-within : goal.check_loops-requires-clause-within
check_loops-requires-clause-within c =
    let all : List ClassFile = c.args.program.now in
    let rows : c.as_slice.result.now ≡ map (row_by Above all) all = c.as_slice.ensures ∙ c.in_ok-rows.ensures in
    subst IsWithin (sym rows) (rows_within Above all)

pub check_loops-requires-clause-files_in : goal.check_loops-requires-clause-files_in
check_loops-requires-clause-files_in c =
    let all : List ClassFile = c.args.program.now in
    let rows : c.as_slice.result.now ≡ map (row_by Above all) all = c.as_slice.ensures ∙ c.in_ok-rows.ensures in
    let same = ap length rows in let count = length-map all (row_by Above all) in omega arith

pub check_loops-requires-clause-falling : goal.check_loops-requires-clause-falling
check_loops-requires-clause-falling c =
    let all : List ClassFile = c.args.program.now in
    let rows : c.as_slice.result.now ≡ map (row_by Above all) all = c.as_slice.ensures ∙ c.in_ok-rows.ensures in
    subst (λ z. IsFalling z 34) (sym (rows ∙ ap above_rows c.requires.program)) (boot_falls c.args.files.now)

pub check_loops-requires-clause-few : goal.check_loops-requires-clause-few
check_loops-requires-clause-few c =
    let all : List ClassFile = c.args.program.now in
    let rows : c.as_slice.result.now ≡ map (row_by Above all) all = c.as_slice.ensures ∙ c.in_ok-rows.ensures in
    let same = ap length rows in let count = length-map all (row_by Above all) in omega arith

pub returns-clause-answer : goal.returns-clause-answer
returns-clause-answer c =
    let rows : c.as_slice.result.now ≡ above_rows c.args.program.now = c.as_slice.ensures ∙ c.in_ok-rows.ensures in
    subst (λ z. IsAnswer (numbered (super_loop z) 34 c.args.files.now) c.check_loops.result) rows c.check_loops.ensures.answer
