use Rattle.std.proofs.Common.{ℕ, ◌<◌, Bool, List, length, ap, ◌∙◌, arith}
use Rattle.std.specs.Prelude.{◌==◌, ◌&&◌, not}
use Rattle.std.specs.List.{list_any}
use Rattle.std.proofs.lemmas.List.{length-map}
use Rattle.class_format.specs.declared.class.ClassFile.{ClassFile}
use Rattle.link_rules.specs.Numbers.{super_rows, super_row}
use Rattle.link_members.proofs.SuperLaws.{any_above}
use Rattle.link_uses.proofs.lookup.is_in_supers.Goals as goal

pub returns : goal.returns
returns c =
    let all : List ClassFile = c.args.program.now in
    let q : ℕ → Bool = λ k. k == c.args.above in
    let p : ℕ → Bool = λ k. not (k == c.args.number) && q k in
    let inside : c.args.number < length (super_rows all) = let l = length-map all (super_row all) in let i = c.requires.inside in omega arith in
    c.is_other.ensures ∙ ap (list_any p) c.row.ensures ∙ any_above (super_rows all) c.args.supers.now c.requires.ranked.0 c.args.number q c.requires.ranked.1 c.requires.walked inside
