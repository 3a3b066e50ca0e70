use Rattle.std.proofs.Common.{◌≡◌, ℕ, ◌++◌, ◌≤◌, List, ◌+◌, ap, sym, ◌∙◌, subst}
use Rattle.std.specs.List.{All}
use Rattle.class_format.specs.declared.class.ClassFile.{ClassFile}
use Rattle.class_format.proofs.Recursion.{all_of}
use Rattle.link_rules.specs.Numbers.{map_from}
use Rattle.link_image.specs.Fields.{base_of}
use Rattle.link_image.proofs.BaseLaws.{base_small}
use Rattle.link_image.proofs.ListLaws.{all_map_from}
use Rattle.link_image.proofs.bases.bases.Goals as goal

pub returns-clause-few : goal.returns-clause-few
returns-clause-few c =
    let all : List ClassFile = c.args.program.now in
    let bases : List ℕ = map_from (λ k f. base_of all k) 0 all in
    let e : c.add_bases.new.all ≡ bases = c.in_ok-add_bases.ensures ∙ ap (λ z. z ++ bases) c.new-bases.ensures in
    subst (All (λ base. base ≤ 2147483648)) (sym e)
    (all_of (λ base. base ≤ 2147483648) bases (all_map_from (λ base. base ≤ 2147483648) (λ k f. base_of all k) 0 all (λ i f q. base_small all c.args.ranks.now c.requires.ranked c.requires.few_fields c.requires.few_classes (0 + i))))
