use Rattle.std.proofs.Common.{◌≡◌, ◌++◌, drop}
use Rattle.link_rules.specs.Numbers.{map_from}
use Rattle.link_image.specs.Classes.{class_info, declared_infos}
use Rattle.link_image.specs.Methods.{first_method}
use Rattle.link_image.proofs.classes.declared_infos.Given as goal

abbrev pub invariant-loop-number : goal.invariant-loop-number
invariant-loop-number l = record {
  first : l.first ≡ first_method l.program l.number;
  infos : declared_infos l.program l.constants.classes l.constants.literals.now ≡ l.infos ++ map_from (class_info l.program l.constants.classes l.constants.literals.now) l.number (drop l.number l.program);
}
