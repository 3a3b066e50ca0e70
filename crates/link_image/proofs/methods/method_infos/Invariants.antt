use Rattle.std.proofs.Common.{◌≡◌, ◌++◌, drop, map, reverse}
use Rattle.class_names.specs.Classes.{codes_of}
use Rattle.link_rules.specs.Numbers.{numbered}
use Rattle.link_image.specs.Methods.{natives_before, class_methods, method_infos}
use Rattle.link_image.proofs.methods.method_infos.Given as goal

abbrev pub invariant-loop-owner : goal.invariant-loop-owner
invariant-loop-owner l = record {
  counted : l.natives ≡ natives_before l.program l.owner;
  codes : l.codes ≡ reverse (drop l.owner (map codes_of l.program));
  infos : method_infos l.program ≡ l.infos ++ numbered (λ c f. class_methods (natives_before l.program c) c f) l.owner (drop l.owner l.program);
}
