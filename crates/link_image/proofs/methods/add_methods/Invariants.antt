use Rattle.std.proofs.Common.{◌≡◌, ◌+◌, ◌++◌, drop, take, map, reverse}
use Rattle.class_names.specs.Classes.{code_of}
use Rattle.link_rules.specs.Numbers.{map_from}
use Rattle.link_image.specs.Methods.{natives, method_info, class_methods}
use Rattle.link_image.proofs.methods.add_methods.Given as goal

abbrev pub invariant-loop-i : goal.invariant-loop-i
invariant-loop-i l = record {
  counted : l.natives ≡ l.before + natives (take l.i l.file.methods);
  codes : l.codes ≡ reverse (drop l.i (map (code_of l.file.pool) l.file.methods));
  infos : l.fn.infos ++ class_methods l.before l.owner l.file ≡ l.infos ++ map_from (λ i m. method_info l.file l.owner (l.before + natives (take i l.file.methods)) m) l.i (drop l.i l.file.methods);
}
