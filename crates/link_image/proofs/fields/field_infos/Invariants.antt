use Rattle.std.proofs.Common.{◌≡◌, ◌+◌, ◌++◌, drop, take}
use Rattle.std.specs.List.{count_by}
use Rattle.link_rules.specs.Numbers.{map_from}
use Rattle.link_image.specs.Fields.{is_fixed, is_instance, place_in, field_info, field_infos}
use Rattle.link_image.proofs.fields.field_infos.Given as goal

abbrev pub invariant-loop-i : goal.invariant-loop-i
invariant-loop-i l = record {
  instance : l.next.instance ≡ l.base + count_by is_instance (take l.i l.file.fields);
  fixed : l.next.fixed ≡ count_by is_fixed (take l.i l.file.fields);
  infos : field_infos l.constants.classes l.constants.literals.now l.file l.owner l.base ≡ l.infos ++ map_from (λ i x. field_info l.constants.classes l.constants.literals.now l.file l.owner (place_in l.base l.file.fields i x) x) l.i (drop l.i l.file.fields);
}
