use Rattle.std.proofs.Common.{length, sym}
use Rattle.class_format.proofs.Rooms.{front_length}
use Rattle.class_format.proofs.KeyLaws.{new_where_distinct}
use Rattle.class_format.proofs.members.are_new.Goals as goal

pub slice_bounds-keys-end : goal.slice_bounds-keys-end
slice_bounds-keys-end g c = sym (front_length (length c.args.members.now) (0, 0) c.requires.few)

pub fill_keys-requires : goal.fill_keys-requires
fill_keys-requires g c = front_length (length c.args.members.now) (0, 0) c.requires.few

pub returns : goal.returns
returns g c =
    let new = new_where_distinct c.args.texts.now c.requires.gap g.T.Named.key c.args.members.now c.fill_keys.new.keys c.sort_unstable.new.self c.fill_keys.ensures c.sort_unstable.ensures.permutation in
    (λ t. new.0 (c.neighbours_differ.ensures.0 t), λ h. c.neighbours_differ.ensures.1 (new.1 h))
