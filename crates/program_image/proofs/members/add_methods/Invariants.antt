use Rattle.std.proofs.Common.{◌≡◌, take}
use Rattle.hierarchy.specs.Walks.{or_else}
use Rattle.program_image.specs.Built.Members.{Member, member_at, members_in}
use Rattle.program_image.proofs.members.add_methods.Given as goal

abbrev pub invariant-loop-m : goal.invariant-loop-m
invariant-loop-m l = (key : Member) → member_at l.declared.entries key ≡ or_else (member_at l.initial.declared.entries key) (members_in l.methods l.signs l.class key (take l.m-index l.m-items))
