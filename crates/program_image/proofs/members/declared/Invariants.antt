use Rattle.std.proofs.Common.{◌≡◌, None, nat_lt}
use Rattle.std.specs.Prelude.{if◌then◌else◌}
use Rattle.program_image.specs.Selection.{methods_of}
use Rattle.program_image.specs.Built.Members.{Member, member_at, members_in}
use Rattle.program_image.proofs.members.declared.Given as goal

abbrev pub invariant-loop-class : goal.invariant-loop-class
invariant-loop-class l = (key : Member) → member_at l.declared.entries key ≡ (if nat_lt key.0 l.class then members_in l.methods l.signs key.0 key (methods_of l.classes key.0) else None)
