-- What classes meet that no program has.
use Rattle.std.specs.Prelude.{ℕ, ◌==◌, ◌&&◌, nat_le, nat_lt, List, [], ◌∷◌, Option, Some, None, if◌then◌else◌}
use Rattle.jvm_base.specs.declared.code_item.TableItem.{TableItem}

-- the handler of the first entry that takes every exception at an address
abbrev pub any_handler : ℕ → List TableItem → Option ℕ
any_handler at [] = None
any_handler at (entry ∷ entries) =
    if nat_le entry.start at && (nat_lt at entry.end && entry.class == 0) then Some entry.handler
    else any_handler at entries
