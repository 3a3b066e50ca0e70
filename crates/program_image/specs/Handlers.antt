-- Which handler an exception meets (JVMS2 3.10).
use Rattle.std.specs.Prelude.{ℕ, Bool, false, ◌==◌, ◌&&◌, ◌||◌, ◌+◌, nat_le, nat_lt, List, [], ◌∷◌, Option, Some, None, option_and_then, slice_get, if◌then◌else◌}
use Rattle.jvm_base.specs.declared.code_item.TableItem.{TableItem}
use Rattle.code_table.specs.declared.code.Code.{Code}
use Rattle.program_image.specs.declared.info.Body.{Body}
use Rattle.program_image.specs.declared.info.Body.TheVariants as body
use Rattle.program_image.specs.declared.info.Target.{Target}
use Rattle.program_image.specs.declared.info.Target.TheVariants.{Class}
use Rattle.program_image.specs.Program.{Program}
use Rattle.program_image.specs.Places.{Targets, target_at}
use Rattle.program_image.specs.declared.info.ClassInfo.{ClassInfo}
use Rattle.program_image.specs.Subclass.{is_sub_of}

-- the code of a method that has some
abbrev pub body_code : Body → Option Code
body_code (body.Code code) = Some code
body_code _ = None

-- the code of the method of a number
abbrev pub code_of : Program → ℕ → Option Code
code_of p m = option_and_then (λ info. body_code info.body) (slice_get p.methods m)

-- the class of the entry at a place of a method's table stands at an address of its own, which is no
-- instruction's; an address has 32 bits
abbrev pub entry_target : Targets → ℕ → ℕ → Option Target
entry_target targets m i = if nat_lt i 4294901760 then target_at targets m (65536 + i) else None

-- the class is the target or lies below it
abbrev pub is_below_target : List ClassInfo → ℕ → Option Target → Bool
is_below_target classes c (Some (Class k)) = is_sub_of classes c k
is_below_target classes c _ = false

-- the entry at a place takes what the class throws at an address: in its range, and of any class or
-- of its class
abbrev pub takes : List ClassInfo → Targets → ℕ → ℕ → ℕ → ℕ → TableItem → Bool
takes classes targets m at c i entry = nat_le entry.start at && (nat_lt at entry.end && (entry.class == 0 || is_below_target classes c (entry_target targets m i)))

-- the handler of the first entry that does, of those from a place on
abbrev pub handler_from : List ClassInfo → Targets → ℕ → ℕ → ℕ → ℕ → List TableItem → Option ℕ
handler_from classes targets m at c i [] = None
handler_from classes targets m at c i (entry ∷ entries) = if takes classes targets m at c i entry then Some entry.handler else handler_from classes targets m at c (i + 1) entries

-- where an exception of the class goes that is raised at an address of a method
abbrev pub handler_of : Program → ℕ → ℕ → ℕ → Option ℕ
handler_of p m at c = option_and_then (λ code. handler_from p.classes p.targets m at c 0 code.table) (code_of p m)
