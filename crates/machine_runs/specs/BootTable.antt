-- The linked boot classes against the table of boot classes.
use Rattle.std.specs.Prelude.{◌≡◌, ℕ, List, [], map, Option, option_and_then, Some, slice_get}
use Rattle.std.specs.List.{flat_map}
use Rattle.boot_table.specs.Rows.{Row, Method}
use Rattle.boot_table.specs.Table.{boot_rows}
use Rattle.jvm_base.specs.Words.{from}
use Rattle.program_image.specs.declared.info.ClassInfo.{ClassInfo}
use Rattle.program_image.specs.declared.info.MethodInfo.{MethodInfo}
use Rattle.machine_runs.specs.Boot.{boot_classes, boot_methods}

-- the name of a class of a number
abbrev pub name_at : ℕ → List ℕ
name_at c = from [] (λ k. k.name) (slice_get boot_classes c)

-- the name, flags, superclass, interfaces and fields of a class, as the program has them
abbrev pub class_head : ClassInfo → List ℕ × ℕ × Option (List ℕ) × List (List ℕ) × List (ℕ × List ℕ)
class_head k =
    (k.name, k.flags, option_and_then (λ c. Some (name_at c)) k.super_class, map name_at k.interfaces, map (λ f. (f.flags, f.name)) k.fields)

-- and as the table has them
abbrev pub row_head : Row → List ℕ × ℕ × Option (List ℕ) × List (List ℕ) × List (ℕ × List ℕ)
row_head r = (r.name, r.flags, r.super_class, r.interfaces, map (λ f. (f.flags, f.name)) r.fields)

-- flags and names of methods
abbrev pub method_head : MethodInfo → ℕ × List ℕ
method_head m = (m.flags, m.name)

-- and as the table has them
abbrev pub row_methods : Row → List (ℕ × List ℕ)
row_methods r = map (λ m. row_method m) r.methods
  where
    row_method : Method → ℕ × List ℕ
    row_method m = (m.flags, m.name)

-- classes and methods are the table's
pub record BootIsTheTable : Type 0 where
  pub classes : map class_head boot_classes ≡ map row_head boot_rows
  pub methods : map method_head boot_methods ≡ flat_map row_methods boot_rows
