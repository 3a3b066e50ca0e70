-- What classes meet that no program has: a number past all classes is below itself alone.
use Rattle.std.proofs.Common.{◌≡◌, ℕ, zero, suc, ◌+◌, ◌<◌, ◌≤◌, ◌==◌, Bool, true, false, not, ◌&&◌, ◌||◌, List, [], ◌∷◌, length, map, Option, Some, None, refl, ap, ◌∙◌, arith}
use Rattle.std.specs.Prelude.{slice_get, if◌then◌else◌, nat_le, nat_lt, option_and_then}
use Rattle.std.proofs.lemmas.Bool.Decides.{nat_tests}
use Rattle.std.proofs.lemmas.Option.{slice_get_past}
use Rattle.std.proofs.lemmas.List.{length-map}
use Rattle.jvm_base.specs.Words.{from}
use Rattle.jvm_base.specs.declared.code_item.TableItem.{TableItem}
use Rattle.code_table.specs.declared.code.Code.{Code}
use Rattle.hierarchy.specs.Hierarchy.{row_of}
use Rattle.hierarchy.specs.Walks.{walk, all_from, first_some}
use Rattle.program_image.specs.declared.info.ClassInfo.{ClassInfo}
use Rattle.program_image.specs.declared.info.MethodInfo.{MethodInfo}
use Rattle.program_image.specs.declared.info.Target.{Target}
use Rattle.program_image.specs.declared.info.Target.TheVariants.{Field, Method, Class, Constant}
use Rattle.program_image.specs.declared.select.Selected.TheVariants.{NoBody, NoInterface}
use Rattle.program_image.specs.Program.{Program, target_of}
use Rattle.program_image.specs.Places.{target_at}
use Rattle.program_image.specs.Subclass.{above, both, part_in, part_of, sub_by, is_sub_of}
use Rattle.program_image.specs.Selection.{is_accessible, over_class, supers, open_in, declared_by, found_up, chosen, select_of}
use Rattle.program_image.specs.Handlers.{code_of, is_below_target, handler_from, handler_of}
use Rattle.instruction_table.specs.ClassTypes.{class_in, owner_of}
use Rattle.program_reads.specs.Past.{any_handler}
use Rattle.program_reads.specs.Whole.{IsWhole}

-- nothing is above it
no_row : (rows : List (List ℕ)) (c : ℕ) → length rows ≤ c → row_of rows c ≡ []
no_row [] c h = refl
no_row (row ∷ rows) zero h = absurd (omega arith)
no_row (row ∷ rows) (suc c) h = no_row rows c (omega arith)

no_part : (classes : List ClassInfo) (c : ℕ) → length classes ≤ c → part_of classes c ≡ None
no_part classes c h = ap (from None part_in) (slice_get_past classes c h)

both_none : (f : ℕ → ℕ → Bool) (q : Option ℕ) → both f None q ≡ false
both_none f q = refl

or_false : (b : Bool) → (b || false) ≡ b
or_false true = refl
or_false false = refl

pub sub_past : (classes : List ClassInfo) (low high : ℕ) → length classes ≤ low → is_sub_of classes low high ≡ (low == high)
unfolding is_sub_of sub_by
sub_past classes low high h =
    let rows : row_of (map above classes) low ≡ [] = no_row (map above classes) low (simp length-map h) in
    rw (rows, no_part classes low h) (or_false (low == high))

walk_past : (k : ℕ) (rows : List (List ℕ)) (c : ℕ) → length rows ≤ c → walk (suc k) rows c ≡ c ∷ []
unfolding walk
walk_past k rows c h = rw (no_row rows c h) refl

supers_past : (classes : List ClassInfo) (c : ℕ) → length classes ≤ c → supers classes c ≡ c ∷ []
unfolding all_from
supers_past classes c h =
    let rows = map over_class classes in
    let e : length rows + 2 ≡ suc (length rows + 1) = omega arith in
    rw e (walk_past (length rows + 1) rows c (simp length-map h))

either_none : (b : Bool) → ◌≡◌ {A = Option ℕ} (if b then None else None) None
either_none true = refl
either_none false = refl

open_past : (classes : List ClassInfo) (methods : List MethodInfo) (called c : ℕ) → length classes ≤ c → open_in classes methods called c ≡ None
open_past classes methods called c h =
    let none : declared_by classes methods called c ≡ None = rw (slice_get_past classes c h) refl in
    rw none (either_none (from false (λ m. is_accessible classes m c) (slice_get methods called)))

found_past : (classes : List ClassInfo) (methods : List MethodInfo) (called c : ℕ) → length classes ≤ c → found_up classes methods called c ≡ None
found_past classes methods called c h =
    ap (first_some (open_in classes methods called)) (supers_past classes c h) ∙ rw (open_past classes methods called c h) refl

pub select_past : (p : Program) (c called : ℕ) (interface : Bool) → length p.classes ≤ c → select_of p.classes p.methods c called interface ≡ (if interface && not (c == owner_of p called) then NoInterface else NoBody)
select_past p c called interface h =
    ap (λ b. if interface && not b then NoInterface else from NoBody (λ m. chosen interface m (slice_get p.methods m)) (found_up p.classes p.methods called c)) (sub_past p.classes c (owner_of p called) h)
    ∙ ap (λ o. if interface && not (c == owner_of p called) then NoInterface else from NoBody (λ m. chosen interface m (slice_get p.methods m)) o) (found_past p.classes p.methods called c h)

apart : (c k n : ℕ) → k < n → n ≤ c → (c == k) ≡ false
apart c k n h l = grind (arith, nat_tests)

below_past : (p : Program) (c : ℕ) (o : Option Target) → length p.classes ≤ c → class_in o < length p.classes → is_below_target p.classes c o ≡ false
below_past p c (Some (Class k)) h l = sub_past p.classes c k h ∙ apart c k (length p.classes) l h
below_past p c (Some (Field class place fixed)) h l = refl
below_past p c (Some (Method m)) h l = refl
below_past p c (Some (Constant v)) h l = refl
below_past p c None h l = refl

entry_past : (p : Program) (m c i : ℕ) (b : Bool) → IsWhole p → length p.classes ≤ c → is_below_target p.classes c (if b then target_at p.targets m (65536 + i) else None) ≡ false
entry_past p m c i true w h = below_past p c (target_of p m (65536 + i)) h (w.classes_in m (65536 + i))
entry_past p m c i false w h = refl

any_from : (p : Program) (m at c i : ℕ) (es : List TableItem) → IsWhole p → length p.classes ≤ c → handler_from p.classes p.targets m at c i es ≡ any_handler at es
any_from p m at c i [] w h = refl
any_from p m at c i (x ∷ es) w h =
    ap (λ b. if nat_le x.start at && (nat_lt at x.end && (x.class == 0 || b)) then Some x.handler else handler_from p.classes p.targets m at c (i + 1) es) (entry_past p m c i (nat_lt i 4294901760) w h)
    ∙ ap (λ b. if nat_le x.start at && (nat_lt at x.end && b) then Some x.handler else handler_from p.classes p.targets m at c (i + 1) es) (or_false (x.class == 0))
    ∙ ap (λ o. if nat_le x.start at && (nat_lt at x.end && x.class == 0) then Some x.handler else o) (any_from p m at c (i + 1) es w h)

pub handler_past : (p : Program) (m at c : ℕ) (code : Code) → IsWhole p → code_of p m ≡ Some code → length p.classes ≤ c → handler_of p m at c ≡ any_handler at code.table
handler_past p m at c code w e h = ap (option_and_then (λ k. handler_from p.classes p.targets m at c 0 k.table)) e ∙ any_from p m at c 0 code.table w h
