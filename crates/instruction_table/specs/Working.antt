-- What a row does to a frame, and the rules that it breaks there.
use Rattle.std.specs.Prelude.{ℕ, suc, ◌+◌, ◌-◌, ◌==◌, nat_lt, nat_le, Bool, true, false, not, ◌&&◌, ◌||◌, if◌then◌else◌, List, [], ◌∷◌, ◌++◌, map, take, drop, replicate, length, slice_get, slice_set, Option, Some, None}
use Rattle.jvm_base.specs.Words.{from}
use Rattle.program_image.specs.Program.{Program}
use Rattle.flow_types.specs.Tree.{superclasses, superclass}
use Rattle.flow_types.specs.Types.{type_fits}
use Rattle.flow_types.specs.declared.element.Element.{Element}
use Rattle.flow_types.specs.declared.element.Element.TheVariants.{Primitive, Object}
use Rattle.flow_types.specs.declared.flow_type.FlowType.{FlowType}
use Rattle.flow_types.specs.declared.flow_type.FlowType.TheVariants as flow
use Rattle.instruction_table.specs.ClassTypes.{owner_of, new_class}
use Rattle.instruction_table.specs.Needs.{is_int, is_long, is_high, is_reference, needs_rules}
use Rattle.instruction_table.specs.declared.row.Need.{Need}
use Rattle.instruction_table.specs.declared.row.Gives.{Gives}
use Rattle.instruction_table.specs.declared.row.Gives.TheVariants as gives
use Rattle.instruction_table.specs.declared.row.Slot.{Slot}
use Rattle.instruction_table.specs.declared.row.Slot.TheVariants as slot
use Rattle.instruction_table.specs.declared.row.Group.{Group}
use Rattle.instruction_table.specs.declared.row.Group.TheVariants as group
use Rattle.instruction_table.specs.declared.row.Row.{Row}
use Rattle.instruction_table.specs.declared.row.Row.TheVariants as row
use Rattle.instruction_table.specs.declared.work.Work.{Work}
use Rattle.instruction_table.specs.declared.rule.TheConstants as rule

-- where a frame's code stands: the tree of superclasses, the class of its method, and the class
-- that `new` at an address names
pub record Site : Type 0 where
  pub supers : List (Option ℕ)
  pub owner : ℕ
  pub news : ℕ → ℕ

-- where a method's code stands
abbrev pub site_of : Program → ℕ → Site
site_of p m = record { supers = superclasses p; owner = owner_of p m; news = new_class p m }

-- ---- how much room types take

-- a long takes two slots
abbrev pub type_slots : FlowType → ℕ
type_slots flow.Long = 2
type_slots _ = 1

-- the slots that types take together
abbrev pub slots : List FlowType → ℕ
slots [] = 0
slots (t ∷ ts) = type_slots t + slots ts

-- ---- locals

-- a type is of the kind
abbrev pub fills : Slot → FlowType → Bool
fills slot.Int t = is_int t
fills slot.Long t = is_long t
fills slot.Reference t = is_reference t

-- how many locals a kind takes
abbrev pub slot_count : Slot → ℕ
slot_count slot.Long = 2
slot_count _ = 1

-- what is broken where a local of a type is read, by the type of the next one: a long lies before
-- its second half
abbrev pub read_rules : Slot → Option FlowType → Option FlowType → List ℕ
read_rules s None next = rule.NO_LOCAL ∷ []
read_rules slot.Long (Some t) None = rule.NO_LOCAL ∷ []
read_rules slot.Long (Some t) (Some u) = if is_long t && is_high u then [] else rule.LOCAL ∷ []
read_rules s (Some t) next = if fills s t then [] else rule.LOCAL ∷ []

-- a reference as it is, or null in place of what is none
abbrev pub read_reference : FlowType → FlowType
read_reference t = if is_reference t then t else flow.Null

-- what a local that is read as of the kind gives, by its type
abbrev pub read_type : Slot → Option FlowType → FlowType
read_type slot.Int t = flow.Int
read_type slot.Long t = flow.Long
read_type slot.Reference t = from flow.Null read_reference t

-- what is broken where the newest operand is taken into a local of the kind
abbrev pub taken_rules : Slot → List FlowType → List ℕ
taken_rules s [] = rule.MISSING ∷ []
taken_rules s (t ∷ ts) = if fills s t then [] else rule.OPERAND ∷ []

-- what is broken where so many locals are needed
abbrev pub room_rules : ℕ → List FlowType → List ℕ
room_rules n locals = if nat_le n (length locals) then [] else rule.NO_LOCAL ∷ []

-- the locals once one is written; a long takes the next one too
abbrev pub written : Slot → ℕ → FlowType → List FlowType → List FlowType
written slot.Long n t locals = slice_set (slice_set locals n t) (n + 1) flow.High
written s n t locals = slice_set locals n t

-- the first type of a list, or another where there is none
abbrev pub first_or : FlowType → List FlowType → FlowType
first_or d [] = d
first_or d (t ∷ ts) = t

-- ---- operands moved about, alike for values and for types: `wide` tells which take two slots

-- how many of the newest values take two slots together
abbrev pub wide_count : {A : Type 0} → (A → Bool) → List A → ℕ
wide_count wide [] = 2
wide_count wide (x ∷ xs) = if wide x then 1 else 2

-- how many values a group has
abbrev pub group_count : {A : Type 0} → (A → Bool) → Group → List A → ℕ
group_count wide group.Nothing xs = 0
group_count wide group.One xs = 1
group_count wide group.Wide xs = wide_count wide xs

-- how many slots a group takes
abbrev pub group_slots : Group → ℕ
group_slots group.Nothing = 0
group_slots group.One = 1
group_slots group.Wide = 2

-- a copy of the k newest put below the n that lie under them
abbrev pub doubled : {A : Type 0} → ℕ → ℕ → List A → List A
doubled k n xs = take k xs ++ (take n (drop k xs) ++ (take k xs ++ drop n (drop k xs)))

-- the two newest, turned
abbrev pub swapped : {A : Type 0} → List A → List A
swapped (x ∷ y ∷ xs) = y ∷ x ∷ xs
swapped xs = xs

-- what is broken where one value of one slot is needed
abbrev pub one_rules : List FlowType → List ℕ
one_rules [] = rule.MISSING ∷ []
one_rules (t ∷ ts) = if is_long t then rule.OPERAND ∷ [] else []

-- what is broken where a long is needed, or two values of one slot each
abbrev pub wide_rules : List FlowType → List ℕ
wide_rules [] = rule.MISSING ∷ []
wide_rules (t ∷ ts) = if is_long t then [] else one_rules ts

-- what is broken where a group is needed: a value is missing, or a long is split
abbrev pub group_rules : Group → List FlowType → List ℕ
group_rules group.Nothing ts = []
group_rules group.One ts = one_rules ts
group_rules group.Wide ts = wide_rules ts

-- the values below a group
abbrev pub under : Group → List FlowType → List FlowType
under g ts = drop (group_count is_long g ts) ts

-- what is broken where a group is needed and another one below it
abbrev pub both_rules : Group → Group → List FlowType → List ℕ
both_rules top below ts = group_rules top ts ++ group_rules below (under top ts)

-- no rule is broken
abbrev pub is_empty : List ℕ → Bool
is_empty [] = true
is_empty (r ∷ rs) = false

-- a copy of the top group put below the one under it; where the two aren't whole, as many slots as
-- they would take then
abbrev pub doubled_types : Group → Group → List FlowType → List FlowType
doubled_types top below ts =
    if is_empty (both_rules top below ts)
    then doubled (group_count is_long top ts) (group_count is_long below (under top ts)) ts
    else replicate (group_slots top + (group_slots below + group_slots top)) flow.Null
    ++ under below (under top ts)

-- ---- what is pushed

-- the type of an element of an array of references
abbrev pub part_of : ℕ → Element → FlowType
part_of d (Primitive k) = flow.Array (d - 1) (Primitive k)
part_of d (Object c) = if nat_lt 1 d then flow.Array (d - 1) (Object c) else flow.Class c

-- the type of an element of such an array; of null it is null
abbrev pub part_type : FlowType → FlowType
part_type flow.Null = flow.Null
part_type (flow.Array d e) = part_of d e
part_type t = flow.Unusable

-- what is pushed, by the operands before; an array lies below its index
abbrev pub given : Gives → List FlowType → List FlowType
given gives.Nothing ts = []
given (gives.One t) ts = t ∷ []
given gives.Part ts = part_type (first_or flow.Null (drop 1 ts)) ∷ []

-- ---- initialising

-- two types are of one uninitialised object
abbrev pub is_same_new : FlowType → FlowType → Bool
is_same_new (flow.Fresh a) (flow.Fresh b) = a == b
is_same_new flow.FreshThis flow.FreshThis = true
is_same_new _ _ = false

-- the type of an uninitialised object once it is initialised
abbrev pub new_type : Site → FlowType → FlowType
new_type s (flow.Fresh at) = flow.Class (s.news at)
new_type s t = flow.Class s.owner

-- a type, where that of an object that was uninitialised is another now
abbrev pub begun_one : FlowType → FlowType → FlowType → FlowType
begun_one was now t = if is_same_new was t then now else t

-- each copy of an uninitialised type made an initialised one
abbrev pub begun : FlowType → FlowType → List FlowType → List FlowType
begun was now ts = map (begun_one was now) ts

-- the class itself, or its direct superclass
abbrev pub is_own_or_super : Site → ℕ → Bool
is_own_or_super s c = c == s.owner || from false (λ up. c == up) (superclass s.supers s.owner)

-- what an operand breaks that is no uninitialised object: an initialised reference two rules, where
-- it doesn't fit
abbrev pub fitting_rules : Site → ℕ → FlowType → List ℕ
fitting_rules s c t =
    if is_reference t
    then rule.INITIALISER
    ∷ (if type_fits s.supers t (flow.Class c) then [] else rule.REFERENCE ∷ [])
    else rule.OPERAND ∷ []

-- what an object breaks on which an initialiser of the class is called
abbrev pub init_rules : Site → ℕ → FlowType → List ℕ
init_rules s c (flow.Fresh at) = if s.news at == c then [] else rule.INITIALISER ∷ []
init_rules s c flow.FreshThis = if is_own_or_super s c then [] else rule.INITIALISER ∷ []
init_rules s c t = fitting_rules s c t

-- what the newest operand breaks on which an initialiser of the class is called
abbrev pub inits_rules : Site → ℕ → List FlowType → List ℕ
inits_rules s c [] = rule.MISSING ∷ []
inits_rules s c (t ∷ ts) = init_rules s c t

-- a constructor's uninitialised receiver
abbrev pub is_fresh_this : FlowType → Bool
is_fresh_this flow.FreshThis = true
is_fresh_this _ = false

-- what a return breaks: it must be of the result, and a constructor must have called another
abbrev pub end_rules : Bool → Bool → List ℕ
end_rules fine fresh =
    (if fine then [] else rule.RETURN ∷ []) ++ (if fresh then rule.INITIALISER ∷ [] else [])

-- ---- rows

-- how many values a row takes or needs
abbrev pub takes : Row → List FlowType → ℕ
takes (row.Acts needs g) ts = length needs
takes (row.Reads s n) ts = 0
takes (row.Writes s n) ts = 1
takes (row.Bumps n) ts = 0
takes (row.Drops g) ts = group_count is_long g ts
takes (row.Doubles top below) ts =
    group_count is_long top ts + group_count is_long below (under top ts)
takes row.Swaps ts = 2
takes (row.Inits needs c g) ts = suc (length needs)
takes (row.Ends needs fine) ts = length needs

-- the rules that a row breaks in a frame, but those on depth and on where control goes
abbrev pub row_rules : Site → Row → Work → List ℕ
row_rules s (row.Acts needs g) w = needs_rules s.supers s.owner needs w.stack
row_rules s (row.Reads k n) w =
    read_rules k (slice_get w.locals n) (slice_get w.locals (n + 1))
row_rules s (row.Writes k n) w =
    taken_rules k w.stack ++ room_rules (n + slot_count k) w.locals
row_rules s (row.Bumps n) w = read_rules slot.Int (slice_get w.locals n) None
row_rules s (row.Drops g) w = group_rules g w.stack
row_rules s (row.Doubles top below) w = both_rules top below w.stack
row_rules s row.Swaps w = both_rules group.One group.One w.stack
row_rules s (row.Inits needs c g) w =
    needs_rules s.supers s.owner needs w.stack ++ inits_rules s c (drop (length needs) w.stack)
row_rules s (row.Ends needs fine) w =
    needs_rules s.supers s.owner needs w.stack ++ end_rules fine w.fresh

-- a frame with other operands
abbrev pub with_stack : Work → List FlowType → Work
with_stack w ts = record { locals = w.locals; stack = ts; fresh = w.fresh }

-- the newest operand taken into a local
abbrev pub written_work : Slot → ℕ → Work → Work
written_work k n w = record {
  locals = written k n (first_or flow.Unusable w.stack) w.locals;
  stack = drop 1 w.stack;
  fresh = w.fresh;
}

-- each copy of the object's type made an initialised one
abbrev pub begun_all : Site → FlowType → Work → Work
begun_all s was w = record {
  locals = begun was (new_type s was) w.locals;
  stack = begun was (new_type s was) w.stack;
  fresh = w.fresh && not (is_fresh_this was);
}

-- with what operands give
abbrev pub giving : Gives → List FlowType → Work → Work
giving g ts w = with_stack w (given g ts ++ w.stack)

-- the row of a call of an initialiser
abbrev pub inits : List Need → ℕ → Gives → Row
inits needs c g = row.Inits needs c g

-- the frame after a row
abbrev pub next : Site → Row → Work → Work
next s (row.Acts needs g) w =
    with_stack w (given g w.stack ++ drop (length needs) w.stack)
next s (row.Reads k n) w = with_stack w (read_type k (slice_get w.locals n) ∷ w.stack)
next s (row.Writes k n) w = written_work k n w
next s (row.Bumps n) w = w
next s (row.Drops g) w = with_stack w (under g w.stack)
next s (row.Doubles top below) w = with_stack w (doubled_types top below w.stack)
next s row.Swaps w = with_stack w (swapped w.stack)
next s (row.Inits needs c g) w =
    let below = drop (length needs) w.stack in
    giving g w.stack (begun_all s (first_or flow.Null below) (with_stack w (drop 1 below)))
next s (row.Ends needs fine) w = with_stack w (drop (length needs) w.stack)
