-- What was taken off a stack as a group: the code's view.
use Rattle.std.specs.Prelude.{◌≡◌, ℕ, List, [], ◌∷◌, take}
use Rattle.flow_types.specs.declared.flow_type.FlowType.{FlowType}
use Rattle.instruction_table.specs.Needs.{is_long}
use Rattle.instruction_table.specs.Working.{group_rules, one_rules, group_count}
use Rattle.instruction_table.specs.declared.row.Group.{Group}
use Rattle.instruction_table.specs.declared.stack.Taken.{Taken}
use Rattle.instruction_table.specs.declared.stack.Taken.TheVariants.{One, Two, Missing, Split}
use Rattle.instruction_table.specs.declared.rule.TheConstants as rule

-- the values that were taken, the newest first
abbrev pub values : Taken → List FlowType
values (One t) = t ∷ []
values (Two t u) = t ∷ u ∷ []
values _ = []

-- the rules that are broken where it isn't whole
abbrev pub broken : Taken → List ℕ
broken Missing = rule.MISSING ∷ []
broken Split = rule.OPERAND ∷ []
broken _ = []

-- a group that is whole has these values
abbrev pub IsWhole : List ℕ → List FlowType → List FlowType → Type 0
IsWhole [] vs ts = vs ≡ ts
IsWhole (r ∷ rs) vs ts = Unit {0}

-- it was taken off these types as the group
pub record IsTaken (g : Group) (ts : List FlowType) (taken : Taken) : Type 0 where
  pub rules : broken taken ≡ group_rules g ts
  pub whole : IsWhole (broken taken) (values taken) (take (group_count is_long g ts) ts)

-- the second of a pair, with its first
pub record IsPair (first : FlowType) (ts : List FlowType) (taken : Taken) : Type 0 where
  pub rules : broken taken ≡ one_rules ts
  pub whole : IsWhole (broken taken) (values taken) (first ∷ take 1 ts)
