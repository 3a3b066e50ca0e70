-- The text of an order. The grammar is this project's own.
use Rattle.std.specs.Prelude.{◌≡◌, ◌<◌, ◌^◌, ℕ, List, [], ◌∷◌, ◌++◌, map, codes, decimal}
use Rattle.std.specs.List.{concat, AllByRecursion}
use Rattle.jvm_base.specs.declared.name.Name.{Name}
use Rattle.machine_state.specs.declared.state.Choice.{Choice}

-- ---- bytes

-- ` `
abbrev pub space : ℕ
space = 32

-- `.`
abbrev pub dot : ℕ
dot = 46

-- LF, at the end of each line
abbrev pub line_end : ℕ
line_end = 10

-- ---- lines

-- the first line
abbrev pub head_line : List ℕ
head_line = codes "cjvm-order 1\n"

-- the last line
abbrev pub end_line : List ℕ
end_line = codes "end\n"

-- a number in decimal, and the byte behind it
abbrev pub field : ℕ → ℕ → List ℕ
field n behind = decimal n ++ behind ∷ []

-- a name, dots between its parts, at the end of a line
abbrev pub name_end : Name → List ℕ
name_end n = concat (field n.node dot ∷ field n.class dot ∷ field n.index line_end ∷ [])

-- thread and pick, each with a space behind it, and the name
abbrev pub choice_line : Choice → List ℕ
choice_line c = concat (field c.thread space ∷ field c.pick space ∷ name_end c.name ∷ [])

-- a line for each choice, between the first and the last
abbrev pub order_lines : List Choice → List (List ℕ)
order_lines order = head_line ∷ map choice_line order ++ end_line ∷ []

-- the lines one behind the other
abbrev pub order_text : List Choice → List ℕ
order_text order = concat (order_lines order)

-- ---- what has a text

-- a class's number has 24 bits
abbrev pub HasClass : Choice → Type 0
HasClass c = c.name.class < 2 ^ 24

-- a name's numbers are in range
pub record IsName (n : Name) : Type 0 where
  pub node : n.node < 2 ^ 8
  pub class : n.class < 2 ^ 24
  pub index : n.index < 2 ^ 32

-- a choice's numbers are in range
pub record IsChoice (c : Choice) : Type 0 where
  pub thread : c.thread < 2 ^ 32
  pub pick : c.pick < 2 ^ 32
  pub name : IsName c.name

-- choices that have a line
abbrev pub AreChoices : List Choice → Type 0
AreChoices order = AllByRecursion IsChoice order

-- the text is this order's
pub record IsOrderText (text : List ℕ) (order : List Choice) : Type 0 where
  pub choices : AreChoices order
  pub spelled : text ≡ order_text order
