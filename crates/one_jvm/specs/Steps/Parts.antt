-- What the words ask for, as it is kept.
use Rattle.std.specs.Prelude.{◌≡◌, ◌⊎◌, ℕ, true, List, length, map, option_map, Some}
use Rattle.command_words.specs.Lines.{is_count}
use Rattle.one_jvm.specs.declared.outcome.Refusal.{Refusal}
use Rattle.one_jvm.specs.declared.outcome.Refusal.TheVariants.{Usage, NoMemory}
use Rattle.one_jvm.specs.declared.words.Request.{Request}
use Rattle.one_jvm.specs.Outcomes.{place_of}
use Rattle.one_jvm.specs.Words.{Asked, name_at}

-- what a request asks for
abbrev pub asked_by : Request → Asked
asked_by r = record {
  command = r.command;
  main = option_map (λ m. m.now) r.main;
  args = r.args;
  steps = r.steps;
  shows = r.shows;
  files = map (λ f. f.now) r.files.items;
}

-- there are as many files as its command may have
abbrev pub IsCounted : Asked → Type 0
IsCounted asked = is_count asked.command (length asked.files) ≡ true

-- it is no usage, as the words ask for nothing; or memory ran out
abbrev pub IsMisread : Type 0 → Refusal → Type 0
IsMisread nothing e = ((e ≡ Usage) × nothing) ⊎ (e ≡ NoMemory)

-- the name of the file at the refusal's place
abbrev pub IsNamedBy : List (List ℕ) → Refusal → List ℕ → Type 0
IsNamedBy files e name = (k : ℕ) → place_of e ≡ Some k → name ≡ name_at files k
