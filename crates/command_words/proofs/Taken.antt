-- What clap says of a parse is what the line says of the words.
use Rattle.std.proofs.Common.{◌≡◌, inl, inr, true, List, [], ◌∷◌, None, refl, sym, ap, ap₂, ◌∙◌}
use Rattle.clap.specs.Words.{App, HasKind, Kinds, Row, Text, fault_of, is_simple, is_simple_and_free, kind_of, matches_of}
use Rattle.clap.specs.declared.error.Error.{Error}
use Rattle.clap.specs.declared.error.kind.ErrorKind.TheVariants as kind
use Rattle.clap.proofs.OnLiterals.{clap_on_literals}
use Rattle.command_words.specs.declared.words.Command.{Command}
use Rattle.command_words.specs.declared.words.Command.TheVariants.{Run, Check, Replay}
use Rattle.command_words.specs.Apps.{app_for}
use Rattle.command_words.specs.Lines.{line_in, line_for, line_unless}

-- clap tells all of these commands
simple : (c : Command) → is_simple (app_for c) ≡ true
unfolding clap_on_literals
simple Run = refl
simple Check = refl
simple Replay = refl

free : (c : Command) → is_simple_and_free (app_for c) ≡ true
unfolding clap_on_literals
free Run = refl
free Check = refl
free Replay = refl

-- where clap finds no fault
pub taken : (c : Command) (a : App) (words : List Text) (rows : List Row) (Rest : Type 0) → a ≡ app_for c → (is_simple a ≡ true → (rows ≡ matches_of a words) × Rest) → (is_simple_and_free a ≡ true → fault_of a words ≡ []) → line_for c words ≡ line_in c rows
unfolding line_for
taken c a words rows Rest e has faultless =
    let none : fault_of (app_for c) words ≡ [] = ap (λ (b : App). fault_of b words) (sym e) ∙ faultless (ap is_simple_and_free e ∙ free c) in
    let same : matches_of (app_for c) words ≡ rows = ap (λ (b : App). matches_of b words) (sym e) ∙ sym (has (ap is_simple e ∙ simple c)).0 in
    ap₂ (line_unless c) none same

faulty : (c : Command) (kinds : Kinds) (rows : List Row) (error : Error) → HasKind kinds error → (kind_of error ≡ kind.OutOfMemory → ⊥) → line_unless c kinds rows ≡ None
faulty c [] rows error (inl e) not = absurd (not e)
faulty c [] rows error (inr e) not = absurd e
faulty c (k ∷ ks) rows error h not = refl

-- where it finds one
pub refused : (c : Command) (a : App) (words : List Text) (error : Error) → a ≡ app_for c → (is_simple_and_free a ≡ true → HasKind (fault_of a words) error) → (kind_of error ≡ kind.OutOfMemory → ⊥) → line_for c words ≡ None
unfolding line_for
refused c a words error e has not =
    let at : line_unless c (fault_of a words) (matches_of (app_for c) words) ≡ None = faulty c (fault_of a words) (matches_of (app_for c) words) error (has (ap is_simple_and_free e ∙ free c)) not in
    ap (λ (b : App). line_unless c (fault_of b words) (matches_of (app_for c) words)) (sym e) ∙ at
