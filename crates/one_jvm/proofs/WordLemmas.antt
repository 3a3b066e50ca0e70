-- What words ask for.
use Rattle.std.proofs.Common.{◌≡◌, ℕ, ◌≤◌, ◌<◌, ◌==◌, Bool, true, false, ◌&&◌, nat_le, List, [], ◌∷◌, ◌++◌, length, Option, Some, None, refl, sym, ap, subst, ◌∙◌, codes, if◌then◌else◌, append-nil, append_assoc, arith}
use Rattle.std.specs.Prelude.{option_map, unwrap_or}
use Rattle.std.specs.Char.Escape.{encode_utf16}
use Rattle.std.proofs.lemmas.Bool.{leb-true, eq-eqb, ne_eqb}
use Rattle.clap.specs.Words.{Row, Kinds, Text, first_of, all_of, fault_of, matches_of}
use Rattle.command_words.specs.Apps.{app_for}
use Rattle.command_words.specs.Numbers.{steps_of}
use Rattle.command_words.specs.Lines.{Line, is_count, are_short, shows_of, line_with, line_of_files, line_unless, line_for, line_behind, command_of, line_of}
use Rattle.command_words.specs.declared.words.Command.{Command}
use Rattle.command_words.specs.declared.words.Command.TheVariants.{Run, Check, Replay}
use Rattle.machine_state.proofs.NameTests.{some_is}
use Rattle.one_jvm.specs.Words.{Asked, with_front, strings_of, asked_in, IsCall, AskFor}
use Rattle.one_jvm.specs.Steps.Parts.{IsCounted}

-- words ask for one thing
pub one_call : (words : List (List ℕ)) (a b : Asked) → IsCall words a → IsCall words b → a ≡ b
one_call words a b h k = let both : Some a ≡ Some b = sym h ∙ k in cc

-- and for one command
pub one_command : (words : List (List ℕ)) (a : Asked) (c d : Command) → IsCall words a → a.command ≡ c → AskFor d words → c ≡ d
one_command words a c d h e k = sym e ∙ ap (λ (x : Asked). x.command) (one_call words a k.0 h k.1) ∙ k.2

-- ---- how many files there are

-- both tests hold
both_hold : (a b : Bool) → (a && b) ≡ true → (a ≡ true) × (b ≡ true)
both_hold true true e = (refl, refl)
both_hold true false e = absurd cc
both_hold false b e = absurd cc

-- a line has the files that it was made with
files_with : (command : Command) (rows : List Row) (files : List Text) (steps : Option ℕ) (shows : Option Bool) (line : Line) → line_with command rows files steps shows ≡ Some line → (line.command ≡ command) × (line.files ≡ files)
files_with command rows files (Some n) (Some b) line e = (cc, cc)
files_with command rows files None shows line e = absurd cc
files_with command rows files (Some n) None line e = absurd cc

-- as many as its command may have
abbrev Counted : Line → Type 0
Counted line = is_count line.command (length line.files) ≡ true

counted_files : (command : Command) (rows : List Row) (files : List Text) (line : Line) → line_of_files command rows files ≡ Some line → Counted line
counted_files command rows files line e = by_test (is_count command (length files) && are_short (first_of (codes "args") rows)) refl e
  where
    by_test : (b : Bool) → (is_count command (length files) && are_short (first_of (codes "args") rows)) ≡ b → (if b then line_with command rows files (steps_of (first_of (codes "steps") rows)) (shows_of (first_of (codes "show") rows)) else None) ≡ Some line → Counted line
    by_test true h f =
        let r = files_with command rows files (steps_of (first_of (codes "steps") rows)) (shows_of (first_of (codes "show") rows)) line f in
        rw (r.0, r.1) (both_hold (is_count command (length files)) (are_short (first_of (codes "args") rows)) h).0
    by_test false h f = absurd cc

counted_unless : (command : Command) (kinds : Kinds) (rows : List Row) (line : Line) → line_unless command kinds rows ≡ Some line → Counted line
counted_unless command [] rows line e = counted_files command rows (unwrap_or (all_of (codes "FILE") rows) []) line e
counted_unless command (k ∷ ks) rows line e = absurd cc

counted_for : (command : Command) (words : List Text) (line : Line) → line_for command words ≡ Some line → Counted line
unfolding line_for
counted_for command words line e = counted_unless command (fault_of (app_for command) words) (matches_of (app_for command) words) line e

counted_behind : (command : Option Command) (words : List Text) (line : Line) → line_behind command words ≡ Some line → Counted line
counted_behind None words line e = absurd cc
counted_behind (Some command) words line e = counted_for command words line e

counted : (words : List Text) (line : Line) → line_of words ≡ Some line → Counted line
counted [] line e = absurd cc
counted (word ∷ words) line e = counted_behind (command_of word) words line e

-- and a call's
pub counted_call : (words : List (List ℕ)) (a : Asked) → IsCall words a → IsCounted a
counted_call words a h = by_line (line_of words) refl h
  where
    by_line : (o : Option Line) → line_of words ≡ o → option_map asked_in o ≡ Some a → IsCounted a
    by_line None e f = absurd cc
    by_line (Some line) e f = subst IsCounted (some_is f) (counted words line e)

-- a run or a check has 1,024 at most, and a replay one more
pub counted_few : (a : Asked) → IsCounted a → length a.files ≤ 1025
counted_few a c = by_command a.command (length a.files) c
  where
    by_command : (command : Command) (n : ℕ) → is_count command n ≡ true → n ≤ 1025
    by_command Run n e = let l = leb-true n 1024 (both_hold (nat_le 1 n) (nat_le n 1024) e).1 in omega arith
    by_command Check n e = let l = leb-true n 1024 (both_hold (nat_le 1 n) (nat_le n 1024) e).1 in omega arith
    by_command Replay n e = leb-true n 1025 (both_hold (nat_le 2 n) (nat_le n 1025) e).1

-- each has a file
pub counted_some : (a : Asked) → IsCounted a → 0 < length a.files
counted_some a c = by_command a.command (length a.files) c
  where
    by_command : (command : Command) (n : ℕ) → is_count command n ≡ true → 0 < n
    by_command Run n e = let l = leb-true 1 n (both_hold (nat_le 1 n) (nat_le n 1024) e).0 in omega arith
    by_command Check n e = let l = leb-true 1 n (both_hold (nat_le 1 n) (nat_le n 1024) e).0 in omega arith
    by_command Replay n e = let l = leb-true 2 n (both_hold (nat_le 2 n) (nat_le n 1025) e).0 in omega arith

-- ---- the strings of a word

-- nothing in front
pub front_none : (ss : List (List ℕ)) → with_front [] ss ≡ ss
front_none [] = refl
front_none (s ∷ ss) = refl

-- one front before another
pub front_twice : (a b : List ℕ) (ss : List (List ℕ)) → with_front (a ++ b) ss ≡ with_front a (with_front b ss)
front_twice a b [] = refl
front_twice a b (s ∷ ss) = ap (λ (z : List ℕ). z ∷ ss) (append_assoc a b s)

-- some strings and the front of the next one are those of the characters so far, whatever follows
pub record Splits (strings : List (List ℕ)) (last done : List ℕ) : Type 0 where
  pub so_far : (rest : List ℕ) → strings ++ with_front last (strings_of rest) ≡ strings_of (done ++ rest)

-- before the first character
pub splits_none : Splits [] [] []
splits_none = record { so_far = λ rest. front_none (strings_of rest) }

-- one character more
shifted : (done rest : List ℕ) (c : ℕ) → strings_of (done ++ c ∷ rest) ≡ strings_of ((done ++ c ∷ []) ++ rest)
shifted done rest c = ap strings_of (sym (append_assoc done (c ∷ []) rest))

-- a comma
pub splits_comma : (strings : List (List ℕ)) (last done : List ℕ) (c : ℕ) → c ≡ 44 → Splits strings last done → Splits (strings ++ last ∷ []) [] (done ++ c ∷ [])
splits_comma strings last done c e h = record {
  so_far = λ rest.
      let comma : strings_of (c ∷ rest) ≡ [] ∷ strings_of rest = ap (λ (b : Bool). if b then [] ∷ strings_of rest else with_front (encode_utf16 c) (strings_of rest)) (eq-eqb c 44 e) in
      ap (λ (z : List (List ℕ)). (strings ++ last ∷ []) ++ z) (front_none (strings_of rest))
      ∙ append_assoc strings (last ∷ []) (strings_of rest)
      ∙ ap (λ (z : List ℕ). strings ++ z ∷ strings_of rest) (sym (append-nil last))
      ∙ ap (λ (z : List (List ℕ)). strings ++ with_front last z) (sym comma)
      ∙ h.so_far (c ∷ rest) ∙ shifted done rest c;
}

-- another character
pub splits_other : (strings : List (List ℕ)) (last done : List ℕ) (c : ℕ) → (c ≡ 44 → ⊥) → Splits strings last done → Splits strings (last ++ encode_utf16 c) (done ++ c ∷ [])
splits_other strings last done c n h = record {
  so_far = λ rest.
      let other : strings_of (c ∷ rest) ≡ with_front (encode_utf16 c) (strings_of rest) = ap (λ (b : Bool). if b then [] ∷ strings_of rest else with_front (encode_utf16 c) (strings_of rest)) (ne_eqb c 44 n) in
      ap (λ (z : List (List ℕ)). strings ++ z) (front_twice last (encode_utf16 c) (strings_of rest))
      ∙ ap (λ (z : List (List ℕ)). strings ++ with_front last z) (sym other)
      ∙ h.so_far (c ∷ rest) ∙ shifted done rest c;
}

-- behind the last one
pub splits_all : (strings : List (List ℕ)) (last done : List ℕ) → Splits strings last done → strings ++ last ∷ [] ≡ strings_of done
splits_all strings last done h =
    ap (λ (z : List ℕ). strings ++ z ∷ []) (sym (append-nil last)) ∙ h.so_far [] ∙ ap strings_of (append-nil done)
