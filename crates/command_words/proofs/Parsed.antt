-- One to nine digits are parsed.
use Rattle.std.proofs.Common.{◌≡◌, ℕ, ◌&&◌, Bool, true, false, true≢false, List, length, Result, Ok, refl, sym, rules, arith}
use Rattle.std.specs.Prelude.{nat_le}
use Rattle.std.specs.Char.{is_ascii_digit}
use Rattle.std.specs.List.{list_all}
use Rattle.std.specs.Str.Parse.{ParsesUnsigned, digits_value}
use Rattle.std.proofs.lemmas.Bool.{leb-true}
use Rattle.std.proofs.lemmas.Str.Parse.{IsNumeralModel, numerals_by_value, parse_gives, digits_value_short}
use Rattle.command_words.specs.Numbers.{is_number}

own : IsNumeralModel (λ ds. list_all is_ascii_digit ds ≡ true) (digits_value 10)
own = numerals_by_value _ (search rules)

both : (a b : Bool) → (a && b) ≡ true → (a ≡ true) × (b ≡ true)
both true b e = (refl, e)
both false b e = absurd (true≢false (sym e))

pub number_parsed : {E : Type 0} (text : List ℕ) (r : Result ℕ E) → ParsesUnsigned 32 10 text r → is_number text ≡ true → r ≡ Ok (digits_value 10 text)
number_parsed text r h e =
    let outer = both (nat_le 1 (length text)) _ e in
    let inner = both (nat_le (length text) 9) _ outer.1 in
    let low = leb-true 1 (length text) outer.0 in
    let high = leb-true (length text) 9 inner.0 in
    let small = digits_value_short own text 9 inner.1 high in
    parse_gives own 32 text r h inner.1 (omega arith) (omega arith)
