-- Numbers in words.
use Rattle.std.specs.Prelude.{ℕ, ◌&&◌, Bool, List, length, Option, Some, None, nat_le, if◌then◌else◌}
use Rattle.std.specs.Char.{is_ascii_digit}
use Rattle.std.specs.List.{list_all}
use Rattle.std.specs.Str.Parse.{digits_value}

-- one to nine decimal digits
abbrev pub is_number : List ℕ → Bool
is_number text = nat_le 1 (length text) && (nat_le (length text) 9 && list_all is_ascii_digit text)

-- the number that they write
abbrev pub number_of : List ℕ → Option ℕ
number_of text = if is_number text then Some (digits_value 10 text) else None

-- a number from 1 to 50,000,000
abbrev pub within : Option ℕ → Option ℕ
within None = None
within (Some n) = if nat_le 1 n && nat_le n 50000000 then Some n else None

-- how many steps a thread may take; 5,000,000 where no word says it
abbrev pub steps_of : Option (List ℕ) → Option ℕ
steps_of None = Some 5000000
steps_of (Some text) = within (number_of text)
