-- Classes whose objects are buffers of text.
use Rattle.std.specs.Prelude.{ℕ, Bool, ◌==◌}

-- the number of `java/lang/StringBuffer` among the boot classes, which come first
abbrev pub string_buffer : ℕ
string_buffer = 3

-- the class is one
abbrev pub is_buffer : ℕ → Bool
is_buffer c = c == string_buffer
