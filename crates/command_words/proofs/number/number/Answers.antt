use Rattle.std.proofs.Common.{refl, sym, subst, ◌∙◌}
use Rattle.std.specs.Prelude.{IsOk}
use Rattle.command_words.proofs.Parsed.{number_parsed}
use Rattle.command_words.proofs.number.number.Goals as goal

pub unwrap-requires : goal.unwrap-requires
unwrap-requires c = subst IsOk (sym (number_parsed c.args.text.now c.parse.result c.parse.ensures.value.0 (sym c.is_number.ensures ∙ c.if-not-is_number.false))) refl
