use Rattle.std.proofs.Common.{◌∙◌, map}
use Rattle.std.specs.Prelude.{string_bytes}
use Rattle.std.proofs.lemmas.Result.{IfOk-weaker}
use Rattle.clap.specs.Words.{app_of, found_of, rows_of}
use Rattle.command_words.proofs.Taken.{taken, refused}
use Rattle.command_words.proofs.words.read_rest.Goals as goal

pub returns-in-Ok-clause-ok : goal.returns-in-Ok-clause-ok
returns-in-Ok-clause-ok c =
    let is = taken c.args.command (app_of c.in_ok-app.app) (map string_bytes c.args.words.now) (rows_of (found_of c.in-Ok.matches)) _ c.in_ok-app.ensures c.in-Ok.ensures.matches c.in-Ok.ensures.kinds in
    IfOk-weaker c.read_line.result _ _ (λ r e. is ∙ e) c.read_line.ensures.ok

pub returns-in-Ok-clause-usage : goal.returns-in-Ok-clause-usage
returns-in-Ok-clause-usage c = λ e.
    taken c.args.command (app_of c.in_ok-app.app) (map string_bytes c.args.words.now) (rows_of (found_of c.in-Ok.matches)) _ c.in_ok-app.ensures c.in-Ok.ensures.matches c.in-Ok.ensures.kinds
    ∙ c.read_line.ensures.usage e

pub returns : goal.returns
returns c =
    record { ok = tt; usage = λ e. refused c.args.command (app_of c.in_ok-app.app) (map string_bytes c.args.words.now) c.in-Err.error c.in_ok-app.ensures c.in-Err.ensures.kinds (λ k. c.in_default.not-OutOfMemory (c.kind.ensures ∙ k)) }
