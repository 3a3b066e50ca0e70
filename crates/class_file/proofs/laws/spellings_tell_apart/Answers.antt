use Rattle.std.proofs.Common.{refl, sym, ◌∙◌}
use Rattle.jvm_base.proofs.Refusing.{ok_is}
use Rattle.class_format.specs.Meaning.{plain}
use Rattle.class_file.proofs.ClassLaws.{class_again}
use Rattle.class_file.proofs.PlainLaws.{is_class}
use Rattle.class_file.proofs.laws.spellings_tell_apart.Goals as goal

pub returns-clause-one : goal.returns-clause-one
returns-clause-one c = λ bytes d e h k. ok_is d e (sym (class_again d bytes h) ∙ class_again e bytes k)

pub returns-clause-plain : goal.returns-clause-plain
returns-clause-plain c = λ bytes d h. is_class h.source d h.means

pub returns-clause-spelled : goal.returns-clause-spelled
returns-clause-spelled c = λ d h. record { source = plain d; spelled = refl; means = h }
