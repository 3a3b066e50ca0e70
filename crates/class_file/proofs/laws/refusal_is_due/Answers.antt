use Rattle.class_file.proofs.Refused.{refused_is, refused_comes, one_refusal, either_is, no_class_refused}
use Rattle.class_file.proofs.laws.refusal_is_due.Goals as goal

pub returns-clause-says : goal.returns-clause-says
returns-clause-says c = refused_is

pub returns-clause-comes : goal.returns-clause-comes
returns-clause-comes c = refused_comes

pub returns-clause-one : goal.returns-clause-one
returns-clause-one c = one_refusal

pub returns-clause-either : goal.returns-clause-either
returns-clause-either c = either_is

pub returns-clause-never_both : goal.returns-clause-never_both
returns-clause-never_both c = no_class_refused
