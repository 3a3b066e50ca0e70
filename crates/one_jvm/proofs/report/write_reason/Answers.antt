use Rattle.one_jvm.proofs.report.write_reason.Goals as goal

pub returns-in-AttrLength-clause-bytes : goal.returns-in-AttrLength-clause-bytes
returns-in-AttrLength-clause-bytes g c = rw c.in-AttrLength.is c.write_number-in-AttrLength.ensures.bytes

pub returns-in-CodeLength-clause-bytes : goal.returns-in-CodeLength-clause-bytes
returns-in-CodeLength-clause-bytes g c = rw (c.in-CodeLength.is, ← c.from-in-CodeLength.ensures) c.write_number-in-CodeLength.ensures.bytes
