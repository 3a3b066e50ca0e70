use Rattle.flow_verifier.proofs.verifying.verify.Given as goal

abbrev pub ghosts-verify_with : goal.ghosts-verify_with
ghosts-verify_with a = record { name = a.blank.name; parts = a.blank.parts }
