use Rattle.scanning_calls.proofs.session.Session.derivations.Given as goal

abbrev pub ghosts-derive : goal.ghosts-derive
ghosts-derive a = record { name = a.blank.name; parts = a.blank.parts }
