use Rattle.forest_parts.proofs.counts.count_expanded.Given as goal

abbrev pub ghosts-count_all : goal.ghosts-count_all
ghosts-count_all a = record { name = a.blank.name; parts = a.blank.parts }
