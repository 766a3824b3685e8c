use Rattle.tz_ever.proofs.table.count_before.Given as goal

abbrev pub ghosts-count_under : goal.ghosts-count_under
ghosts-count_under g a = record { name = a.blank.name; parts = a.blank.parts }
