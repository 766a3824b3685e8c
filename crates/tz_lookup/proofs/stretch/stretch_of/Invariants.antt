use Rattle.tz_lookup.proofs.stretch.stretch_of.Given as goal

abbrev pub ghosts-stretch_under : goal.ghosts-stretch_under
ghosts-stretch_under a = record { name = a.blank.name; parts = a.blank.parts }
