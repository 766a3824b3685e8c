use Rattle.tz_lookup.proofs.lookups.span_in_force_at.Given as goal

abbrev pub ghosts-span_under : goal.ghosts-span_under
ghosts-span_under g a = record { name = a.blank.name; parts = a.blank.parts }
