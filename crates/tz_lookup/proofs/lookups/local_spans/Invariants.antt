use Rattle.tz_lookup.proofs.lookups.local_spans.Given as goal

abbrev pub ghosts-spans_under : goal.ghosts-spans_under
ghosts-spans_under g a = record { name = a.blank.name; parts = a.blank.parts }
