use Rattle.tz_lookup.proofs.compact_tz.CompactTzTimeZone.get_offset_utc.Given as goal

abbrev pub ghosts-offset_under : goal.ghosts-offset_under
ghosts-offset_under a = record { name = a.blank.name; parts = a.blank.parts }
