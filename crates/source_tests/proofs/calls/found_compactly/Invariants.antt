use Rattle.source_tests.proofs.calls.found_compactly.Given as goal

abbrev pub ghosts-finds_two_compactly : goal.ghosts-finds_two_compactly
ghosts-finds_two_compactly a = record { name = a.blank.name; parts = a.blank.parts }
