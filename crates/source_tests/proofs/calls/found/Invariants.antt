use Rattle.source_tests.proofs.calls.found.Given as goal

abbrev pub ghosts-finds_two : goal.ghosts-finds_two
ghosts-finds_two a = record { name = a.blank.name; parts = a.blank.parts }
