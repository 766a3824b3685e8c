-- Texts within XML.
use Rattle.std.specs.{Prelude.{ℕ, ◌==◌, List, [], ◌∷◌, codes, Ok, Err, if◌then◌else◌}, List.{flat_map}}
use Rattle.zone_texts.specs.Faults.{Due}

abbrev pub escaped : ℕ → List ℕ
escaped c =
    if c == 38 then codes "&amp;" else (if c == 60 then codes "&lt;" else (if c == 62 then codes "&gt;" else (if c == 34 then codes "&quot;" else c ∷ [])))

unfoldable pub escaped_text : List ℕ → List ℕ
escaped_text = flat_map escaped

abbrev pub escaped_due : Due → Due
escaped_due (Ok text) = Ok (escaped_text text)
escaped_due (Err fault) = Err fault
