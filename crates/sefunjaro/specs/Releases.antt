-- A release as a text of its own.
use Rattle.std.specs.Prelude.{ℕ, ◌==◌, List, [], length, Option, Some, None, if◌then◌else◌}

-- nothing where there is none
abbrev pub release_text : Option (List ℕ) → List ℕ
release_text None = []
release_text (Some release) = release

-- none where there is nothing
abbrev pub if_some : List ℕ → Option (List ℕ)
if_some text = if length text == 0 then None else Some text
