-- Names that someone meant by a word that is no name.
use Rattle.std.specs.{Prelude.{ℕ, ◌-◌, ◌==◌, List, ◌∷◌, ◌++◌, length, map, take, drop, Bool, ◌&&◌, ◌||◌, not}, List.{filter, list_any}}
use Rattle.zone_texts.specs.{Edits.{is_one_edit}, Same.{same}, SeenNames.{NameSeen}}

abbrev pub has_slash : List ℕ → Bool
has_slash text = list_any (λ byte. byte == 47) text

-- the text ends so
abbrev pub ends_so : List ℕ → List ℕ → Bool
ends_so text end = same (drop (length text - length end) text) end

-- behind the last slash of the name stands the word
abbrev pub is_last_part : List ℕ → List ℕ → Bool
is_last_part word name = not (has_slash word) && ends_so name (47 ∷ word)

-- one edit apart from the word, or it is the last part
abbrev pub is_alike : List ℕ → List ℕ → Bool
is_alike word name = is_one_edit word name || is_last_part word name

-- of the names that are the same but for case, and then of those that are alike, three at most
unfoldable pub near_names : List NameSeen → List ℕ → List (List ℕ)
near_names entries word =
    let names = map (λ entry. entry.name) entries in
    take 3 (filter (same word) names ++ filter (is_alike word) names)
