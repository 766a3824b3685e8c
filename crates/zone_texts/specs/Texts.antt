-- Names as they are listed.
use Rattle.std.specs.{Prelude.{ℕ, List, [], ◌∷◌, ◌++◌, Option, Some, None, codes, Bool, true, if◌then◌else◌}, List.{flat_map}}
use Rattle.zone_words.specs.declared.answer_form.AnswerForm.{AnswerForm, TheVariants.{People, Rfc3339, Epoch, Json}}
use Rattle.zone_texts.specs.{Same.{has_word}, SeenNames.{NameSeen}, Objects.{quoted}}

-- a name, and where it leads, as in `Arctic/Longyearbyen -> Europe/Berlin`
abbrev pub plain_text : List ℕ → Option (List ℕ) → List ℕ
plain_text name None = name
plain_text name (Some zone) = name ++ codes " -> " ++ zone

-- the zone that a name leads to, as a member of an object
abbrev pub zone_member : Option (List ℕ) → List ℕ
zone_member None = []
zone_member (Some zone) = codes ",\"zone\":" ++ quoted zone

unfoldable pub name_object : List ℕ → Option (List ℕ) → List ℕ
name_object name zone = codes "{\"name\":" ++ quoted name ++ zone_member zone ++ codes "}"

abbrev pub entry_text : AnswerForm → NameSeen → List ℕ
entry_text People entry = plain_text entry.name entry.zone
entry_text Rfc3339 entry = plain_text entry.name entry.zone
entry_text Epoch entry = plain_text entry.name entry.zone
entry_text Json entry = name_object entry.name entry.zone

-- the name has the word in it, where there is one
abbrev pub is_asked : Option (List ℕ) → List ℕ → Bool
is_asked None name = true
is_asked (Some word) name = has_word name word

-- the line of a name that is asked for
abbrev pub line_text : AnswerForm → Option (List ℕ) → NameSeen → List ℕ
line_text form word entry = if is_asked word entry.name then entry_text form entry ++ 10 ∷ [] else []

-- the lines of those names that are asked for
unfoldable pub names_text : AnswerForm → List NameSeen → Option (List ℕ) → List ℕ
names_text form entries word = flat_map (line_text form word) entries
