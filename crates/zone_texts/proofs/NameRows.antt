-- Names that are listed and that are near: worked rows.
use Rattle.std.{proofs.Common.{◌≡◌, refl, map, ℕ, Bool, true, false, List, [], ◌∷◌, Option, Some, None}, specs.Prelude.{codes}}
use Rattle.zone_words.specs.declared.answer_form.AnswerForm.TheVariants.{People, Rfc3339, Epoch, Json}
use Rattle.zone_texts.specs.{Edits.{is_one_edit}, Near.{near_names}, SeenNames.{NameSeen}, Texts.{name_object, names_text}, Unknown.{unknown_text}, Objects.{quoted}}

abbrev zone : List ℕ → NameSeen
zone name = record { name = name; zone = None }

abbrev link : List ℕ → List ℕ → NameSeen
link name leads = record { name = name; zone = Some leads }

abbrev tests : List (List ℕ × List ℕ) → List Bool
tests = map (λ pair. is_one_edit pair.0 pair.1)

-- a byte more, a byte less, another byte, two neighbours swapped: at the front, within, at the end
apart : tests ((codes "abc", codes "abcd") ∷ (codes "abc", codes "xabc") ∷ (codes "abc", codes "abxc") ∷ (codes "abc", codes "ab") ∷ (codes "abc", codes "bc") ∷
    (codes "abc", codes "ac") ∷ (codes "abc", codes "xbc") ∷ (codes "abc", codes "axc") ∷ (codes "abc", codes "abx") ∷ (codes "abc", codes "bac") ∷
    (codes "abc", codes "acb") ∷ (codes "aab", codes "aba") ∷ (codes "ABC", codes "abd") ∷ (codes "", codes "a") ∷ (codes "a", codes "") ∷ [])
    ≡ true ∷ true ∷ true ∷ true ∷ true ∷ true ∷ true ∷ true ∷ true ∷ true ∷ true ∷ true ∷ true ∷ true ∷ true ∷ []
unfolding is_one_edit
apart = refl

-- the same, the same but for case, two edits, neighbours that are not, bytes of UTF-8 whose case counts
not_apart : tests ((codes "abc", codes "abc") ∷ (codes "abc", codes "aBC") ∷ (codes "abc", codes "abcde") ∷ (codes "abcde", codes "abc") ∷ (codes "abc", codes "cba") ∷
    (codes "abcd", codes "badc") ∷ (codes "abc", codes "bca") ∷ (codes "abc", codes "xbx") ∷ (codes "", codes "") ∷ (codes "", codes "ab") ∷
    (195 ∷ 164 ∷ [], 195 ∷ 132 ∷ 33 ∷ []) ∷ [])
    ≡ false ∷ false ∷ false ∷ false ∷ false ∷ false ∷ false ∷ false ∷ false ∷ false ∷ false ∷ []
unfolding is_one_edit
not_apart = refl

abbrev listed : List NameSeen
listed =
    zone (codes "America/New_York") ∷ link (codes "Arctic/Longyearbyen") (codes "Europe/Berlin") ∷ zone (codes "Europe/Berlin") ∷ zone (codes "Europe/Bern") ∷ []

near : map (near_names listed) (codes "europe/berlin" ∷ codes "Europe/Berln" ∷ codes "Europe/Belrin" ∷ codes "berlin" ∷ codes "Europe/New York" ∷
    codes "America/New York" ∷ codes "arctic/longyearbye" ∷ codes "Longyearbyen" ∷ codes "" ∷ codes "Europe" ∷ codes "erlin" ∷ codes "Berln" ∷ [])
    ≡ (codes "Europe/Berlin" ∷ []) ∷ (codes "Europe/Berlin" ∷ codes "Europe/Bern" ∷ []) ∷ (codes "Europe/Berlin" ∷ []) ∷ (codes "Europe/Berlin" ∷ []) ∷ [] ∷
    (codes "America/New_York" ∷ []) ∷ (codes "Arctic/Longyearbyen" ∷ []) ∷ (codes "Arctic/Longyearbyen" ∷ []) ∷ [] ∷ [] ∷ [] ∷ [] ∷ []
unfolding near_names is_one_edit
near = refl

-- three at most, in the order of the list, those first that are the same but for case; a word with a slash is no last part
first_three : map (near_names (zone (codes "A/x1") ∷ zone (codes "A/x2") ∷ zone (codes "A/x3") ∷ zone (codes "B/A/X") ∷ zone (codes "a/x") ∷ zone (codes "A/X") ∷ []))
    (codes "a/X" ∷ codes "X" ∷ codes "A/x" ∷ [])
    ≡ (codes "a/x" ∷ codes "A/X" ∷ codes "A/x1" ∷ []) ∷ (codes "B/A/X" ∷ codes "a/x" ∷ codes "A/X" ∷ []) ∷ (codes "a/x" ∷ codes "A/X" ∷ codes "A/x1" ∷ []) ∷ []
unfolding near_names is_one_edit
first_three = refl

-- the last part is the whole of what stands behind the last slash
last_parts : map (near_names (zone (codes "America/Indiana/Knox") ∷ [])) (codes "knox" ∷ codes "Indiana/Knox" ∷ codes "/Knox" ∷ codes "nox" ∷ [])
    ≡ (codes "America/Indiana/Knox" ∷ []) ∷ [] ∷ [] ∷ [] ∷ []
unfolding near_names is_one_edit
last_parts = refl

abbrev lines : Option (List ℕ) → List ℕ
lines = names_text People listed

all_lines : lines None
    ≡ codes "America/New_York\nArctic/Longyearbyen -> Europe/Berlin\nEurope/Berlin\nEurope/Bern\n"
unfolding names_text
all_lines = refl

-- those that have the word in them, at the front, within, at the end
some_lines : map (λ word. lines (Some word)) (codes "EUROPE" ∷ codes "w_y" ∷ codes "ern" ∷ codes "x" ∷ codes "Europe/Bern/" ∷ [])
    ≡ codes "Europe/Berlin\nEurope/Bern\n" ∷ codes "America/New_York\n" ∷ codes "Europe/Bern\n" ∷ [] ∷ [] ∷ []
unfolding names_text
some_lines = refl

every_line : lines (Some []) ≡ lines None
unfolding names_text
every_line = refl

objects : names_text Json (link (codes "Arctic/Longyearbyen") (codes "Europe/Berlin") ∷ zone (codes "a\"b") ∷ []) None
    ≡ codes "{\"name\":\"Arctic/Longyearbyen\",\"zone\":\"Europe/Berlin\"}\n{\"name\":\"a\\\"b\"}\n"
unfolding names_text name_object quoted
objects = refl

other_forms : map (λ form. names_text form (link (codes "a") (codes "b") ∷ []) None) (Rfc3339 ∷ Epoch ∷ []) ≡ codes "a -> b\n" ∷ codes "a -> b\n" ∷ []
unfolding names_text
other_forms = refl

questions : map unknown_text ([] ∷ (codes "Europe/Berlin" ∷ []) ∷ (codes "a" ∷ codes "b" ∷ []) ∷ (codes "a" ∷ codes "b" ∷ codes "c" ∷ []) ∷ [])
    ≡ codes "no zone has this name" ∷ codes "no zone has this name; did you mean Europe/Berlin?" ∷ codes "no zone has this name; did you mean a or b?" ∷
    codes "no zone has this name; did you mean a, b or c?" ∷ []
unfolding unknown_text
questions = refl
