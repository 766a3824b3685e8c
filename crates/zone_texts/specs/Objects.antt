-- Objects of JSON.
use Rattle.std.specs.{Prelude.{ℕ, Bool, true, false, ◌/◌, ◌%◌, ◌==◌, ◌||◌, List, [], ◌∷◌, ◌++◌, codes, ℤ, nat_lt, if◌then◌else◌}, Fmt.{signed_decimal}, List.{flat_map}}
use Rattle.zone_words.specs.{ToldWords.{hex_digit}, Written.{seconds_text, moment_text, offset_shown}}
use Rattle.zone_texts.specs.{Kinds.{kind_text}, Views.{InForce}, declared.kind.Kind.{Kind}, declared.kind.Kind.TheVariants.{Gap}}

-- a byte within a string: a quote and a backslash behind a backslash, a control character by its number
abbrev pub escaped : ℕ → List ℕ
escaped c =
    if c == 34 || c == 92 then 92 ∷ c ∷ []
    else (if nat_lt c 32 then codes "\\u00" ++ hex_digit (c / 16) ∷ hex_digit (c % 16) ∷ [] else c ∷ [])

-- a text as a string
unfoldable pub quoted : List ℕ → List ℕ
quoted text = 34 ∷ flat_map escaped text ++ 34 ∷ []

-- the key of an instant, or of that at which clocks skip a local time
abbrev pub instant_key : Bool → List ℕ
instant_key is_skip = if is_skip then codes ",\"skipped_at\":" else codes ",\"instant\":"

-- the zone's name and the seconds of the instant t from 1970 UTC
unfoldable pub front_members : Bool → List ℕ → ℤ → List ℕ
front_members is_skip name t = codes "{\"zone\":" ++ quoted name ++ instant_key is_skip ++ seconds_text t ++ codes ","

-- the local time x and the offset o
unfoldable pub clock_members : ℤ → ℤ → List ℕ
clock_members x o = codes "\"local\":\"" ++ moment_text 32 x ++ codes "\",\"offset\":\"" ++ offset_shown o ++ codes "\","

-- the abbreviation, and the saving in seconds
unfoldable pub force_members : InForce → List ℕ
force_members force = codes "\"abbreviation\":" ++ quoted force.name ++ codes ",\"saving\":" ++ signed_decimal force.saving

unfoldable pub kind_member : Kind → List ℕ
kind_member kind = codes ",\"kind\":\"" ++ kind_text kind ++ codes "\""

abbrev pub members : List ℕ → ℤ → ℤ → ℤ → InForce → Kind → List ℕ
members name t x o force kind = front_members false name t ++ clock_members x o ++ force_members force ++ kind_member kind

-- the object of the instant t, with a local time x, the offset o and what else is in force
unfoldable pub object_text : List ℕ → ℤ → ℤ → ℤ → InForce → Kind → List ℕ
object_text name t x o force kind = members name t x o force kind ++ codes "}"

-- the same of a change from the offset before
unfoldable pub change_object_text : List ℕ → ℤ → ℤ → ℤ → InForce → Kind → ℤ → List ℕ
change_object_text name t x o force kind before = members name t x o force kind ++ codes ",\"before\":\"" ++ offset_shown before ++ codes "\"}"

-- the local time x, and the offsets before and after the change
unfoldable pub skipped_members : ℤ → ℤ → ℤ → List ℕ
skipped_members x before after =
    codes "\"local\":\"" ++ moment_text 32 x ++ codes "\",\"before\":\"" ++ offset_shown before ++ codes "\",\"after\":\"" ++ offset_shown after ++ codes "\","

-- the object of a local time x that clocks skip at the instant t, with what is in force from then on
unfoldable pub gap_object_text : List ℕ → ℤ → ℤ → ℤ → ℤ → InForce → List ℕ
gap_object_text name t x before after force =
    (front_members true name t ++ skipped_members x before after ++ force_members force ++ kind_member Gap) ++ codes "}"
