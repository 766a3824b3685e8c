-- What the clocks of a zone show at many seconds.
use Rattle.std.specs.{Prelude.{◌≡◌, ℕ, ◌^◌, ℤ, Bool, ◌&&◌, not, IsTrue, All, List, [], ◌∷◌, ◌++◌, length, map, nat_le, Option, Some, None, Result, Ok, Err, if◌then◌else◌}, List.{position}}
use Rattle.civil_base.specs.{Instants.{local_at, nanos_of}, Layout.{day_part, time_part, zoned_text}, Ranges.{is_in_years}}
use Rattle.sefunjaro.specs.{Clocks.{clock_at}, Rooms.{filled}, declared.clock.Clock.{Clock}}

-- a second lies in the years -9999 to 9999 in UTC, and so does its date by the clocks of a zone
abbrev pub is_shown : (ℤ → ℤ) → ℤ → Bool
is_shown total second = is_in_years (nanos_of second) && is_in_years (local_at (nanos_of second) (total (nanos_of second)))

-- each of some seconds does
abbrev pub AreShown : (ℤ → ℤ) → List ℤ → Type 0
AreShown total seconds = All (λ second. IsTrue (is_shown total second)) seconds

-- the place, from 0, of the first second that doesn't, if there is one
unfoldable pub unshown_place : (ℤ → ℤ) → List ℤ → Option ℕ
unshown_place total seconds = position (λ second. not (is_shown total second)) seconds

-- what clocks show at a second
unfoldable pub clock_shown_at : (ℤ → ℤ) → ℤ → Clock
clock_shown_at total second = let x = local_at (nanos_of second) (total (nanos_of second)) in clock_at (day_part x) (time_part x)

-- and at each of some seconds
abbrev pub clocks_of : (ℤ → ℤ) → List ℤ → List Clock
clocks_of total seconds = map (clock_shown_at total) seconds

-- that stands in the room, as far as it fits; or the place of the first second is told that clocks don't show, and the room is as it was
abbrev pub AreClocks : (ℤ → ℤ) → List ℤ → List Clock → List Clock → Result (Unit {0}) ℕ → Type 0
AreClocks total seconds old new (Ok told) = (unshown_place total seconds ≡ None) × (new ≡ filled (clocks_of total seconds) old)
AreClocks total seconds old new (Err place) = (unshown_place total seconds ≡ Some place) × (new ≡ old)

-- the zoned text of a second, with a line feed behind it
unfoldable pub line_of : (ℤ → ℤ) → ℤ → List ℕ
line_of total second = zoned_text (nanos_of second) (total (nanos_of second)) ++ 10 ∷ []

-- those of some seconds, one after another
unfoldable pub texts_of : (ℤ → ℤ) → List ℤ → List ℕ
texts_of total [] = []
texts_of total (second ∷ seconds) = line_of total second ++ texts_of total seconds

-- the most seconds whose texts are told at once: the length of theirs is a number of 64 bits
abbrev pub most_texts : ℕ
most_texts = 2 ^ 58

-- where there are more than so many, the place of the first too many; else that of the first second that has no text, if there is one
abbrev pub textless_within : ℕ → (ℤ → ℤ) → List ℤ → Option ℕ
textless_within most total seconds = if nat_le (length seconds) most then unshown_place total seconds else Some most

unfoldable pub textless_place : (ℤ → ℤ) → List ℤ → Option ℕ
textless_place total seconds = textless_within most_texts total seconds

-- the texts stand in the room, as far as they fit, and their whole length is told; or that place is, and the room is as it was
abbrev pub AreTexts : (ℤ → ℤ) → List ℤ → List ℕ → List ℕ → Result ℕ ℕ → Type 0
AreTexts total seconds old new (Ok whole) =
    (textless_place total seconds ≡ None) × ((new ≡ filled (texts_of total seconds) old) × (whole ≡ length (texts_of total seconds)))
AreTexts total seconds old new (Err place) = (textless_place total seconds ≡ Some place) × (new ≡ old)
