-- Local times that clocks skip.
use Rattle.std.specs.Prelude.{Bool, true, false, ◌&&◌, ℕ, List, ◌++◌, codes, Option, Some, None, Ok, Err, find, int_le, int_lt, ℤ, pos, ◌+ℤ◌, ◌-ℤ◌, if◌then◌else◌}
use Rattle.civil_base.specs.{Instants.{local_at, nanos_of, seconds_of}, Ranges.{is_in_years}}
use Rattle.zone_words.specs.{Written.{offset_shown}, declared.answer_form.AnswerForm.{AnswerForm}, declared.answer_form.AnswerForm.TheVariants.{People, Rfc3339, Epoch, Json}}
use Rattle.zone_texts.specs.{Faults.{Due}, Instants.{instant_text}, Objects.{gap_object_text}, Views.{ZoneView}, declared.fault.ReplyFault.TheVariants.{OutOfYears, Skipped}, declared.kind.Kind.TheVariants.{Gap}}

-- the offsets in force just before a second, and from it on
abbrev pub before_of : ZoneView → ℤ → ℤ
before_of view second = (view.force (second -ℤ pos 1)).offset

abbrev pub after_of : ZoneView → ℤ → ℤ
after_of view second = (view.force second).offset

-- at that second clocks would have come to the local time x at most, and are past it
abbrev pub skips : ZoneView → ℤ → ℤ → Bool
skips view x second = int_le (local_at (nanos_of second) (before_of view second)) x && int_lt x (local_at (nanos_of second) (after_of view second))

-- of the changes within 26 hours the first that skips the local time x
unfoldable pub skipping : ZoneView → ℤ → Option ℤ
skipping view x = find (skips view x) (view.changes (seconds_of x -ℤ pos 93600) (seconds_of x +ℤ pos 93601))

-- a second whose date lies in the years by UTC and at that offset
abbrev pub has_dates : ℤ → ℤ → Bool
has_dates second offset = is_in_years (nanos_of second) && is_in_years (local_at (nanos_of second) offset)

-- a change and the offsets before and after it
unfoldable pub from_to_text : ZoneView → ℤ → List ℕ
from_to_text view second = codes ", from " ++ offset_shown (before_of view second) ++ codes " to " ++ offset_shown (after_of view second)

-- the change at a second skips the local time x: an object, or words for people
abbrev pub skipped_text : Bool → ZoneView → List ℕ → ℤ → ℤ → List ℕ
skipped_text true view name x second =
    gap_object_text name (nanos_of second) x (before_of view second) (after_of view second) (view.force second)
skipped_text false view name x second =
    codes "none: skipped at " ++ instant_text People view name Gap (nanos_of second) (after_of view second) ++ from_to_text view second

-- no change does
abbrev pub none_text : Bool → List ℕ
none_text is_object = if is_object then codes "null" else codes "none"

abbrev pub skipped_due : Bool → ZoneView → List ℕ → ℤ → Option ℤ → Due
skipped_due is_object view name x None = Ok (none_text is_object)
skipped_due is_object view name x (Some second) =
    if has_dates second (after_of view second) then Ok (skipped_text is_object view name x second) else Err OutOfYears

-- what skips the local time x; the other forms have instants alone, and no text for it
abbrev pub gap_due : AnswerForm → ZoneView → List ℕ → ℤ → Due
gap_due People view name x = skipped_due false view name x (skipping view x)
gap_due Rfc3339 view name x = Err Skipped
gap_due Epoch view name x = Err Skipped
gap_due Json view name x = skipped_due true view name x (skipping view x)
