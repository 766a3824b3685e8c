-- What texts that were read give.
use Rattle.std.specs.Prelude.{◌≡◌, ℕ, Option, Some, None, ℤ, pos}
use Rattle.civil_base.specs.{DateTimes.{instant, offset_of}, declared.offset_date_time.OffsetDateTime.{OffsetDateTime}}
use Rattle.zone_words.specs.declared.instant.Asked.{Asked, TheVariants.{Now, At}}

abbrev pub asked : Asked → Option ℤ
asked Now = None
asked (At value) = Some (instant value)

-- an instant is given at UTC
abbrev pub IsAtUtc : Asked → Type 0
IsAtUtc Now = Unit {0}
IsAtUtc (At value) = offset_of value ≡ pos 0

-- an instant, and how many bytes its text has, or follow it
abbrev pub stamp_shown : OffsetDateTime × ℕ → ℤ × ℕ
stamp_shown x = (instant x.0, x.1)
