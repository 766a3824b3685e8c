-- What texts are read as.
use Rattle.std.specs.{Prelude.{◌≡◌, ◌≢◌, ◌<◌, ◌⊎◌, ℕ, ℤ, List, Option, Some, None, if◌then◌else◌}, Str.{is_utf8}}
use Rattle.civil_base.specs.{Instants.{local_at}, Layout.{day_part, time_part, zoned_text}, LocalTimes.{local_time_in}, Ranges.{IsInYears, IsOffset}, ReadAs.{IsReadAs}}
use Rattle.sefunjaro_c.specs.{Statuses.{done, not_read}, Times.{nanos_at}, declared.zones.Instant.{Instant}}
use Rattle.sefunjaro.specs.{Clocks.{clock_at}, declared.clock.Clock.{Clock}}

-- the local time that a text names, if it is UTF-8
unfoldable pub local_in : List ℕ → Option ℤ
local_in text = if is_utf8 text then local_time_in text else None

-- its parts are told, or nothing is
abbrev pub IsLocalRead : Option ℤ → ℕ → Clock → Clock → Type 0
IsLocalRead (Some x) status old new = (status ≡ done) × (new ≡ clock_at (day_part x) (time_part x))
IsLocalRead None status old new = (status ≡ not_read) × (new ≡ old)

-- the text names this instant and this offset, and nothing else
pub record IsInstantOf (text : List ℕ) (read : Instant) : Type 0 where
  pub named : IsReadAs text (nanos_at read.second read.nanosecond) read.offset
  pub part : read.nanosecond < 1000000000

-- no instant of the years -9999 to 9999 has that text at any offset
abbrev pub IsNoZonedText : List ℕ → Type 0
IsNoZonedText text = (t o : ℤ) → IsInYears (local_at t o) → IsOffset o → zoned_text t o ≢ text

-- the instant and the offset that a text names are told, or it names none
abbrev pub IsZonedRead : List ℕ → ℕ → Instant → Instant → Type 0
IsZonedRead text status old new =
    ((status ≡ done) × IsInstantOf text new) ⊎ ((status ≡ not_read) × (IsNoZonedText text × (new ≡ old)))
