-- What the words of the program ask of a zone.
use Rattle.std.specs.{Prelude.{◌≡◌, ℕ, List, [], ◌∷◌, Option, Some, None, Result, Ok, Err, Vec, map, option_map, ℤ, codes, if◌then◌else◌}, declared.alloc.Global.{Global}}
use Rattle.civil_base.specs.Layout.{day_part, time_part}
use Rattle.tz_lookup.specs.Sets.{schedule_of}
use Rattle.zone_run.specs.{Asked.{Asked}, declared.program.Refusal.{Refusal}, declared.program.Refusal.TheVariants.{Cause, NoMemory}}
use Rattle.zone_source.specs.LineLists.{ended}
use Rattle.zone_spans.specs.Schedules.{total_at}
use Rattle.zone_alarm.specs.{RingLines.{ring_line}, Rings.{ends_in_years, rings}, Words.{days_in, start_in}}

-- the last day is past 9999-12-31
abbrev pub refusal : ℤ → ℕ → Option (List ℕ)
refusal start days = if ends_in_years (day_part start) days then None else Some (codes "range")

-- the line of each day from that of a local time on, each followed by a line feed, in a zone of these totals
abbrev pub ring_bytes : (ℤ → ℤ) → ℤ → ℕ → List ℕ
ring_bytes total start days = ended (map ring_line (rings total (time_part start) (day_part start) days))

abbrev pub asks : ℤ → ℕ → Asked
asks start days = record { cause = λ set. refusal start days; due = λ set. ring_bytes (total_at (schedule_of set)) start days }

-- the answer is by the totals of a zone
abbrev pub AnswersRings : (ℤ → ℤ) → ℤ → ℕ → Result (Vec ℕ Global) Refusal → Type 0
AnswersRings total start days (Ok bytes) = (refusal start days ≡ None) × (bytes.items ≡ ring_bytes total start days)
AnswersRings total start days (Err (Cause cause)) = refusal start days ≡ Some cause.now
AnswersRings total start days (Err NoMemory) = Unit {0}

abbrev pub both : Option ℤ → Option ℕ → Option (ℤ × ℕ)
both (Some start) (Some days) = Some (start, days)
both (Some start) None = None
both None days = None

-- START, TIME and DAYS
abbrev pub daily_in : List (List ℕ) → Option (ℤ × ℕ)
daily_in (start ∷ time ∷ days ∷ []) = both (start_in start time) (days_in days)
daily_in (start ∷ time ∷ days ∷ word ∷ words) = None
daily_in (start ∷ time ∷ []) = None
daily_in (start ∷ []) = None
daily_in [] = None

abbrev pub form : List (List ℕ) → Option Asked
form words = option_map (λ daily. asks daily.0 daily.1) (daily_in words)
