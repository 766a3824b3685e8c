-- The words of an alarm.
use Rattle.std.specs.{Prelude.{ℕ, ◌==◌, Bool, true, ◌&&◌, ◌||◌, List, [], ◌∷◌, Option, Some, None, is_none, Ok, ℤ, int_lt, bytes_eq, codes, if◌then◌else◌}, List.{list_all, list_any, slice_split}, Option.{option_map_or}}
use Rattle.zone_words.specs.{Commands.{standing_for}, Faults.{Reading, wrong, ◌>>=◌}, Options.{GivenOption, value_of}, Tasks.{AlarmAsked}, Values.{date_in, number_in, time_in}}
use Rattle.zone_words.specs.declared.{fault.WordCause.{WordCause}, fault.WordCause.TheVariants.{BeforeFirst, EndMissing, FirstMissing, FoldRule as BadFoldRule, GapRule as BadGapRule, Weekdays}, task.FoldRule.{FoldRule}, task.FoldRule.TheVariants.{First, Second, Both}}
use Rattle.zone_words.specs.declared.task.GapRule.{GapRule, TheVariants.{Skip, Before, After}}

abbrev pub is_comma : ℕ → Bool
is_comma byte = byte == 44

abbrev pub is_day : List ℕ → Bool
is_day text =
    bytes_eq text (codes "mon") || bytes_eq text (codes "tue") || bytes_eq text (codes "wed") || bytes_eq text (codes "thu")
    || bytes_eq text (codes "fri") || bytes_eq text (codes "sat") || bytes_eq text (codes "sun")

-- all parts between commas are weekdays
abbrev pub are_days : List ℕ → Bool
are_days text = list_all is_day (slice_split is_comma text)

abbrev pub has_day : List ℕ → List ℕ → Bool
has_day text day = list_any (λ part. bytes_eq part day) (slice_split is_comma text)

-- from Monday on
abbrev pub days_of : List ℕ → List Bool
days_of text =
    has_day text (codes "mon") ∷ has_day text (codes "tue") ∷ has_day text (codes "wed") ∷ has_day text (codes "thu")
    ∷ has_day text (codes "fri") ∷ has_day text (codes "sat") ∷ has_day text (codes "sun") ∷ []

abbrev pub days_by : Option (List ℕ) → Reading (List Bool)
days_by None = Ok (true ∷ true ∷ true ∷ true ∷ true ∷ true ∷ true ∷ [])
days_by (Some word) = if are_days word then Ok (days_of word) else wrong word Weekdays

-- on all days where none are told
abbrev pub days_in : List GivenOption → Reading (List Bool)
days_in given = days_by (value_of given (codes "--on"))

abbrev pub first_in : List ℕ → List GivenOption → Reading ℤ
first_in command given = option_map_or date_in (value_of given (codes "--from")) (wrong command FirstMissing)

-- read where it is told
abbrev pub if_told : {A : Type 0} → (List ℕ → Reading A) → Option (List ℕ) → Reading (Option A)
if_told read None = Ok None
if_told read (Some word) = read word >>= (λ value. Ok (Some value))

abbrev pub count_in : List GivenOption → Reading (Option ℕ)
count_in given = if_told number_in (value_of given (codes "--count"))

-- a last day, which doesn't come before the first
abbrev pub last_in : ℤ → List ℕ → Reading ℤ
last_in first word = date_in word >>= (λ last. if int_lt last first then wrong word BeforeFirst else Ok last)

abbrev pub until_in : ℤ → List GivenOption → Reading (Option ℤ)
until_in first given = if_told (last_in first) (value_of given (codes "--until"))

-- every day where nothing is told
abbrev pub every_in : List GivenOption → Reading ℕ
every_in given = option_map_or number_in (value_of given (codes "--every")) (Ok 1)

-- what the value of an option stands for, or what holds where it isn't told
abbrev pub chosen : {A : Type 0} → (List ℕ → Option A) → WordCause → A → Option (List ℕ) → Reading A
chosen rule cause default None = Ok default
chosen rule cause default (Some word) = option_map_or (λ value. Ok value) (rule word) (wrong word cause)

abbrev pub gap_rule : List ℕ → Option GapRule
gap_rule = standing_for ((codes "skip", Skip) ∷ (codes "before", Before) ∷ (codes "after", After) ∷ [])

abbrev pub gap_in : List GivenOption → Reading GapRule
gap_in given = chosen gap_rule BadGapRule Skip (value_of given (codes "--gap"))

abbrev pub fold_rule : List ℕ → Option FoldRule
fold_rule = standing_for ((codes "first", First) ∷ (codes "second", Second) ∷ (codes "both", Both) ∷ [])

abbrev pub fold_in : List GivenOption → Reading FoldRule
fold_in given = chosen fold_rule BadFoldRule First (value_of given (codes "--fold"))

-- it ends by a count or by its last day
abbrev pub ends : List ℕ → Option ℕ → Option ℤ → Reading (Unit {0})
ends command count until = if is_none count && is_none until then wrong command EndMissing else Ok tt

-- a time of day, a first day and an end, with what the other options tell
abbrev pub ringing_in : ℕ → ℤ → Option ℕ → Option ℤ → List GivenOption → Reading AlarmAsked
ringing_in time first count until given = do
  every ← every_in given
  days ← days_in given
  gap ← gap_in given
  fold ← fold_in given
  Ok (record { time = time; first = first; count = count; until = until; every = every; days = days; gap = gap; fold = fold })

-- a time of day and a first day, with what the other options tell
abbrev pub ending_in : List ℕ → ℕ → ℤ → List GivenOption → Reading AlarmAsked
ending_in command time first given = do
  count ← count_in given
  until ← until_in first given
  told ← ends command count until
  ringing_in time first count until given

abbrev pub alarm_in : List ℕ → List ℕ → List GivenOption → Reading AlarmAsked
alarm_in command time given = do
  at ← time_in time
  first ← first_in command given
  ending_in command at first given
