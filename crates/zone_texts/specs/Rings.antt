-- When an alarm rings, and the lines that tell it.
use Rattle.std.specs.Prelude.{ℕ, Bool, true, false, not, List, [], ◌∷◌, length, map, filter, take, drop, Option, Some, None, Result, Ok, Err, ℤ, pos, ◌+ℤ◌, ◌*ℤ◌, nat_lt, if◌then◌else◌}
use Rattle.civil_base.specs.{Clock.{nanos_per_day}, Instants.{instant_at}}
use Rattle.zone_words.specs.{declared.answer_form.AnswerForm.{AnswerForm}, Tasks.{AlarmAsked}, declared.task.FoldRule.{FoldRule}, declared.task.FoldRule.TheVariants.{First, Second, Both}, declared.task.GapRule.{GapRule}, declared.task.GapRule.TheVariants.{Skip, Before, After}}
use Rattle.zone_texts.specs.{Faults.{Due, each_due}, Instants.{is_untold, line_due}, Skips.{after_of, before_of, skipping}, Views.{ZoneView}, declared.fault.ReplyFault.{ReplyFault}, declared.fault.ReplyFault.TheVariants.{OutOfYears, Untold}, Days.{days_of, is_dated, is_on}}

-- the local time of a day at a time of day
abbrev pub time_on : ℤ → ℕ → ℤ
time_on day time = day *ℤ pos nanos_per_day +ℤ pos time

-- the second, or the one where there is no more
abbrev pub second_of : List ℤ → List ℤ
second_of ts = if nat_lt (length ts) 2 then ts else take 1 (drop 1 ts)

-- of the instants of a local time, by time, those at which it rings
abbrev pub by_fold : FoldRule → List ℤ → List ℤ
by_fold First ts = take 1 ts
by_fold Second ts = second_of ts
by_fold Both ts = ts

-- the instant of a local time by the offset on one side of a change, if there is one
abbrev pub by_offset : (ℤ → ℤ) → ℤ → Option ℤ → List ℤ
by_offset offset x (Some second) = instant_at x (offset second) ∷ []
by_offset offset x None = []

-- the instant at which it rings where clocks skip the local time x, by the offset before the change that does or after it
abbrev pub by_gap : GapRule → ZoneView → ℤ → List ℤ
by_gap Skip view x = []
by_gap Before view x = by_offset (before_of view) x (skipping view x)
by_gap After view x = by_offset (after_of view) x (skipping view x)

abbrev pub by_rules : GapRule → FoldRule → ZoneView → ℤ → List ℤ → List ℤ
by_rules gap fold view x [] = by_gap gap view x
by_rules gap fold view x (t ∷ ts) = by_fold fold (t ∷ ts)

-- the instants at which it rings that is set to the local time x
unfoldable pub rings_at : GapRule → FoldRule → ZoneView → ℤ → List ℤ
rings_at gap fold view x = by_rules gap fold view x (view.readings x)

-- the instants of a day's rings, or why they can't be told
abbrev pub Rung : Type 0
Rung = Result (List ℤ) ReplyFault

unfoldable pub rung_on : ZoneView → AlarmAsked → ℤ → Rung
rung_on view alarm day =
    if not (is_dated day) then Err OutOfYears
    else (if not (is_on alarm.days day) then Ok []
    else (if is_untold view (time_on day alarm.time) then Err Untold else Ok (rings_at alarm.gap alarm.fold view (time_on day alarm.time))))

-- it rings on the day, or that can't be told
abbrev pub counts : Rung → Bool
counts (Ok []) = false
counts (Ok (t ∷ ts)) = true
counts (Err fault) = true

-- the first so many, or all
abbrev pub first_of : {A : Type 0} → Option ℕ → List A → List A
first_of (Some count) xs = take count xs
first_of None xs = xs

-- the lines of a day's rings
abbrev pub lines_due : AnswerForm → ZoneView → List ℕ → Rung → Due
lines_due form view name (Ok ts) = each_due (line_due form view name) ts
lines_due form view name (Err fault) = Err fault

-- the lines of so many days that count, of these days
unfoldable pub lines_on : AnswerForm → ZoneView → List ℕ → Option ℕ → List Rung → Due
lines_on form view name count days = each_due (lines_due form view name) (first_of count (filter counts days))

-- the reply to `alarm`
abbrev pub rings_due : AnswerForm → ZoneView → List ℕ → AlarmAsked → Due
rings_due form view name alarm = lines_on form view name alarm.count (map (rung_on view alarm) (days_of alarm))
