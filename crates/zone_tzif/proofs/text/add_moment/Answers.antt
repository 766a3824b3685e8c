use Rattle.std.proofs.Common.{◌≡◌, ◌++◌, FitsSigned, w32, rules, to_z-of_z, OnOk, string_bytes, ◌∙◌, subst}
use Rattle.basics.specs.Days.{days_in_month}
use Rattle.zone_tzif.specs.Tried.{moment_text, parts_text, week_of}
use Rattle.zone_tzif.proofs.text.add_moment.Goals as goal

pub returns : goal.returns
unfolding moment_text
returns c =
    let date = rw (to_z-of_z c.ranges.day) at c.date_of-date.ensures in
    let fits : FitsSigned w32 c.date_of-date.result.year = search rules in
    let year = date.year in
    let month = date.month in
    let length = (rw (to_z-of_z fits) at c.month_length.ensures.value) ∙ (λ i. days_in_month (year i) (month i)) in
    let week = c.week_of-week.ensures ∙ (λ i. week_of (length i) (date.day i) c.args.choice) in
    let weekday = rw (to_z-of_z c.ranges.day) at c.weekday.ensures.value in
    let seconds = to_z-of_z c.ranges.seconds in
    subst (λ more. OnOk c.add_parts.result (string_bytes c.add_parts.new.text ≡ string_bytes c.args.text.now ++ more))
    (λ i. parts_text (month i) (week i) (weekday i) (seconds i)) c.add_parts.ensures
