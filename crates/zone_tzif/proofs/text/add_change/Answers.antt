use Rattle.std.{proofs.Common.{◌≡◌, ◌++◌, ◌%◌, ◌-ℤ◌, ◌*ℤ◌, pos, FitsSigned, w32, w64, rules, to_z-of_z, OnOk, string_bytes, ap, ◌∙◌, subst}, specs.Int.{int_div_euclid}}
use Rattle.zone_tzif.specs.Tried.{change_by, days_back, is_past_noon, named_text}
use Rattle.zone_tzif.proofs.text.add_change.Goals as goal

pub returns : goal.returns
unfolding change_by
returns c =
    let local = to_z-of_z c.ranges.local in
    let fits : FitsSigned w32 c.named_day-day.result = search rules in
    let fits_seconds : FitsSigned w64 c.seconds_after-seconds.result = search rules in
    let is = (rw local at c.named_day-day.ensures.is)
    ∙ ap (λ b. int_div_euclid c.args.local (pos 86400) -ℤ days_back (is_past_noon c.args.local) b) c.day_by.ensures.is in
    let day = to_z-of_z fits ∙ is in
    let seconds = to_z-of_z fits_seconds ∙ (rw (local, to_z-of_z fits) at c.seconds_after-seconds.ensures.is) ∙ ap (λ d. c.args.local -ℤ pos 86400 *ℤ d) is in
    let dated = c.is_dated.ensures in
    subst (λ more. OnOk c.add_named.result (string_bytes c.add_named.new.text ≡ string_bytes c.args.text.now ++ more))
    (λ i. named_text (dated i) (day i) (seconds i) (c.args.number % 2)) c.add_named.ensures
