use Rattle.std.proofs.Common.{◌≡◌, false, ℤ, pos, ◌-ℤ◌, int_lt, FitsSigned, w32, to_z, of_z, to_z-of_z, rules, refl, sym, ap, ◌∙◌}
use Rattle.tz_posix.specs.{InForce.{moments_in}, Yearly.{time_shown}}
use Rattle.tz_tzif.specs.FooterForce.{has_begun, is_saved_since}
use Rattle.tz_tzif.proofs.rule.is_saved_since.Goals as goal

by_earlier : (before earlier : ℤ × ℤ) (s : ℤ) → has_begun before s ≡ false → is_saved_since before earlier s ≡ int_lt earlier.1 earlier.0
by_earlier before earlier s not_yet = rw (not_yet) refl

pub returns-else-has_begun : goal.returns-else-has_begun
returns-else-has_begun c =
    let moments = moments_in c.args.standard c.args.saving (time_shown c.args.rule.now.start) (time_shown c.args.rule.now.end) in
    let year = to_z-of_z c.ranges.year in
    let fits : FitsSigned w32 (to_z w32 (of_z w32 c.args.year) -ℤ pos 1) = search rules in
    let before = c.moments_in-before.ensures ∙ ap moments year in
    let earlier = c.moments_in.ensures ∙ ap moments (to_z-of_z fits ∙ ap (λ y. y -ℤ pos 1) year) in
    let not_yet = sym (λ i. has_begun (before i) (to_z-of_z c.ranges.second i)) ∙ sym c.has_begun.ensures ∙ c.if-has_begun.false in
    c.is_reversed.ensures
    ∙ ap (λ (m : ℤ × ℤ). int_lt m.1 m.0) earlier
    ∙ sym (by_earlier (moments c.args.year) (moments (c.args.year -ℤ pos 1)) c.args.second not_yet)
