use Rattle.std.proofs.{Common.{◌≡◌, true, false, ℤ, pos, ◌+ℤ◌, ◌-ℤ◌, FitsSigned, w32, to_z, of_z, to_z-of_z, rules, refl, sym, ap, ◌∙◌, arith}, lemmas.Int.{ints}}
use Rattle.tz_posix.specs.{InForce.{moments_in}, Yearly.{time_shown}}
use Rattle.tz_tzif.specs.FooterForce.{has_begun, is_saved, is_saved_by, is_saved_since}
use Rattle.tz_tzif.proofs.rule.is_saving_in.Goals as goal

by_after : (after here before earlier : ℤ × ℤ) (s : ℤ) → has_begun after s ≡ true → is_saved_by after here before earlier s ≡ is_saved after s
unfolding is_saved_by
by_after after here before earlier s begun = rw (begun) refl

by_here : (after here before earlier : ℤ × ℤ) (s : ℤ) → has_begun after s ≡ false → has_begun here s ≡ true
    → is_saved_by after here before earlier s ≡ is_saved here s
unfolding is_saved_by
by_here after here before earlier s later begun = rw (later, begun) refl

by_neither : (after here before earlier : ℤ × ℤ) (s : ℤ) → has_begun after s ≡ false → has_begun here s ≡ false
    → is_saved_by after here before earlier s ≡ is_saved_since before earlier s
unfolding is_saved_by
by_neither after here before earlier s later not_yet = rw (later, not_yet) refl

pub returns-then-has_begun : goal.returns-then-has_begun
returns-then-has_begun c =
    let moments = moments_in c.args.standard c.args.saving (time_shown c.args.rule.now.start) (time_shown c.args.rule.now.end) in
    let y = c.args.year in
    let second = to_z-of_z c.ranges.second in
    let plus : FitsSigned w32 (to_z w32 (of_z w32 c.args.year) +ℤ pos 1) = search rules in
    let after = c.moments_in-after.ensures ∙ ap moments (to_z-of_z plus ∙ ap (λ z. z +ℤ pos 1) (to_z-of_z c.ranges.year)) in
    let begun = sym (λ i. has_begun (after i) (second i)) ∙ sym c.has_begun.ensures ∙ c.if-has_begun.true in
    c.is_saved.ensures
    ∙ (λ i. is_saved (after i) (second i))
    ∙ sym (by_after (moments (y +ℤ pos 1)) (moments y) (moments (y -ℤ pos 1)) (moments (y -ℤ pos 2)) c.args.second begun)

pub returns-then-has_begun-2 : goal.returns-then-has_begun-2
returns-then-has_begun-2 c =
    let moments = moments_in c.args.standard c.args.saving (time_shown c.args.rule.now.start) (time_shown c.args.rule.now.end) in
    let y = c.args.year in
    let second = to_z-of_z c.ranges.second in
    let plus : FitsSigned w32 (to_z w32 (of_z w32 c.args.year) +ℤ pos 1) = search rules in
    let after = c.moments_in-after.ensures ∙ ap moments (to_z-of_z plus ∙ ap (λ z. z +ℤ pos 1) (to_z-of_z c.ranges.year)) in
    let not_yet = sym (λ i. has_begun (after i) (second i)) ∙ sym c.has_begun.ensures ∙ c.if-has_begun.false in
    let here = c.moments_in-here.ensures ∙ ap moments (to_z-of_z c.ranges.year) in
    let begun = sym (λ i. has_begun (here i) (second i)) ∙ sym c.has_begun-2.ensures ∙ c.if-has_begun-2.true in
    c.is_saved-then-has_begun-2.ensures
    ∙ (λ i. is_saved (here i) (second i))
    ∙ sym (by_here (moments (y +ℤ pos 1)) (moments y) (moments (y -ℤ pos 1)) (moments (y -ℤ pos 2)) c.args.second not_yet begun)

pub returns : goal.returns
returns c =
    let moments = moments_in c.args.standard c.args.saving (time_shown c.args.rule.now.start) (time_shown c.args.rule.now.end) in
    let y = c.args.year in
    let year = to_z-of_z c.ranges.year in
    let second = to_z-of_z c.ranges.second in
    let plus : FitsSigned w32 (to_z w32 (of_z w32 c.args.year) +ℤ pos 1) = search rules in
    let minus : FitsSigned w32 (to_z w32 (of_z w32 c.args.year) -ℤ pos 1) = search rules in
    let after = c.moments_in-after.ensures ∙ ap moments (to_z-of_z plus ∙ ap (λ z. z +ℤ pos 1) year) in
    let not_yet = sym (λ i. has_begun (after i) (second i)) ∙ sym c.has_begun.ensures ∙ c.if-has_begun.false in
    let here = c.moments_in-here.ensures ∙ ap moments year in
    let nor_here = sym (λ i. has_begun (here i) (second i)) ∙ sym c.has_begun-2.ensures ∙ c.if-has_begun-2.false in
    let last = to_z-of_z minus ∙ ap (λ z. z -ℤ pos 1) year in
    let two : (y -ℤ pos 1) -ℤ pos 1 ≡ y -ℤ pos 2 = omega (arith, ints) in
    c.is_saved_since.ensures
    ∙ (λ i. is_saved_since (moments (last i)) (moments (last i -ℤ pos 1)) (second i))
    ∙ ap (λ z. is_saved_since (moments (y -ℤ pos 1)) (moments z) c.args.second) two
    ∙ sym (by_neither (moments (y +ℤ pos 1)) (moments y) (moments (y -ℤ pos 1)) (moments (y -ℤ pos 2)) c.args.second not_yet nor_here)
