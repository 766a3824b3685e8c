-- The totals of a zone beside those of its changes alone.
use Rattle.std.proofs.{Common.{◌≡◌, ℤ, pos, ◌*ℤ◌, int_le, Bool, true, false, cond, Some, None, filter, sym, ap, ◌∙◌, arith}, lemmas.Int.{ints}}
use Rattle.civil_base.specs.Instants.{seconds_of}
use Rattle.tz_lookup.specs.SecondLaws.{IsSecond, second_is}
use Rattle.tz_tzif.specs.{FooterForce.{FooterZone, held_at}, InForce.{are_over, changed_kind, kind_in, kind_at, told_total_at}}
use Rattle.tz_tzif.proofs.laws.file_totals.Goals as goal
use Rattle.zone_tzif_core.specs.{Totals.{last_kind, file_total_at}, Zones.{KindValue, ZoneValue}}

test_same : (a t s : ℤ) → IsSecond t s → int_le (a *ℤ pos 1000000000) t ≡ int_le a s
test_same a t s h = grind (arith, ints, h.low, h.high)

-- a change is at or before an instant where it is at or before its second
changed_is : (zone : ZoneValue) (t : ℤ) → (changed_kind zone (seconds_of t)).utoff ≡ file_total_at zone t
unfolding file_total_at
changed_is zone t =
    ap (λ (p : ℤ × KindValue → Bool). (last_kind zone.first (filter p zone.rest)).utoff)
    (λ i change. sym (test_same change.0 t (seconds_of t) (second_is t)) i)

alone : (zone : ZoneValue) (t : ℤ) → told_total_at zone None t ≡ file_total_at zone t
unfolding kind_at kind_in
alone zone t = changed_is zone t

before : (zone : ZoneValue) (footer : FooterZone) (t : ℤ) → are_over zone.rest (seconds_of t) ≡ false
    → told_total_at zone (Some footer) t ≡ file_total_at zone t
unfolding kind_at kind_in
before zone footer t over =
    ap (λ b. (cond b (held_at footer (seconds_of t)) (changed_kind zone (seconds_of t))).utoff) over ∙ changed_is zone t

after : (zone : ZoneValue) (footer : FooterZone) (t : ℤ) → are_over zone.rest (seconds_of t) ≡ true
    → told_total_at zone (Some footer) t ≡ (held_at footer (seconds_of t)).utoff
unfolding kind_at kind_in
after zone footer t over = ap (λ b. (cond b (held_at footer (seconds_of t)) (changed_kind zone (seconds_of t))).utoff) over

pub returns-clause-alone : goal.returns-clause-alone
returns-clause-alone c = alone

pub returns-clause-before : goal.returns-clause-before
returns-clause-before c = before

pub returns-clause-after : goal.returns-clause-after
returns-clause-after c = after
