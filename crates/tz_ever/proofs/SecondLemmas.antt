-- One total is in force throughout a second.
use Rattle.std.proofs.Common.{◌≡◌, ℕ, ◌*◌, ℤ, pos, ◌+ℤ◌, ◌-ℤ◌, sym, ap, ◌∙◌, arith}
use Rattle.basics.specs.SignedLaws.{signed}
use Rattle.civil_base.specs.Instants.{nanos_of, seconds_of}
use Rattle.zone_spans.specs.Schedules.{Schedule, total_at}
use Rattle.tz_lookup.specs.{SecondLaws.{IsSecond, one_second, second_is, total_is}, Sets.{schedule_of}, Spans.{total_from}, declared.set.FixedTimespanSet.{FixedTimespanSet}}
use Rattle.tz_ever.specs.{Ever.{ever_total}, Recurrences.{turned, zone_total}, Seam.{brought_back, cycles_past}, SeamLaws.{ArePast, back_by, cycles_past-are}}
use Rattle.tz_ever.{specs.declared.{recurrence.Recurrence.{Recurrence}, recurrence.Recurrence.TheVariants.{Never, Later, Always}}, proofs.TurnLemmas.{always_is}}

begins_at : (s : ℤ) → IsSecond (nanos_of s) s
begins_at s = record { low = omega (arith, signed); high = omega (arith, signed) }

-- a second lies on one side of each seam
same_past : (t s : ℤ) (k : ℕ) → IsSecond t s → ArePast t k → ArePast (nanos_of s) k
same_past t s k at past = record {
  begun = λ some. let begun = past.begun some in omega (arith, signed, at.low, at.high);
  not_over = let not_over = past.not_over in omega (arith, signed, at.low);
}

brought : (t s : ℤ) (k : ℕ) → IsSecond t s → IsSecond (t -ℤ pos (k * 12622780800000000000)) (s -ℤ pos (k * 12622780800))
brought t s k at = record { low = omega (arith, signed, at.low); high = omega (arith, signed, at.high) }

same_total : (zone : Schedule) (t u s : ℤ) → IsSecond t s → IsSecond u s → total_at zone t ≡ total_at zone u
same_total zone t u s h g =
    total_is zone t
    ∙ ap (total_from zone.first zone.shifts) (one_second t (seconds_of t) s (second_is t) h ∙ one_second u s (seconds_of u) g (second_is u))
    ∙ sym (total_is zone u)

pub by_seconds : (set : FixedTimespanSet) (t : ℤ) → ever_total set t ≡ ever_total set (nanos_of (seconds_of t))
unfolding ever_total
by_seconds set t =
    let zone = schedule_of set in
    let s = seconds_of t in
    let at = second_is t in
    let k = cycles_past t in
    let past = cycles_past-are t in
    ap (total_at zone) (back_by t k past) ∙ same_total zone _ _ _ (brought t s k at) (brought (nanos_of s) s k (begins_at s))
    ∙ sym (ap (total_at zone) (back_by (nanos_of s) k (same_past t s k at past)))

-- ---- of a zone
later_second : (t s : ℤ) → IsSecond t s → IsSecond (t +ℤ pos 391306204800000000000) (s +ℤ pos 391306204800)
later_second t s at = record { low = omega (arith, signed, at.low); high = omega (arith, signed, at.high) }

later_is : (t : ℤ) → seconds_of (t +ℤ pos 391306204800000000000) ≡ seconds_of t +ℤ pos 391306204800
later_is t =
    let u = t +ℤ pos 391306204800000000000 in
    one_second u (seconds_of u) (seconds_of t +ℤ pos 391306204800) (second_is u) (later_second t (seconds_of t) (second_is t))

nanos_later : (s : ℤ) → nanos_of (s +ℤ pos 391306204800) ≡ nanos_of s +ℤ pos 391306204800000000000
nanos_later s = omega (arith, signed)

pub zone_by_seconds : (recurrence : Recurrence) (set : FixedTimespanSet) (t : ℤ)
    → zone_total recurrence set t ≡ zone_total recurrence set (nanos_of (seconds_of t))
unfolding zone_total turned ever_total
zone_by_seconds Never set t =
    same_total (schedule_of set) t (nanos_of (seconds_of t)) (seconds_of t) (second_is t) (begins_at (seconds_of t))
zone_by_seconds Later set t = by_seconds set t
zone_by_seconds Always set t =
    ap (total_at (schedule_of set)) (always_is t)
    ∙ by_seconds set (t +ℤ pos 391306204800000000000)
    ∙ ap (λ s. total_at (schedule_of set) (brought_back (nanos_of s))) (later_is t)
    ∙ ap (λ u. total_at (schedule_of set) (brought_back u)) (nanos_later (seconds_of t))
    ∙ sym (ap (total_at (schedule_of set)) (always_is (nanos_of (seconds_of t))))
