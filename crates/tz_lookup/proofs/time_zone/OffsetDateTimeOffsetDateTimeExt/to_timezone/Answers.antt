use Rattle.std.proofs.Common.{◌≡◌, ℤ, Option, Some, None, IfSome, ◌∙◌}
use Rattle.civil_base.specs.{DateTimes.{instant, offset_of}, declared.offset_date_time.OffsetDateTime.{OffsetDateTime}}
use Rattle.tz_lookup.specs.InForce.{shown_of}
use Rattle.tz_lookup.proofs.time_zone.OffsetDateTimeOffsetDateTimeExt.to_timezone.Goals as goal

shown : (r : Option OffsetDateTime) (t o p : ℤ) → o ≡ p → IfSome r (λ v. instant v ≡ t) → IfSome r (λ v. offset_of v ≡ o)
    → IfSome r (λ v. shown_of v ≡ (t, p))
unfolding shown_of
shown None t o p e h k = tt
shown (Some v) t o p e h k = λ i. (h i, (k ∙ e) i)

pub returns-clause-shown : goal.returns-clause-shown
returns-clause-shown g c =
    shown c.to_offset.result _ _ _
    (c.to_utc.ensures ∙ c.get_offset_utc-offset.ensures.total) c.to_offset.ensures.instant c.to_offset.ensures.offset
