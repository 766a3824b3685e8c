-- What values stand for, over worked databases.
use Rattle.std.proofs.Common.{◌≡◌, refl, ℕ, true, false, List, [], ◌∷◌, map, Option, Some, None, Result, Ok, Err, codes, ℤ, pos, neg_ℤ}
use Rattle.tz_lookup.specs.declared.set.FixedTimespanSet.{FixedTimespanSet}
use Rattle.tz_posix.specs.{InForce.{YearlyTime}, PosixShown.{IsAtOffset}, PosixZones.{Named, PosixZone, zone, fixed, ruled, borrowed, iana_of}, Resolved.{resolved}, Seconds.{offset_seconds, time_seconds}, Values.{short, expanded}}
use Rattle.tz_posix.specs.declared.{date.Date.TheVariants.{J}, error.Error.{Error}, error.Error.TheVariants.{ComponentRange}, time.Offset.{Offset}, time.Time.{Time}, values.Rule.{Rule}}

abbrev west : ℕ → Offset
west hours = record { positive = true; time = record { hh = hours; mm = None; ss = None } }

abbrev days : Rule Time
days = record { start = (J 1, None); end = (J 2, Some (record { hh = 3; mm = None; ss = None })) }

-- standard time five hours west, and daylight saving time of this offset and rule
abbrev west_five : Option Offset → Option (Rule Time) → List FixedTimespanSet → Result PosixZone (List ℕ)
west_five own rule zones =
    resolved zones (expanded (record { name = codes "EST"; offset = west 5 })
    (Some (record { name = codes "EDT"; offset = own; rule = rule })))

-- an hour ahead where no offset is written
worked_saving : west_five None (Some days) [] ∷ west_five (Some (west 7)) (Some days) [] ∷ []
    ≡ Ok (ruled (record { name = codes "EST"; total = neg_ℤ (pos 18000) }) (record { name = codes "EDT"; total = neg_ℤ (pos 14400) })
    (J 1, pos 7200) (J 2, pos 10800))
    ∷ Ok (ruled (record { name = codes "EST"; total = neg_ℤ (pos 18000) }) (record { name = codes "EDT"; total = neg_ℤ (pos 25200) })
    (J 1, pos 7200) (J 2, pos 10800)) ∷ []
unfolding resolved offset_seconds time_seconds
worked_saving = refl

worked_fixed : resolved [] (expanded (record { name = codes "A"; offset = record (west 10) { positive = false } }) None)
    ≡ Ok (fixed (record { name = codes "A"; total = pos 36000 }))
unfolding resolved offset_seconds time_seconds
worked_fixed = refl

module _ (named : List ℕ → FixedTimespanSet) (has_name : (name : List ℕ) → (named name).name ≡ name) where
  -- the first zone that has the part
  worked_short : resolved (named (codes "A/B") ∷ named (codes "A/York") ∷ named (codes "B/York") ∷ []) (short (codes "York"))
      ≡ Ok (zone (named (codes "A/York")))
  unfolding resolved
  worked_short = rw (has_name (codes "A/B"), has_name (codes "A/York")) refl

  worked_unknown : resolved (named (codes "A/B") ∷ []) (short (codes "Mars")) ≡ Err (codes "Mars")
  unfolding resolved
  worked_unknown = rw (has_name (codes "A/B")) refl

  -- without a rule that of New York
  worked_borrowed : west_five None None (named (codes "A/B") ∷ named (codes "America/New_York") ∷ [])
      ≡ Ok (borrowed (record { name = codes "EST"; total = neg_ℤ (pos 18000) }) (record { name = codes "EDT"; total = neg_ℤ (pos 14400) })
      (named (codes "America/New_York")))
  unfolding resolved offset_seconds time_seconds
  worked_borrowed = rw (has_name (codes "A/B"), has_name (codes "America/New_York")) refl

  worked_none : west_five None None (named (codes "America/New_York_") ∷ []) ≡ Err (codes "America/New_York")
  unfolding resolved
  worked_none = rw (has_name (codes "America/New_York_")) refl

-- only the short form is a zone of the database, not a text that borrows one's rule
module _ (set : FixedTimespanSet) (standard saving : Named) (start end : YearlyTime) where
  worked_iana : map iana_of (zone set ∷ fixed standard ∷ ruled standard saving start end ∷ borrowed standard saving set ∷ [])
      ≡ Some set ∷ None ∷ None ∷ None ∷ []
  worked_iana = refl

-- an instant whose date there lies past the years is refused by this cause
worked_refusal : (t total : ℤ) (error : Error) → IsAtOffset t total (Err error) → error ≡ ComponentRange
worked_refusal t total error at = at.told
