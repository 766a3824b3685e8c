-- What the consistent file of a set says, with its footer.
use Rattle.std.proofs.Common.{◌≡◌, ℕ, Bool, true, false, ◌||◌, cond, List, [], Option, Some, None, is_none, ℤ, ◌<ℤ◌, refl, sym, ap, ◌∙◌, subst}
use Rattle.civil_base.specs.Instants.{seconds_of}
use Rattle.zone_spans.specs.Schedules.{total_at as set_total_at}
use Rattle.tz_lookup.specs.{Sets.{schedule_of}, declared.set.FixedTimespanSet.{FixedTimespanSet}}
use Rattle.tz_tzif.specs.{FooterLaws.{no_text}, FooterForce.{FooterZone, is_of_one_year}, Standing.{StandsFor}, Faults.{SaysInFooter}, InForce.{are_over, told_total_at}}
use Rattle.zone_tail.specs.{Carried.{CarriesOn}, Found.{found_from, found_text}, Tails.{IsTail, end_of_last_year, is_ending_early, is_outlasting, is_saving_on, tail_fault}, declared.outcome.TailFault.{TailFault}}
use Rattle.zone_tzif_core.specs.{Totals.{file_total_at}, Zones.{ZoneValue}}
use Rattle.zone_tzif.specs.{Files.{consistent_footer, consistent_zone, footer_of, is_contradicted, IsCarriedOn}, Values.{value_by, value_of}, Footers.{IsSaid}}

-- by the laws on the totals of files
module _ (alone : (zone : ZoneValue) (t : ℤ) → told_total_at zone None t ≡ file_total_at zone t)
    (kept : (z : FixedTimespanSet) (footer : List ℕ) (t : ℤ) → file_total_at (value_of z footer) t ≡ set_total_at (schedule_of z) t)
    (carried_on : (set : FixedTimespanSet) (from : Option ℤ) (text : List ℕ) (footer : FooterZone) (t : ℤ) → IsTail set from text
    → CarriesOn set from text → StandsFor text footer → seconds_of t <ℤ end_of_last_year set
    → (is_ending_early set ≡ true → are_over (value_of set text).rest (seconds_of t) ≡ true → is_of_one_year footer (seconds_of t) ≡ true)
    → told_total_at (value_of set text) (Some footer) t ≡ set_total_at (schedule_of set) t) where
  -- without a text
  by_changes : (set : FixedTimespanSet) (text : List ℕ) (footer : Option FooterZone) (t : ℤ) → text ≡ [] → SaysInFooter text footer
      → told_total_at (value_of set text) footer t ≡ set_total_at (schedule_of set) t
  by_changes set text None t e says = alone (value_of set text) t ∙ kept set text t
  by_changes set text (Some f) t e says = absurd (no_text says e)

  not_early : (a b c : Bool) → (a || b || c) ≡ false → b ≡ true → ⊥
  not_early true b c e h = cc
  not_early false true c e h = cc
  not_early false false c e h = cc

  -- by the string of the set
  by_string : (set : FixedTimespanSet) (footer : Option FooterZone) (t : ℤ) → IsCarriedOn set → is_contradicted set ≡ false
      → SaysInFooter (footer_of set) footer → IsSaid set t
      → told_total_at (value_of set (footer_of set)) footer t ≡ set_total_at (schedule_of set) t
  unfolding footer_of value_by is_contradicted
  by_string set None t carried last says said = alone (value_of set (footer_of set)) t ∙ kept set (footer_of set) t
  by_string set (Some f) t carried last says said = by_fault (tail_fault set) refl
    where
      by_fault : (fault : Option TailFault) → tail_fault set ≡ fault
          → told_total_at (value_of set (footer_of set)) (Some f) t ≡ set_total_at (schedule_of set) t
      by_fault None none =
          carried_on set (found_from set) (footer_of set) f t (carried.tail none) (carried.carries none) says (said.within last none)
          (λ early. absurd (not_early (is_outlasting set) (is_ending_early set) (is_saving_on set) last early))
      by_fault (Some fault) some = absurd (no_text says (ap (λ o. cond (is_none o) (found_text set) []) some))

  pub consistent : (set : FixedTimespanSet) (footer : Option FooterZone) (t : ℤ) → IsCarriedOn set → SaysInFooter (consistent_zone set).footer footer
      → IsSaid set t → told_total_at (consistent_zone set) footer t ≡ set_total_at (schedule_of set) t
  unfolding consistent_footer value_by
  consistent set footer t carried says said = by_test (is_contradicted set) refl
    where
      by_test : (b : Bool) → is_contradicted set ≡ b → told_total_at (consistent_zone set) footer t ≡ set_total_at (schedule_of set) t
      by_test true e = by_changes set (consistent_footer set) footer t (ap (λ b. cond b [] (footer_of set)) e) says
      by_test false e =
          let same : consistent_footer set ≡ footer_of set = ap (λ b. cond b [] (footer_of set)) e in
          ap (λ text. told_total_at (value_of set text) footer t) same
          ∙ by_string set footer t carried e (subst (λ text. SaysInFooter text footer) same says) said
