-- From its last change on a set's zone has what its string gives, and before it what the set gives.
use Rattle.std.{proofs.Common.{◌≡◌, ℕ, zero, suc, ◌<◌, Bool, true, false, ◌&&◌, List, [], ◌∷◌, length, map, Option, Some, ℤ, ◌≤ℤ◌, ◌<ℤ◌, int_le, refl, sym, ap, ◌∙◌, subst, arith}, specs.List.{list_all}, proofs.lemmas.Bool.{and_parts}}
use Rattle.basics.specs.ComparisonLaws.{le_from_pass}
use Rattle.civil_base.specs.Instants.{seconds_of}
use Rattle.zone_spans.specs.{Entries.{Entry}, Schedules.{total_at as set_total_at}}
use Rattle.tz_lookup.specs.{Sets.{schedule_of, shift_of, shifts_of}, Spans.{shift_at}, declared.set.FixedTimespanSet.{FixedTimespanSet}}
use Rattle.tz_tzif.specs.{FooterForce.{FooterZone, held_at, is_of_one_year}, Spells.{SpellsFooter}, Standing.{StandsFor, stands_for}, Values.{FooterValue}, InForce.{are_over, told_total_at}}
use Rattle.zone_tail.specs.{Candidates.{IsAllowed}, Carried.{CarriesOn, IsCovered, IsFrom}, Tails.{IsTail, beginning, end_of_last_year, is_ending_early}}
use Rattle.zone_tzif_core.specs.{Totals.{file_total_at}, Zones.{KindValue, ZoneValue}}
use Rattle.zone_tzif.{specs.Values.{change_by, value_by, value_of}, specs.declared.convert.Saves.TheVariants.{Above}, proofs.StringLemmas.{Both, both}, specs.Footers.{IsFooterText}}

all_begun : (entries : List Entry) (s : ℤ) → list_all (λ (change : ℤ × KindValue). int_le change.0 s) (map (change_by Above) entries) ≡ true → (i : ℕ)
    → i < length (map shift_of entries) → (shift_at (map shift_of entries) i).0 ≤ℤ s
all_begun [] s h i l = absurd (omega (arith, l))
all_begun (entry ∷ entries) s h zero l = le_from_pass entry.0 s (and_parts (int_le entry.0 s) _ h).0
all_begun (entry ∷ entries) s h (suc i) l = all_begun entries s (and_parts (int_le entry.0 s) _ h).1 i (omega (arith, l))

begun : (set : FixedTimespanSet) (s : ℤ) (span : ℕ) (candidate : _) → IsAllowed candidate (schedule_of set) span
    → list_all (λ (change : ℤ × KindValue). int_le change.0 s) (map (change_by Above) set.others) ≡ true → IsFrom (beginning (shifts_of set) span) s
begun set s zero candidate allowed over = tt
begun set s (suc i) candidate allowed over = all_begun set.others s over i allowed.0

-- the entries themselves
entries_over : (entries : List Entry) (s : ℤ) → list_all (λ (change : ℤ × KindValue). int_le change.0 s) (map (change_by Above) entries)
    ≡ list_all (λ (entry : Entry). int_le entry.0 s) entries
entries_over [] s = refl
entries_over (entry ∷ entries) s = ap (λ b. int_le entry.0 s && b) (entries_over entries s)

over_of : (set : FixedTimespanSet) (text : List ℕ) (s : ℤ) → are_over (value_of set text).rest s ≡ true
    → list_all (λ (change : ℤ × KindValue). int_le change.0 s) (map (change_by Above) set.others) ≡ true
unfolding value_by
over_of set text s h = h

module _ (set : FixedTimespanSet) (from : Option ℤ) (text : List ℕ) (carries : CarriesOn set from text) where
  both_of : Both text carries.zone
  both_of = both carries.zone carries.spelled carries.in_range carries.stands_for

  pub is_footer : IsFooterText text
  is_footer = record {
    zone = stands_for both_of.value;
    stands = record { value = both_of.value; is = both_of.is; stands = refl };
  }

  after_over : (tail : IsTail set from text) (footer : FooterZone) (t : ℤ) → ((x y : FooterValue) → SpellsFooter text x → SpellsFooter text y → x ≡ y)
      → StandsFor text footer → seconds_of t <ℤ end_of_last_year set
      → list_all (λ (change : ℤ × KindValue). int_le change.0 (seconds_of t)) (map (change_by Above) set.others) ≡ true
      → (is_ending_early set ≡ true → is_of_one_year footer (seconds_of t) ≡ true)
      → (held_at footer (seconds_of t)).utoff ≡ set_total_at (schedule_of set) t
  after_over tail footer t one stands last over own =
      let s = seconds_of t in
      let same : stands_for both_of.value ≡ footer =
      ap stands_for (one both_of.value stands.value both_of.is.spelled stands.is.spelled) ∙ stands.stands in
      let covered : IsCovered set from t = record {
        begun = subst (λ o. IsFrom o s) (sym tail.begins) (begun set s tail.span _ tail.choice.allowed over);
        not_over = last;
      } in
      let gives = both_of.gives t (by_end (is_ending_early set) refl) in
      ap (λ f. (held_at f s).utoff) (sym same) ∙ sym gives.is ∙ carries.agrees t gives.given covered gives.gives
    where
      by_end : (b : Bool) → is_ending_early set ≡ b → is_of_one_year (stands_for both_of.value) (seconds_of t) ≡ true
      by_end true early =
          let same : stands_for both_of.value ≡ footer = ap stands_for (one both_of.value stands.value both_of.is.spelled stands.is.spelled) ∙ stands.stands in
          ap (λ f. is_of_one_year f (seconds_of t)) same ∙ own early
      by_end false later =
          both_of.own (seconds_of t) (carries.settled later (seconds_of t) (record { over = sym (entries_over set.others (seconds_of t)) ∙ over; not_over = last }))

  -- by the laws on the totals of files
  pub carried : ((z : FixedTimespanSet) (footer : List ℕ) (t : ℤ) → file_total_at (value_of z footer) t ≡ set_total_at (schedule_of z) t)
      → ((zone : ZoneValue) (footer : FooterZone) (t : ℤ) → are_over zone.rest (seconds_of t) ≡ false
      → told_total_at zone (Some footer) t ≡ file_total_at zone t)
      → ((zone : ZoneValue) (footer : FooterZone) (t : ℤ) → are_over zone.rest (seconds_of t) ≡ true
      → told_total_at zone (Some footer) t ≡ (held_at footer (seconds_of t)).utoff)
      → (tail : IsTail set from text) (footer : FooterZone) (t : ℤ) → ((x y : FooterValue) → SpellsFooter text x → SpellsFooter text y → x ≡ y)
      → StandsFor text footer → seconds_of t <ℤ end_of_last_year set
      → (is_ending_early set ≡ true → are_over (value_of set text).rest (seconds_of t) ≡ true → is_of_one_year footer (seconds_of t) ≡ true)
      → told_total_at (value_of set text) (Some footer) t ≡ set_total_at (schedule_of set) t
  carried kept before after tail footer t one stands last own = by_over (are_over (value_of set text).rest (seconds_of t)) refl
    where
      by_over : (b : Bool) → are_over (value_of set text).rest (seconds_of t) ≡ b
          → told_total_at (value_of set text) (Some footer) t ≡ set_total_at (schedule_of set) t
      by_over false over = before (value_of set text) footer t over ∙ kept set text t
      by_over true over = after (value_of set text) footer t over ∙ after_over tail footer t one stands last (over_of set text (seconds_of t) over) (λ early. own early over)
