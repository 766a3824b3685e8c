-- Zones of files and of strings.
use Rattle.std.{proofs.Common.{◌≡◌, ℕ, Bool, true, false, List, [], ℤ, pos, negsuc, Option, Some, None, int_le, refl, sym, ap, ◌∙◌, subst, arith}, specs.Prelude.{◌&&◌, IfErr, IfOk, MatchResult, Result, Ok, Err}, proofs.lemmas.Int.{ints}}
use Rattle.basics.specs.ComparisonLaws.{le_pass}
use Rattle.civil_base.specs.{Instants.{seconds_of}, Ranges.{IsInYears, IsOffset}, RangeLaws.{offset_least, offset_greatest}}
use Rattle.tz_tzif.specs.{FooterForce.{standard_total}, InForce.{told_total_at}, Opened.{IsOpenedAs}, Ranges.{IsFooterOf}, Standing.{kind_of, stands_for, with_saving}, Values.{FooterValue, SavingValue}, Years.{HasDate}, declared.spans.FileSpans.{FileSpans}}
use Rattle.tz_ever.specs.Recurrences.{zone_span, zone_total}
use Rattle.tz_lookup.specs.InForce.{all_in_force}
use Rattle.tz_posix.specs.Seconds.{east_of}
use Rattle.zone_tzif_core.specs.{Shown.{kind_shown}, declared.values.Kind.{Kind}, Zones.{KindValue, ZoneValue, is_small}}
use Rattle.sefunjaro.specs.{Files.{ShowsFile}, Posix.{standard_kind, IsPosixFault, IsStandardOf}, Zones.{all_in, origin_in, recurrence_in, total_in}, declared.file.PosixFault.{PosixFault}, declared.file.PosixFault.TheVariants.{NoMemory}, declared.zone.OpenZone.{OpenZone}, declared.zone.Origin.TheVariants.{File}}

both : (a b : Bool) → a ≡ true → b ≡ true → (a && b) ≡ true
both a b h k = λ i. h i && k i

pub small_offset : (o : ℤ) → IsOffset o → is_small o ≡ true
small_offset o h =
    both (int_le (negsuc 93598) o) (int_le o (pos 93599)) (le_pass (negsuc 93598) o (omega (arith, ints, offset_least o h)))
    (le_pass o (pos 93599) (omega (arith, ints, offset_greatest o h)))

-- the offset of standard time is what the string writes
pub standard_of : (value : FooterValue) → standard_total (stands_for value) ≡ east_of value.standard.offset
unfolding stands_for
standard_of value = by_saving value.saving
  where
    by_saving : (saving : Option SavingValue) → standard_total (with_saving (standard_kind value) saving) ≡ east_of value.standard.offset
    by_saving None = refl
    by_saving (Some saving) = refl

-- standard time that is made of a string's parts is the string's, or there was no memory
pub told : (text name : List ℕ) (value : FooterValue) (offset : ℤ) (result : Result Kind PosixFault) → IsFooterOf text value
    → name ≡ value.standard.name → offset ≡ east_of value.standard.offset
    → IfOk result (λ kind. kind_shown kind ≡ record { utoff = offset; is_dst = false; name = name }) → IfOk result (λ _. is_small offset ≡ true)
    → IfErr result (λ fault. fault ≡ NoMemory) → MatchResult result (λ kind. IsStandardOf text (kind_shown kind)) (IsPosixFault text)
told text name value offset (Ok kind) is n o k small err = record {
  value = value;
  is = is;
  written = k ∙ (λ i. kind_of (n i) (o i) false);
  small = subst (λ (shown : KindValue). is_small shown.utoff ≡ true) (sym k) small;
}
told text name value offset (Err fault) is n o k small err = subst (IsPosixFault text) (sym err) (value, is)

-- what a value opens as, shows it, by the law of what opens
pub shows_file : (value : ZoneValue) (spans : FileSpans) (zone : OpenZone) (opened : IsOpenedAs [] value spans)
    → ((t : ℤ) → HasDate (seconds_of t) → zone_total spans.recurrence spans.set t ≡ told_total_at value opened.says t)
    → ((x : ℤ) → IsInYears x → all_in_force (zone_total spans.recurrence spans.set) x ≡ all_in_force (told_total_at value opened.says) x)
    → all_in zone ≡ spans.set → recurrence_in zone ≡ spans.recurrence → origin_in zone ≡ File → ShowsFile value zone
shows_file value spans zone opened totals reads set recurs origin =
    let total : total_in zone ≡ zone_total spans.recurrence spans.set = (λ i. zone_total (recurs i) (set i)) in record {
      footer = opened.says;
      accepted = opened.file;
      origin = origin;
      total = λ t has. (λ i. total i t) ∙ totals t has;
      span = λ t has. (λ i. zone_span (recurs i) (set i) t) ∙ opened.shows t has;
      reads = λ x years. ap (λ f. all_in_force f x) total ∙ reads x years;
    }
