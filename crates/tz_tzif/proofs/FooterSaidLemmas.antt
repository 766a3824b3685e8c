-- A footer says what is read of it, and nothing else.
use Rattle.std.{proofs.Common.{◌≡◌, ℕ, List, [], ◌∷◌, Option, Some, None, length, option_map, arith, refl, sym, ap, ◌∙◌, subst}, proofs.lemmas.Option.{same_Some, none-some}, specs.Option.{option_and_then}}
use Rattle.tz_posix.specs.{AgainLaws.{entry_again}, FoundLaws.{entry_found}, Reading.{entry_in, offset_at}, Spells.{SpellsIn, signed_times}, TimeLaws.{signed_times_read}, Values.{Value}, declared.error.RangeError.{RangeError}, declared.time.Offset.{Offset}}
use Rattle.tz_tzif.specs.{Faults.{SaysInFooter}, FooterForce.{FooterZone}, FooterLaws.{no_text}, FooterReading.{footer_reading, if_in_ranges, said_by}, Ranges.{footer_miss, IsFooterOf}, Spells.{SpellsFooter}, Standing.{stands_for, StandsFor}}
use Rattle.tz_tzif.specs.Values.{FooterValue, footer_in, tz_of}
use Rattle.tz_tzif.proofs.FooterReadLemmas.{is_tz_of, of_tz_of}

standing : (text : List ℕ) (value : FooterValue) (miss : Option RangeError) (zone : FooterZone) → SpellsFooter text value
    → footer_miss value ≡ miss → if_in_ranges value miss ≡ Some zone → StandsFor text zone
standing text value None zone spelled range e = record {
  value = value;
  is = record { spelled = spelled; range = range };
  stands = same_Some _ zone e;
}
standing text value (Some miss) zone spelled range e = absurd (none-some zone e)

of_footer : (text : List ℕ) (tz : Value Offset) (value : Option FooterValue) (zone : FooterZone) → entry_in offset_at text ≡ Some tz
    → footer_in tz ≡ value → said_by value ≡ Some zone → StandsFor text zone
of_footer text tz None zone read is e = absurd (none-some zone e)
of_footer text tz (Some value) zone read is e =
    standing text value (footer_miss value) zone
    (subst (SpellsIn signed_times text) (is_tz_of tz value is) (entry_found signed_times_read text tz read)) refl e

of_entry : (text : List ℕ) (tz : Option (Value Offset)) (zone : FooterZone) → entry_in offset_at text ≡ tz
    → said_by (option_and_then footer_in tz) ≡ Some zone → StandsFor text zone
of_entry text None zone read e = absurd (none-some zone e)
of_entry text (Some tz) zone read e = of_footer text tz (footer_in tz) zone read refl e

of_said : (text : List ℕ) (said : Option FooterZone) (footer : Option FooterZone) → said_by (option_and_then footer_in (entry_in offset_at text)) ≡ said
    → option_map Some said ≡ Some footer → SaysInFooter text footer
of_said text None footer is e = absurd (none-some footer e)
of_said text (Some zone) footer is e =
    subst (SaysInFooter text) (same_Some (Some zone) footer e) (of_entry text (entry_in offset_at text) zone refl is)

-- what is read is said
pub said : (text : List ℕ) (footer : Option FooterZone) → footer_reading text ≡ Some footer → SaysInFooter text footer
unfolding footer_reading
said [] footer e = subst (SaysInFooter []) (same_Some None footer e) refl
said (c ∷ cs) footer e = of_said (c ∷ cs) (said_by (option_and_then footer_in (entry_in offset_at (c ∷ cs)))) footer refl e

read_zone : (text : List ℕ) (zone : FooterZone) → StandsFor text zone → said_by (option_and_then footer_in (entry_in offset_at text)) ≡ Some zone
read_zone text zone stands =
    let value = stands.value in
    ap (λ tz. said_by (option_and_then footer_in tz)) (entry_again signed_times_read stands.is.spelled)
    ∙ ap said_by (of_tz_of value.standard value.saving)
    ∙ ap (if_in_ranges value) stands.is.range
    ∙ ap Some stands.stands

-- what is said is read
pub read : (text : List ℕ) (footer : Option FooterZone) → SaysInFooter text footer → footer_reading text ≡ Some footer
unfolding footer_reading
read [] None says = refl
read (c ∷ cs) None says = absurd (omega (arith, ap length says))
read [] (Some zone) says = absurd (no_text says refl)
read (c ∷ cs) (Some zone) says = ap (option_map Some) (read_zone (c ∷ cs) zone says)
