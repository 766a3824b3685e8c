-- The reading of a footer is the value that it spells.
use Rattle.std.{proofs.Common.{◌≡◌, ℕ, List, Option, Some, None, option_map, MatchOption, Result, Err, refl, sym, ap, ◌∙◌, subst}, proofs.lemmas.Option.{same_Some, none-some}, specs.Result.{result_err}}
use Rattle.tz_posix.specs.{EntryLaws.{one_reading}, Spells.{SpellsIn, signed_times}, TimeLaws.{signed_times_read}, Values.{StdPart, Value, short, expanded}, declared.error.RangeError.{RangeError}, declared.time.Offset.{Offset}, declared.values.Rule.{Rule}}
use Rattle.tz_tzif.specs.{Ranges.{IsFooterOf, footer_miss}, Shown.{text_shown}, Spells.{SpellsFooter}, Values.{SavingValue, FooterValue, footer_in, tz_of, with_rule}, declared.values.FooterText.{FooterText}}

with_saving : (standard : StdPart) (name : List ℕ) (offset : Option Offset) (r : Option (Rule Offset)) (f : FooterValue)
    → option_map (with_rule standard name offset) r ≡ Some f
    → ◌≡◌ {A = Value Offset} (expanded standard (Some (record { name = name; offset = offset; rule = r }))) (tz_of f)
with_saving standard name offset (Some rule) f e = ap tz_of (same_Some _ f e)
with_saving standard name offset None f e = absurd (none-some f e)

pub is_tz_of : (v : Value Offset) (f : FooterValue) → footer_in v ≡ Some f → v ≡ tz_of f
is_tz_of (short name) f e = absurd (none-some f e)
is_tz_of (expanded standard None) f e = ap tz_of (same_Some _ f e)
is_tz_of (expanded standard (Some dst)) f e = with_saving standard dst.name dst.offset dst.rule f e

pub of_tz_of : (standard : StdPart) (saving : Option SavingValue)
    → footer_in (tz_of (record { standard = standard; saving = saving })) ≡ Some (record { standard = standard; saving = saving })
of_tz_of standard None = refl
of_tz_of standard (Some saving) = refl

pub exact : (text : List ℕ) (v : Value Offset) (r : Option FooterText) → SpellsIn signed_times text v → option_map text_shown r ≡ footer_in v
    → MatchOption r ((value : FooterValue) → ¬ (SpellsFooter text value)) (λ footer. SpellsFooter text (text_shown footer))
exact text v (Some footer) spelled e = subst (SpellsIn signed_times text) (is_tz_of v (text_shown footer) (sym e)) spelled
exact text v None spelled e = λ value other.
    none-some value (e ∙ ap footer_in (one_reading signed_times_read text v (tz_of value) spelled other) ∙ of_tz_of value.standard value.saving)

pub one_value : (text : List ℕ) (x y : FooterValue) → SpellsFooter text x → SpellsFooter text y → x ≡ y
one_value text x y a b =
    same_Some x y (sym (of_tz_of x.standard x.saving) ∙ ap footer_in (one_reading signed_times_read text (tz_of x) (tz_of y) a b)
    ∙ of_tz_of y.standard y.saving)

-- a value with a part out of its range isn't that of a footer
pub refused : {A : Type 0} (text : List ℕ) (read : FooterValue) (r : Result A RangeError) (error : RangeError) → r ≡ Err error
    → result_err r ≡ footer_miss read → SpellsFooter text read → (value : FooterValue) → ¬ (IsFooterOf text value)
refused text read r error is miss spelled value of =
    none-some error (sym of.range ∙ ap footer_miss (one_value text value read of.spelled spelled) ∙ sym miss ∙ ap result_err is)
