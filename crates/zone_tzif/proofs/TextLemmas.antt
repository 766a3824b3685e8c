-- What a text says as a footer.
use Rattle.std.proofs.Common.{◌≡◌, ℕ, List, sym, ap, ◌∙◌, subst}
use Rattle.tz_tzif.specs.{FooterForce.{FooterZone}, Ranges.{IsFooterOf}, Spells.{SpellsFooter}, Standing.{StandsFor, stands_for}, Values.{FooterValue}}
use Rattle.tz_lookup.specs.declared.set.FixedTimespanSet.{FixedTimespanSet}
use Rattle.zone_tzif.specs.{Tails.{CarriesNothing, TextTells}, Tells.{Tells}, declared.agreeing.Agreement.{Agreement}, declared.agreeing.Agreement.TheVariants.{Nowhere, From, Always}}

-- a text stands for one footer at most
module _ (one : (text : List ℕ) (x y : FooterValue) → SpellsFooter text x → SpellsFooter text y → x ≡ y) (set : FixedTimespanSet) (text : List ℕ)
    (zone : FooterZone) (stands : StandsFor text zone) where
  same : (other : FooterZone) → StandsFor text other → zone ≡ other
  same other its = sym stands.stands ∙ ap stands_for (one text stands.value its.value stands.is.spelled its.is.spelled) ∙ its.stands

  pub text_tells : (answer : Agreement) → Tells zone set answer → TextTells set text answer
  text_tells Nowhere tells = λ other its. subst (λ z. Tells z set Nowhere) (same other its) tells
  text_tells (From second) tells = (zone, stands, tells)
  text_tells Always tells = (zone, stands, tells)

pub no_footer : (set : FixedTimespanSet) (text : List ℕ) → ((value : FooterValue) → IsFooterOf text value → ⊥) → CarriesNothing set text
no_footer set text none zone stands = absurd (none stands.value stands.is)
