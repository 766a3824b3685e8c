-- The footer of a set's file.
use Rattle.std.proofs.Common.{◌≡◌, ℕ, Bool, true, false, cond, List, [], Option, Some, None, is_none, ℤ, refl, sym, ap, ◌∙◌, subst}
use Rattle.tz_lookup.specs.declared.set.FixedTimespanSet.{FixedTimespanSet}
use Rattle.zone_tail.specs.{Carried.{CarriesOn}, Found.{found_from, found_text}, Tails.{tail_fault, IsTail}, declared.outcome.TailFault.{TailFault}}
use Rattle.zone_tzif_core.specs.Format.{is_one_line}
use Rattle.zone_tzif.specs.Files.{consistent_footer, footer_of, is_contradicted, IsCarriedOn}

pub footer_is : (set : FixedTimespanSet) (text : List ℕ) → tail_fault set ≡ None → text ≡ found_text set → text ≡ footer_of set
unfolding footer_of
footer_is set text none is = is ∙ sym (ap (λ f. cond (is_none f) (found_text set) []) none)

pub no_footer : (set : FixedTimespanSet) (f : TailFault) → tail_fault set ≡ Some f → [] ≡ footer_of set
unfolding footer_of
no_footer set f is = sym (ap (λ f. cond (is_none f) (found_text set) []) is)

-- it is one line, where each string is
pub footer_clean : (set : FixedTimespanSet) → (tail_fault set ≡ None → is_one_line (found_text set) ≡ true) → is_one_line (footer_of set) ≡ true
unfolding footer_of
footer_clean set clean = by_fault (tail_fault set) refl
  where
    by_fault : (f : Option TailFault) → tail_fault set ≡ f → is_one_line (cond (is_none f) (found_text set) []) ≡ true
    by_fault (Some f) is = refl
    by_fault None is = clean is

pub consistent_clean : (set : FixedTimespanSet) → (tail_fault set ≡ None → is_one_line (found_text set) ≡ true) → is_one_line (consistent_footer set) ≡ true
unfolding consistent_footer
consistent_clean set clean = by_test (is_contradicted set)
  where
    by_test : (b : Bool) → is_one_line (cond b [] (footer_of set)) ≡ true
    by_test true = refl
    by_test false = footer_clean set clean

-- it is the one string of the set, where there is one
pub carried : (set : FixedTimespanSet) (from : Option ℤ) (text : List ℕ) → IsTail set from text → CarriesOn set from text
    → from ≡ found_from set → text ≡ found_text set → IsCarriedOn set
carried set from text tail carries begins is =
    let here = footer_is set text tail.none is in
    record {
      tail = λ none. subst (IsTail set (found_from set)) here (subst (λ f. IsTail set f text) begins tail);
      carries = λ none. subst (CarriesOn set (found_from set)) here (subst (λ f. CarriesOn set f text) begins carries);
    }

pub uncarried : (set : FixedTimespanSet) (f : TailFault) → tail_fault set ≡ Some f → IsCarriedOn set
uncarried set f is = record {
  tail = λ none. let no = sym none ∙ is in absurd cc;
  carries = λ none. let no = sym none ∙ is in absurd cc;
}
