-- A text is read as what it spells, and as nothing where it spells nothing.
use Rattle.std.{proofs.Common.{◌≡◌, ℕ, ℤ, List, Result, Ok, Err, MatchResult, Option, sym, ◌∙◌}, specs.Result.{result_map_both}}
use Rattle.zone_words.{proofs.{AgainLemmas.{local_again}, FoundLemmas.{local_found, ok_not_err, same_Ok}, InstantAgainLemmas.{asked_again}, InstantFoundLemmas.{asked_found}}, specs.{TimesShown.{asked}, declared.instant.Asked.{Asked}, Readings.{local_in, asked_in}, Spells.{SpellsLocal, SpellsAsked}, declared.text_fault.TextFault.{TextFault}}}

pub local_exact : (text : List ℕ) (r : Result ℤ TextFault) → r ≡ local_in text
    → MatchResult r (SpellsLocal text) (λ _. (x : ℤ) → ¬ (SpellsLocal text x))
local_exact text (Ok x) e = local_found text x (sym e)
local_exact text (Err fault) e = λ x spelled. ok_not_err x fault (sym (local_again spelled) ∙ sym e)

pub asked_exact : (text : List ℕ) (r : Result Asked TextFault) → result_map_both asked (λ fault. fault) r ≡ asked_in text
    → MatchResult r (λ value. SpellsAsked text (asked value)) (λ _. (t : Option ℤ) → ¬ (SpellsAsked text t))
asked_exact text (Ok value) e = asked_found text (asked value) (sym e)
asked_exact text (Err fault) e = λ t spelled. ok_not_err t fault (sym (asked_again spelled) ∙ sym e)

-- a text spells one value
pub one_local : (text : List ℕ) (x y : ℤ) → SpellsLocal text x → SpellsLocal text y → x ≡ y
one_local text x y one other = same_Ok x y (sym (local_again one) ∙ local_again other)

pub one_asked : (text : List ℕ) (x y : Option ℤ) → SpellsAsked text x → SpellsAsked text y → x ≡ y
one_asked text x y one other = same_Ok x y (sym (asked_again one) ∙ asked_again other)
