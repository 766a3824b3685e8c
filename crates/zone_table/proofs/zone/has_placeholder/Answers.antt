use Rattle.std.{proofs.Common.{◌≡◌, ℕ, Bool, true, false, List, sym, ap, ◌∙◌, ◌↔◌, codes, inl, inr}, proofs.lemmas.Bool.{cases_Bool}, proofs.lemmas.Str.Pattern.{contains_text}, specs.Str.Iter.{HasSubslice}}
use Rattle.zone_table.{specs.Formats.{has_placeholder}, proofs.FormatLemmas.{has_placeholder-within, placeholder_within}}
use Rattle.zone_table.proofs.zone.has_placeholder.Goals as goal

agree : (result : Bool) (text : List ℕ) → (result ≡ true) ↔ HasSubslice text (codes "%s") → result ≡ has_placeholder text
agree true text found =
    let place = found.0 (λ _. true) in
    sym (ap has_placeholder place.2 ∙ has_placeholder-within place.0 place.1)
agree false text found = elim (cases_Bool (has_placeholder text)) [
  | inl there ↦ found.1 (placeholder_within text there) ∙ sym there
  | inr apart ↦ sym apart
]

pub returns : goal.returns
returns c =
    agree c.contains.result c.args.text.now (contains_text c.contains.result (codes "%s") c.args.text.now c.contains.ensures.cases)
