-- Read as a source in any form, what is written means what was meant.
use Rattle.std.{proofs.Common.{◌≡◌, ℕ, suc, List, [], ◌∷◌, map, All, Bool, true, false, Ok, refl, sym, ap, ◌∙◌}, specs.Prelude.{is_some}, specs.Str.{is_utf8, chars}, proofs.lemmas.Bool.{both_ways}, proofs.lemmas.List.Elements.{All-head, All-tail}}
use Rattle.zone_source.specs.Releases.{line_naming}
use Rattle.zone_table.specs.Values.{LineValue, space, zone, continuation, rule, link}
use Rattle.zone_plain_lines.specs.{Meanings.{meaning}, Quotes.{fields, laid_out, pieces, has_bad_quotes}, LineFaults.{onto}, Meant.{line_meaning, is_next}, SaidLaws.{meant_back}, PlainTexts.{plain_text}}
use Rattle.zone_plain.{proofs.Followed.{are_followed}, specs.LineValues.{is_open_after, values_from}, specs.Named.{IsSaid}}

-- a blank line means nothing, wherever it stands
blank_means : (is_open : Bool) → line_meaning is_open [] ≡ Ok space
unfolding line_meaning fields laid_out pieces has_bad_quotes meaning is_utf8 chars
blank_means is_open = refl

-- and so does the line of a release
pub heading_means : (release : List ℕ) → is_utf8 (line_naming release) ≡ true → line_meaning false (line_naming release) ≡ Ok space
unfolding line_meaning fields laid_out pieces has_bad_quotes meaning is_utf8 chars
heading_means release text = rw text refl

pub step : (is_open : Bool) (n : ℕ) (line : List ℕ) (v : LineValue) (lines : List (List ℕ)) → line_meaning is_open line ≡ Ok v
    → values_from Ok is_open n (line ∷ lines) ≡ onto v (values_from Ok (is_open_after is_open v) (suc n) lines)
unfolding values_from
step is_open n line v lines e = rw e refl

-- a line that can be said means itself where it stands
means_itself : (is_open : Bool) (v : LineValue) → IsSaid v → is_next v ≡ is_open → line_meaning is_open (plain_text v) ≡ Ok v
means_itself is_open v said e = ap (λ b. line_meaning b (plain_text v)) (sym e) ∙ meant_back v said

-- the texts of lines of which each stands in its place mean these lines
pub texts_mean : (is_open : Bool) (n : ℕ) (values : List LineValue) → All IsSaid values → are_followed is_open values ≡ true
    → values_from Ok is_open n (map plain_text values) ≡ Ok values
unfolding plain_text
texts_mean false n [] said h = unfold values_from in refl
texts_mean is_open n (space ∷ values) said h =
    step is_open n [] space (map plain_text values) (blank_means is_open)
    ∙ ap (onto space) (texts_mean is_open (suc n) values (All-tail IsSaid space values said) h)
texts_mean false n (zone name info ∷ values) said h =
    step false n _ (zone name info) (map plain_text values) (means_itself false (zone name info) (All-head IsSaid (zone name info) values said) refl)
    ∙ ap (onto (zone name info)) (texts_mean (is_some info.time) (suc n) values (All-tail IsSaid (zone name info) values said) h)
texts_mean true n (continuation info ∷ values) said h =
    step true n _ (continuation info) (map plain_text values) (means_itself true (continuation info) (All-head IsSaid (continuation info) values said) refl)
    ∙ ap (onto (continuation info)) (texts_mean (is_some info.time) (suc n) values (All-tail IsSaid (continuation info) values said) h)
texts_mean false n (rule r ∷ values) said h =
    step false n _ (rule r) (map plain_text values) (means_itself false (rule r) (All-head IsSaid (rule r) values said) refl)
    ∙ ap (onto (rule r)) (texts_mean false (suc n) values (All-tail IsSaid (rule r) values said) h)
texts_mean false n (link existing new ∷ values) said h =
    step false n _ (link existing new) (map plain_text values) (means_itself false (link existing new) (All-head IsSaid (link existing new) values said) refl)
    ∙ ap (onto (link existing new)) (texts_mean false (suc n) values (All-tail IsSaid (link existing new) values said) h)
texts_mean _ n _ said h = absurd (both_ways false refl h)
