-- What the check of UTF-8 gives.
use Rattle.std.proofs.{Common.{◌≡◌, ℕ, List, Some, option_map, Result, Ok, Err, Bor, MatchResult, sym, ap, ◌∙◌}, lemmas.Bool.{cond-false, false_from_ne_true}, lemmas.Str.{IsUtf8-from_is_utf8, is_utf8-from_IsUtf8}}
use Rattle.std.specs.{Result.{result_ok}, Str.{IsUtf8}}
use Rattle.zone_tzif_core.specs.Reading.{text_in}
use Rattle.zone_tzif_core.proofs.parts.text.Goals as goal

text_told : {E : Type 0} (bytes : List ℕ) (Q : E → Type 0) (r : Result (Bor (List ℕ)) E) → MatchResult r (λ s. (s.now ≡ bytes) × IsUtf8 bytes) (λ e. ¬ (IsUtf8 bytes) × Q e) → option_map (λ s. s.now) (result_ok r) ≡ text_in bytes
unfolding text_in
text_told bytes Q (Ok s) h = rw (is_utf8-from_IsUtf8 bytes h.1) (ap Some h.0)
text_told bytes Q (Err e) h = sym (cond-false _ _ _ (false_from_ne_true _ (λ test. h.0 (IsUtf8-from_is_utf8 bytes test))))

pub returns : goal.returns
returns c = ap (option_map (λ text. text.now)) c.ok.ensures.value ∙ text_told c.args.bytes.now _ c.from_utf8.result c.from_utf8.ensures.cases
