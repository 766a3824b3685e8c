use Rattle.std.{proofs.Common.{◌≡◌, IfOk, string_bytes, Bor, ℕ, List, Result, Ok, Err, codes, refl}, specs.declared.string.String.{String}, specs.Str.Pattern.{FindsText}, specs.Str.Replace.{ReplacesMatches}}
use Rattle.zone_table.{specs.Formats.{filled}, proofs.FilledLemmas.{replaced}}
use Rattle.zone_table.proofs.zone.filled.Goals as goal

by_text : {Y E : Type 0} (letters pattern : Bor (List ℕ)) (text : List ℕ) (result : Result (String Y) E) → pattern.now ≡ codes "%s"
    → IfOk result (λ t. (n : ℕ)
    × ReplacesMatches (λ p. FindsText p.now) (λ p q. q.now ≡ p.now) letters.now n pattern text (string_bytes t))
    → IfOk result (λ whole. string_bytes whole ≡ filled letters.now text)
by_text letters pattern text (Ok t) named gives = replaced letters pattern gives.0 text (string_bytes t) named gives.1
by_text letters pattern text (Err e) named gives = tt

pub returns : goal.returns
returns c = by_text c.args.letters _ c.args.text.now c.replace.result refl c.replace.ensures.ok
