-- Plain forms are short, and their faults are those of the text.
use Rattle.std.{proofs.Common.{◌≡◌, ◌≤◌, ℕ, Bool, true, false, cond, List, ◌++◌, length, nat_lt, refl, subst, ap, arith}, specs.Prelude.{Result, Ok, Err, IfErr}}
use Rattle.zone_table.specs.Results.{◌>>=◌}
use Rattle.zone_plain_lines.specs.LineFaults.{Refusal, by_line, too_long}
use Rattle.zone_plain.specs.{Settled.{settled}, WrittenOut.{written_out}, Heads.{head_of}, LineValues.{values_in}, Plain.{if_short, plain_of}, Written.{written}}
use Rattle.sefunjaro.proofs.CaseLemmas.{not_ok}
use Rattle.sefunjaro.specs.{AnySources.{IsAnyFault, IsFormFault}, declared.any_source.AnySourceFault.{AnySourceFault}, declared.any_source.AnySourceFault.TheVariants.{TooLong, Line, PlainTooLong, Plain, NoMemory}, declared.source.OpenSource.{OpenSource}}

abbrev taken : List ℕ → Result (List ℕ) Refusal → List ℕ
taken form (Ok bytes) = bytes
taken form (Err e) = form

not_more : (n : ℕ) → false ≡ nat_lt 16777216 n → n ≤ 16777216
not_more n h = grind arith

is_short : (bytes form : List ℕ) → if_short bytes ≡ Ok form → length form ≤ 16777216
is_short bytes form e = either (nat_lt 16777216 (length bytes)) refl e
  where
    either : (long : Bool) → long ≡ nat_lt 16777216 (length bytes) → cond long (Err too_long) (Ok bytes) ≡ Ok form → length form ≤ 16777216
    either true h e = absurd (not_ok e)
    either false h e = subst (λ l. length l ≤ 16777216) (ap (taken form) e) (not_more (length bytes) h)

after : {A : Type 0} → (read : Result A Refusal) (next : A → Result (List ℕ) Refusal) (form : List ℕ)
    → ((a : A) → next a ≡ Ok form → length form ≤ 16777216) → ◌>>=◌ read next ≡ Ok form → length form ≤ 16777216
after (Ok a) next form short e = short a e
after (Err refusal) next form short e = absurd (not_ok e)

-- a plain form is no longer than a source may be
pub plain_short : (text form : List ℕ) → plain_of text ≡ Ok form → length form ≤ 16777216
unfolding plain_of
plain_short text form e =
    after (by_line (head_of text)) _ form (λ head.
    after (by_line (values_in text)) _ form (λ values.
    after (settled values) _ form (λ linked.
    after (written_out linked) _ form (λ out. is_short (head ++ written out) form)))) e

-- a fault of the plain form is one of the text's
pub form_refused : (text form : List ℕ) (result : Result OpenSource AnySourceFault) → length text ≤ 16777216 → plain_of text ≡ Ok form
    → length form ≤ 16777216 → IfErr result (IsFormFault form) → IfErr result (IsAnyFault text)
form_refused text form (Ok source) short written is_form h = tt
form_refused text form (Err TooLong) short written is_form h = absurd h
form_refused text form (Err (Line n c)) short written is_form h = absurd h
form_refused text form (Err PlainTooLong) short written is_form h = absurd h
form_refused text form (Err (Plain error)) short written is_form h =
    (short, record { form = form; written = written; short = is_form; fault = h })
form_refused text form (Err NoMemory) short written is_form h = short
