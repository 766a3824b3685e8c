-- What is refused of a source in any form, and what is opened.
use Rattle.std.{proofs.Common.{◌≡◌, ◌≤◌, ℕ, cond, List, length, inl, inr, refl, ap, ◌∙◌, arith}, specs.Prelude.{Option, Some, None, Result, Ok, Err, option_map}, proofs.lemmas.Bool.{lt-ltb, le-ltb}}
use Rattle.zone_plain_lines.specs.LineFaults.{Refusal, at, bad_line}
use Rattle.zone_plain_lines.specs.LineFaults as refused
use Rattle.zone_plain.specs.Plain.{plain_of}
use Rattle.zone_source.specs.{Releases.{release_of}, Faults.{SourceFault, source_fault}, Told.{told_by_source}}
use Rattle.sefunjaro.specs.{AnySources.{IsAnyFault, IsAnySource}, Sources.{release_in}, declared.any_source.AnySourceFault.{AnySourceFault}, declared.source.OpenSource.{OpenSource}}
use Rattle.sefunjaro.specs.declared.any_source.AnySourceFault.TheVariants as opening
use Rattle.sefunjaro_c.{specs.{Statuses.{too_long}, AnySources.{any_due, any_told, form_due, IsAnySourceOf}, Faults.{fault_told, plain, told_or_memory, IsRefused}}, proofs.FaultLemmas.{told_positive}}

-- of a text that isn't too long what its plain form is due
form_is : (text : List ℕ) (found : Result (List ℕ) Refusal) → length text ≤ 16777216 → plain_of text ≡ found → any_due text ≡ form_due found
unfolding any_due
form_is text found h e =
    ap (λ b. cond b (Some (plain too_long)) (form_due (plain_of text))) (le-ltb 16777216 (length text) h) ∙ ap form_due e

told_refused : (text form : List ℕ) (found : Option SourceFault) → length text ≤ 16777216 → plain_of text ≡ Ok form → source_fault form ≡ found
    → IsRefused (any_due text) (told_or_memory found)
told_refused text form None h e f = record { told = inl refl; refused = omega arith }
told_refused text form (Some fault) h e f =
    record { told = inr (form_is text (Ok form) h e ∙ ap (option_map fault_told) f); refused = told_positive fault }

pub any_refused : (text : List ℕ) (fault : AnySourceFault) → IsAnyFault text fault → IsRefused (any_due text) (any_told fault)
unfolding any_due
any_refused text opening.TooLong h = record {
  told = inr (ap (λ b. cond b (Some (plain too_long)) (form_due (plain_of text))) (lt-ltb 16777216 (length text) h));
  refused = omega arith;
}
any_refused text (opening.Line n c) h = record { told = inr (form_is text (Err (bad_line (at n c))) h.0 h.1); refused = omega arith }
any_refused text opening.PlainTooLong h = record { told = inr (form_is text (Err refused.too_long) h.0 h.1); refused = omega arith }
any_refused text (opening.Plain error) h = told_refused text h.1.form (told_by_source error) h.0 h.1.written h.1.fault.first
any_refused text opening.NoMemory h = record { told = inl refl; refused = omega arith }

pub any_opened : (text : List ℕ) (source : OpenSource) → IsAnySource text source → release_in source ≡ release_of text
    → IsAnySourceOf text source
any_opened text source h named = record {
  valid = form_is text (Ok h.form) h.short h.written ∙ ap (option_map fault_told) h.opened.valid;
  form = h.form;
  written = h.written;
  table = h.opened.table;
  release = named;
}
