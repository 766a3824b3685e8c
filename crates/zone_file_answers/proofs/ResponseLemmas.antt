-- What was found of a file and its requests, and what was written of it.
use Rattle.std.{proofs.Common.{◌≡◌, ℕ, ℤ, List, [], ◌∷◌, ◌++◌, map, Option, Some, None, Result, Ok, Err, IfOk, IfErr, OnOk, MatchResult, IfSome, true, is_some, inr, refl, sym, ◌∙◌, subst}, specs.Prelude.{IsSomeAnd}}
use Rattle.tz_tzif.specs.{FooterForce.{FooterZone}, Standing.{stands_for}, Faults.{HasOffsets, IsAcceptedFile, IsNoFooter, IsTzifFault, SaysInFooter}, InForce.{told_total_at}, declared.fault.TzifFault.{TzifFault}}
use Rattle.tz_tzif.specs.declared.fault.TzifFault.TheVariants as tzif
use Rattle.zone_outside.specs.Seen.{OutputSeen}
use Rattle.zone_source.specs.{Lines.{lines_of}, Responses.{Responds}, declared.running.Answered.{Answered}, declared.running.Answered.TheVariants.{Done, Fault as Wrong, Failed, NoMemory}}
use Rattle.zone_tzif_core.specs.{Denotes.{Says}, ZoneFiles.{HasFooter}, Zones.{ZoneValue}}
use Rattle.zone_file_answers.specs.{Due.{answer_line, IsFaultLine}, Faults.{Fault, fault_line, first_refused}, Files.{IsFile, IsNoFile}, Responses.{RespondsFault, writes}, Told.{AnswersFile, FaultOfFile, IsToldFault, TellsOf, fault_told}}
use Rattle.zone_file_answers.specs.declared.fault.FileFault.{FileFault}
use Rattle.zone_file_answers.specs.declared.fault.FileFault.TheVariants as code

-- a fault of the value other than want of memory leaves nothing that can be looked up
refused_value : (value : ZoneValue) (footer : Option FooterZone) (fault : TzifFault) → IsTzifFault value fault → (fault ≡ tzif.NoMemory → ⊥)
    → IsAcceptedFile value footer → ⊥
refused_value value footer tzif.Times is other accepted = let no = sym accepted.times ∙ is in absurd cc
refused_value value footer tzif.Offset is other accepted = let no = sym accepted.offsets ∙ is.1 in absurd cc
refused_value value None tzif.Footer is other accepted = is.1.some accepted.says
refused_value value (Some footer) tzif.Footer is other accepted = is.1.none accepted.says.value accepted.says.is
refused_value value footer tzif.NoMemory is other accepted = other refl

pub no_file : (file : List ℕ) (value : ZoneValue) (fault : TzifFault)
    → ((x y : ZoneValue) → Says file x → Says file y → x ≡ y) → Says file value → IsTzifFault value fault → (fault ≡ tzif.NoMemory → ⊥)
    → IsNoFile file
no_file file value fault one says is other total found =
    refused_value value found.footer fault is other
    (subst (λ v. IsAcceptedFile v found.footer) (one found.value value found.says says) found.accepted)

-- a footer that can't be read leaves no zone
pub no_footer : (file text : List ℕ) → ((x y : ZoneValue) → Says file x → Says file y → x ≡ y) → HasFooter (Says file) text
    → ((zone : ZoneValue) → Says file zone → HasOffsets zone) → IsNoFooter text → IsNoFile file
no_footer file text one ends offsets unread =
    no_file file ends.zone tzif.Footer one ends.told (offsets ends.zone ends.told, subst IsNoFooter (sym ends.ends) unread) (λ e. absurd cc)

-- and one that can leaves one
pub has_file : (file text : List ℕ) (footer : Option FooterZone) → HasFooter (Says file) text → ((zone : ZoneValue) → Says file zone → HasOffsets zone)
    → SaysInFooter text footer → ¬ (IsNoFile file)
has_file file text footer ends offsets says none =
    let has = offsets ends.zone ends.told in
    none (told_total_at ends.zone footer)
    (record { value = ends.zone; footer = footer; says = ends.told; accepted = record { times = has.0; offsets = has.1; says = subst (λ l. SaysInFooter l footer) (sym ends.ends) says }; is = λ t has. refl; reads = λ x years. refl })

-- as does a value that is not refused
pub not_refused : (file : List ℕ) (value : ZoneValue) → Says file value → HasOffsets value → ¬ (IsNoFooter value.footer) → ¬ (IsNoFile file)
not_refused file value says has readable none =
    readable (record {
      some = λ empty. none (told_total_at value None)
          (record { value = value; footer = None; says = says; accepted = record { times = has.0; offsets = has.1; says = empty }; is = λ t has. refl; reads = λ x years. refl });
      none = λ read is. none (told_total_at value (Some (stands_for read)))
          (record { value = value; footer = Some (stands_for read); says = says; accepted = record { times = has.0; offsets = has.1; says = record { value = read; is = is; stands = refl } }; is = λ t has. refl; reads = λ x years. refl });
    })

-- as does one that opens
pub opens : (file : List ℕ) (value : ZoneValue) (footer : Option FooterZone) → Says file value → IsAcceptedFile value footer → ¬ (IsNoFile file)
opens file value footer says accepted none =
    none (told_total_at value footer) (record { value = value; footer = footer; says = says; accepted = accepted; is = λ t has. refl; reads = λ x years. refl })

-- what is found over a file that is a zone
pub found_over : (file requests : List ℕ) (total : ℤ → ℤ) → IsFile file total → (result : Result (List (List ℕ)) FileFault)
    → OnOk result (first_refused total 1 (lines_of requests) ≡ None) → IfOk result (λ lines. lines ≡ map (answer_line total) (lines_of requests))
    → IfErr result (TellsOf (first_refused total 1 (lines_of requests))) → MatchResult result (AnswersFile file requests) (FaultOfFile file requests)
found_over file requests total is (Ok lines) none are tells = record { total = total; is = is; none = none; are = are }
found_over file requests total is (Err code.File) none are tells = absurd tells
found_over file requests total is (Err (code.NotText n)) none are tells = record { total = total; is = is; first = tells }
found_over file requests total is (Err (code.Request n)) none are tells = record { total = total; is = is; first = tells }
found_over file requests total is (Err (code.Range n)) none are tells = record { total = total; is = is; first = tells }
found_over file requests total is (Err code.NoMemory) none are tells = λ unread. unread total is

-- the line of a fault that is told is due
line_due : (file requests : List ℕ) (told : Option Fault) (bytes : List ℕ) → IsToldFault file requests told
    → IsSomeAnd told (λ f. bytes ≡ fault_line f ++ 10 ∷ []) → IsFaultLine file requests bytes
line_due file requests None bytes h e = absurd e
line_due file requests (Some f) bytes h e = record { fault = f; found = h; line = e }

pub fault_response : (file requests : List ℕ) (fault : FileFault) (before now : OutputSeen) (result : Answered)
    → FaultOfFile file requests fault → RespondsFault fault before now result → Responds writes file requests before now result
fault_response file requests fault before now Done is h = absurd h
fault_response file requests fault before now Wrong is h =
    record { bytes = h.bytes; due = line_due file requests (fault_told fault) h.bytes is h.due; grew = h.grew }
fault_response file requests fault before now Failed is h =
    (h.0, record { bytes = h.1.bytes; due = inr (line_due file requests (fault_told fault) h.1.bytes is h.1.due); grew = h.1.grew })
fault_response file requests fault before now NoMemory is h = h

pub some_and : {X : Type 0} (o : Option X) (P : X → Type 0) → is_some o ≡ true → IfSome o P → IsSomeAnd o P
some_and (Some x) P e h = h
some_and None P e h = absurd cc
