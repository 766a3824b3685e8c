-- Worked examples: faults as they are told, and what may be answered. The numbers are those of the header.
use Rattle.std.{proofs.Common.{◌≡◌, ℕ, suc, true, false, refl, [], ◌∷◌, map, arith}, specs.Prelude.{None}}
use Rattle.zone_source.specs.Faults as source
use Rattle.zone_source.specs.declared.error.BuildKind.TheVariants as join
use Rattle.zone_spans.specs.declared.fault.SpanFault.TheVariants as span
use Rattle.tz_lookup.specs.declared.compile.ZoneFault.TheVariants as zone
use Rattle.sefunjaro.specs.declared.file.FileFault.TheVariants as file
use Rattle.sefunjaro.specs.declared.file.PosixFault.TheVariants as posix
use Rattle.sefunjaro_c.specs.{Statuses.{IfRefused}, Answers.{Where}, Files.{file_told, posix_told}, Faults.{fault_told, plain, told_or_memory, zone_told}}

-- a line that isn't text, one that may not follow those before it, and want of memory
third_line_no_text : fault_told (source.not_text 3) ≡ record { status = 4; cause = 0; line = 3 }
third_line_no_text = refl

seventh_line_second_link : fault_told (source.bad_join 7 join.DuplicateLink) ≡ record { status = 6; cause = 3; line = 7 }
seventh_line_second_link = refl

no_memory : told_or_memory None ≡ plain 2
no_memory = refl

no_standard_span : zone_told (zone.Schedule span.NoStandardSpan) ≡ record { status = 8; cause = 6; line = 0 }
no_standard_span = refl

far_offset : zone_told zone.OffsetRange ≡ plain 9
far_offset = refl

-- what may be asked is answered with 0, and what may not with 10; nothing else is
answered : Where true 0 ⊥ (Unit {0})
answered = (refl, tt)

refused : Where false 10 (Unit {0}) ⊥
refused = (refl, tt)

not_refused : Where true 10 (Unit {0}) (Unit {0}) → ⊥
not_refused h = cc

not_answered : Where false 0 (Unit {0}) (Unit {0}) → ⊥
not_answered h = cc

-- a file that isn't read, by its cause, and a string
unread_files : map file_told (file.Refused ∷ file.Footer ∷ file.NoMemory ∷ [])
    ≡ record { status = 12; cause = 1; line = 0 } ∷ record { status = 12; cause = 2; line = 0 } ∷ plain 2 ∷ []
unread_files = refl

unread_strings : map posix_told (posix.Refused ∷ posix.NoMemory ∷ []) ≡ plain 12 ∷ plain 2 ∷ []
unread_strings = refl

-- any refusal keeps what is to be kept, and an answer keeps nothing
kept_by_refusal : (P : Type 0) (n : ℕ) → IfRefused (suc n) P → P
kept_by_refusal P n h = h (omega arith)

free_by_answer : (P : Type 0) → IfRefused 0 P
free_by_answer P h = absurd (omega (arith, h))
