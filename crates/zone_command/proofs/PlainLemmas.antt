-- By UTC a local time is its instant; a request to 2099 is answered as the program `zone_answers` does.
use Rattle.std.proofs.{Common.{◌≡◌, ℕ, ℤ, pos, ◌-ℤ◌, ◌*ℤ◌, ◌<ℤ◌, Bool, true, false, cond, List, Option, Some, None, Ok, refl, subst, ap, ◌∙◌, arith}, lemmas.Int.{ints}}
use Rattle.std.specs.Prelude.{int_lt}
use Rattle.basics.specs.{ComparisonLaws.{lt_from_fail}, SignedLaws.{signed}}
use Rattle.zone_answers.specs.{Due.{answer_line}, Faults.{request_refusal}, Found.{found_in_table, to_2099}, Requests.{Request, at, local, request_of}, SameDays.{IsAnswered, IsBefore}}
use Rattle.zone_command.specs.{EverReadings.{for_ever}, Plain.{plain_answer, year_2100}, PlainLaws.{Matches, as_zone_answers}}
use Rattle.zone_table.specs.declared.table.Table.{Table}
use Rattle.civil_base.specs.{DateTimes.{instant, local_of, offset_of}, Instants.{instant_at}, declared.offset_date_time.OffsetDateTime.{OffsetDateTime}}

no_offset : (x : ℤ) → x -ℤ pos 1000000000 *ℤ pos 0 ≡ x
no_offset x = omega (arith, signed)

pub utc_instant : (v : OffsetDateTime) (x : ℤ) → local_of v ≡ x → offset_of v ≡ pos 0 → instant v ≡ x
unfolding instant
utc_instant v x same offset = ap (λ l. instant_at l (offset_of v)) same ∙ ap (instant_at x) offset ∙ no_offset x

is_below : (t latest : ℤ) → t <ℤ latest → int_lt t latest ≡ true
is_below t latest early = by_test (int_lt t latest) refl
  where
    by_test : (b : Bool) → int_lt t latest ≡ b → b ≡ true
    by_test true e = refl
    by_test false e = absurd (omega (arith, ints, lt_from_fail t latest e, early))

pub answered_as : (table : Table) (line answer : List ℕ) → IsAnswered (found_in_table to_2099 table) year_2100 line answer
    → plain_answer table line ≡ Ok answer
answered_as table line answer is = by_request (request_of line) refl is.early
  where
    by_request : (o : Option Request) → request_of line ≡ o → IsBefore year_2100 o → plain_answer table line ≡ Ok answer
    by_request None e early = absurd early
    by_request (Some (local name time)) e early = absurd early
    by_request (Some (at name instant)) e early =
        subst (λ r. Matches r (answer_line (found_in_table to_2099 table) line) (plain_answer table line)) (is.accepted 1)
        (subst (λ b. let names = found_in_table (cond b to_2099 for_ever) table in
        Matches (request_refusal names 1 line) (answer_line names line) (plain_answer table line))
        (is_below instant (pos year_2100) early) (as_zone_answers table line (at name instant) e)) ∙ ap Ok is.line
