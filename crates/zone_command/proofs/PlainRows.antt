-- Which zones are read for a request of `zone_answers`, and what is told of one that is a fault. 2100 begins 4,102,444,800 seconds after
-- 1970 by Python's `datetime`.
use Rattle.std.{proofs.Common.{◌≡◌, ℤ, List, [], ◌∷◌, ◌++◌, map, true, false, None, Err, refl, pos, negsuc}, specs.Prelude.{codes}, specs.Str.{chars, is_utf8}}
use lib.Utf8.{encode}
use Rattle.zone_answers.specs.{Faults.{has_dates}, Found.{bad_schedule, offset_range, rules_end}, Requests.{Request, at, local}}
use Rattle.zone_command.specs.Plain.{asked_answer, found_answer, is_to_2099, plain_answer, plain_replies, shown_answer}
use Rattle.zone_spans.specs.declared.fault.SpanFault.TheVariants.{DayRange}
use Rattle.zone_table.specs.declared.table.Table.{Table}

asks : (ℤ → Request) → List Request
asks ask = ask (pos 0) ∷ ask (negsuc 0) ∷ ask (pos 4102444799999999999) ∷ ask (pos 4102444800000000000) ∷ []

instants : map is_to_2099 (asks (at (codes "A"))) ≡ true ∷ true ∷ true ∷ false ∷ []
unfolding asks
instants = refl

locals : map is_to_2099 (asks (local (codes "A"))) ≡ true ∷ true ∷ true ∷ false ∷ []
unfolding asks
locals = refl

-- 31,688 years after 1970
far : shown_answer (at (codes "A/B") (pos 1000000000000000000000)) (λ t. pos 0) ≡ Err (codes "\"A/B\": a date lies outside the years -9999 to 9999")
unfolding shown_answer has_dates
far = refl

module _ (table : Table) where
  request : Request
  request = at (codes "A/B") (pos 0)

  causes : map (λ cause. found_answer table request (Err cause)) (bad_schedule DayRange ∷ offset_range ∷ rules_end ∷ [])
      ≡ map (λ words. Err (codes "\"A/B\": " ++ words)) (codes "a day of this zone's lines lies in another year than theirs"
      ∷ codes "this zone has an offset of 26 hours or more" ∷ codes "the zone's rules end before that year" ∷ [])
  unfolding request
  causes = refl

  none : asked_answer table None ≡ Err (codes "a request is at NAME N, or local NAME YYYY-MM-DD hh:mm:ss.fffffffff")
  none = refl

  no_text : plain_answer table (255 ∷ []) ≡ Err (codes "a request is text in UTF-8")
  unfolding plain_answer is_utf8 chars encode
  no_text = refl

  too_long : (plain_replies table).to_long ≡ codes "? a request of more than 4,096 bytes" ++ 10 ∷ []
  too_long = refl
