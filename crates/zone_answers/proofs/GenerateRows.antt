-- What `--generate` asks for, the texts that are made, and summaries, worked out.
use Rattle.std.{proofs.Common.{◌≡◌, [], ◌∷◌, ◌++◌, map, Some, None, refl}, specs.Fmt.{digits}, specs.Prelude.{codes}, specs.Str.{is_utf8, chars}}
use lib.Utf8.{encode}
use Rattle.zone_source.specs.{Faults.{source_fault}, Lines.{lines_of}, LineLists.{ended}}
use Rattle.zone_answers.specs.{Counts.{count_in}, Due.{answer_lines_with, due_bytes, due_bytes_with}, Faults.{fault_with, request_refusal}, Made.{numbers_to, zone_line, at_line, local_line, made_source, made_requests}, Requests.{request_of, request_with}}
use Rattle.zone_answers.specs.{Summary.{summary, due_summary, due_summary_with}, Words.{answer_over, generate, task_in}}

-- numbers from 1 to 1000, and none of 0, of more, of leading zeros, of signs, spaces or letters
numbers : map count_in
    (codes "1" ∷ codes "37" ∷ codes "1000" ∷ codes "0" ∷ codes "01" ∷ codes "1001" ∷ codes "+1" ∷ codes "-1" ∷ codes "" ∷ codes " 1"
    ∷ codes "1 " ∷ codes "1a" ∷ codes "x" ∷ codes "00" ∷ codes "10000" ∷ [])
    ≡ Some 1 ∷ Some 37 ∷ Some 1000 ∷ None ∷ None ∷ None ∷ None ∷ None ∷ None ∷ None ∷ None ∷ None ∷ None ∷ None ∷ None ∷ []
unfolding count_in digits
numbers = refl

-- one word is a file's name; of two words only `--generate` and a number ask something, and of no word or three none
asked : map task_in
    ((codes "--generate" ∷ []) ∷ (codes "zones" ∷ []) ∷ (codes "--generate" ∷ codes "12" ∷ []) ∷ [] ∷ (codes "zones" ∷ codes "12" ∷ [])
    ∷ (codes "12" ∷ codes "--generate" ∷ []) ∷ (codes "--generate" ∷ codes "012" ∷ []) ∷ (codes "--generate" ∷ codes "zones" ∷ [])
    ∷ (codes "--generate" ∷ codes "12" ∷ codes "12" ∷ []) ∷ [])
    ≡ Some (answer_over (codes "--generate")) ∷ Some (answer_over (codes "zones")) ∷ Some (generate 12) ∷ None ∷ None ∷ None ∷ None ∷ None
    ∷ None ∷ []
unfolding count_in digits
asked = refl

-- hours go round after 11, and the last zone is asked for an instant of 2071
lines : map zone_line (12 ∷ 13 ∷ 1000 ∷ []) ++ map at_line (2 ∷ 1000 ∷ []) ++ map local_line (1000 ∷ [])
    ≡ codes "Zone Gen/Z12 0:00 Gen G%sT" ∷ codes "Zone Gen/Z13 1:00 Gen G%sT" ∷ codes "Zone Gen/Z1000 4:00 Gen G%sT"
    ∷ codes "at Gen/Z2 6393600000000000" ∷ codes "at Gen/Z1000 3196800000000000000"
    ∷ codes "local Gen/Z1000 2024-07-01 12:00:00.000000000" ∷ []
unfolding digits
lines = refl

-- the source of one zone
one_zone : made_source 1
    ≡ ended
    (codes "Rule Gen 2000 max - Mar lastSun 2:00 1:00 D" ∷ codes "Rule Gen 2000 max - Oct lastSun 3:00 0 S"
    ∷ codes "Zone Gen/Z1 1:00 Gen G%sT" ∷ [])
unfolding made_source digits
one_zone = refl

-- the requests of one zone, and of two
requests : map made_requests (1 ∷ 2 ∷ [])
    ≡ ended (codes "at Gen/Z1 3196800000000000" ∷ codes "local Gen/Z1 2024-07-01 12:00:00.000000000" ∷ [])
    ∷ ended
    (codes "at Gen/Z1 3196800000000000" ∷ codes "local Gen/Z1 2024-07-01 12:00:00.000000000"
    ∷ codes "at Gen/Z2 6393600000000000" ∷ codes "local Gen/Z2 2024-07-01 12:00:00.000000000" ∷ []) ∷ []
unfolding made_requests digits
requests = refl

in_order : numbers_to 5 ≡ 1 ∷ 2 ∷ 3 ∷ 4 ∷ 5 ∷ []
in_order = refl

-- the lines of two short lists
summaries : map summary ([] ∷ (codes "ab" ∷ []) ∷ (codes "ab" ∷ codes "c" ∷ []) ∷ [])
    ≡ codes "lines 0 bytes 0 sum 0" ∷ codes "lines 1 bytes 2 sum 195" ∷ codes "lines 2 bytes 3 sum 294" ∷ []
unfolding summary digits
summaries = refl

-- what is due over no source: for no request, and for one in no form
due : map (due_summary []) ([] ∷ codes "what" ∷ []) ≡ (codes "lines 0 bytes 0 sum 0" ++ 10 ∷ []) ∷ (codes "request 1: request" ++ 10 ∷ []) ∷ []
unfolding due_summary_with summary answer_lines_with fault_with source_fault request_refusal request_of request_with lines_of is_utf8 chars encode digits
due = refl

-- and in full: no line for no request, or the fault's line, which ends
due_in_full : map (due_bytes []) ([] ∷ codes "what" ∷ []) ≡ [] ∷ (codes "request 1: request" ++ 10 ∷ []) ∷ []
unfolding due_bytes_with answer_lines_with fault_with source_fault request_refusal request_of request_with lines_of is_utf8 chars encode digits
due_in_full = refl
