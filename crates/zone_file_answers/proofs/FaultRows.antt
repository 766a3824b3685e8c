-- Which fault of a request comes first, its number and its line, at worked rows.
use Rattle.std.{proofs.Common.{◌≡◌, ℕ, List, [], ◌∷◌, ◌++◌, length, map, Option, Some, None, option_map, refl, ap, pos, negsuc, arith, length-append}, specs.Fmt.{digits}, specs.Prelude.{codes, unwrap_or}, specs.Str.{is_utf8, chars}}
use lib.Utf8.{encode}
use Rattle.civil_base.specs.LocalTimes.{local_time_in}
use Rattle.zone_answers.specs.{Faults.{has_dates}, Requests.{at, local, nanoseconds_in, request_with}}
use Rattle.zone_source.specs.Lines.{lines_of}
use Rattle.zone_file_answers.specs.{Due.{IsRefused}, Faults.{Fault, bad_request, fault_line, file, first_refused, not_text, range, request_refusal}, Requests.{request_of}, Told.{fault_told, FaultOfFile, TellsOf}}
use Rattle.zone_file_answers.specs.declared.fault.FileFault.TheVariants.{NoMemory}
use Rattle.zone_file_answers.specs.declared.fault.FileFault.TheVariants as of_code
use Rattle.zone_tzif_core.specs.{Denotes.{Says, zone_file, old_file}, Zones.{ZoneValue}}

-- of two faults the first is told, with the number of its line
first_of_two : first_refused (λ t. pos 0) 1 (codes "at 0" ∷ codes "what" ∷ (255 ∷ []) ∷ []) ≡ Some (bad_request 2)
unfolding request_refusal is_utf8 chars encode request_of request_with nanoseconds_in has_dates
first_of_two = refl

-- a request that is no text, one in no form, and one whose date leaves the years
each_fault : map (request_refusal (λ t. pos 0) 7) ((97 ∷ 255 ∷ []) ∷ codes "at" ∷ codes "at A 0" ∷ codes "at 253402300800000000000" ∷ codes "at 0" ∷ [])
    ≡ Some (not_text 7) ∷ Some (bad_request 7) ∷ Some (bad_request 7) ∷ Some (range 7) ∷ None ∷ []
unfolding request_refusal is_utf8 chars encode request_of request_with nanoseconds_in has_dates
each_fault = refl

-- the first request has the number 1, whatever the file
first_number : (source : List ℕ) (fault : Fault) → IsRefused source (codes "what") fault → bad_request 1 ≡ fault
unfolding request_refusal is_utf8 chars encode request_of request_with lines_of
first_number source fault is = ap (λ (o : Option Fault). unwrap_or o fault) is.first

lines_of_faults : map fault_line (file ∷ not_text 1 ∷ bad_request 2 ∷ range 10 ∷ [])
    ≡ codes "file: refused" ∷ codes "request 1: not text" ∷ codes "request 2: request" ∷ codes "request 10: range" ∷ []
unfolding digits
lines_of_faults = refl

-- instants, and words that ask nothing
instants : map request_of (codes "at -5" ∷ codes "at 007" ∷ codes "at +5" ∷ codes "at  5" ∷ codes "at 5 " ∷ codes "At 5" ∷ codes " at 5" ∷ [])
    ≡ Some (at [] (negsuc 4)) ∷ Some (at [] (pos 7)) ∷ None ∷ None ∷ None ∷ None ∷ None ∷ []
unfolding request_of request_with nanoseconds_in
instants = refl

-- whatever text stands where a local time is wanted
module _ (text : List ℕ) where
  locals : request_of (codes "local " ++ text) ≡ option_map (local []) (local_time_in text)
  unfolding request_of request_with
  locals = refl

  other_words : map request_of ((codes "Local " ++ text) ∷ (codes "locals " ++ text) ∷ (codes "loca " ++ text) ∷ []) ≡ None ∷ None ∷ None ∷ []
  unfolding request_of request_with
  other_words = refl

-- the code's faults, each with its own fault and number; want of memory is none
told : map fault_told (of_code.File ∷ of_code.NotText 1 ∷ of_code.Request 2 ∷ of_code.Range 3 ∷ of_code.NoMemory ∷ [])
    ≡ Some file ∷ Some (not_text 1) ∷ Some (bad_request 2) ∷ Some (range 3) ∷ None ∷ []
told = refl

tells : TellsOf (Some (not_text 1)) (of_code.NotText 1) × TellsOf (Some (bad_request 2)) (of_code.Request 2) × TellsOf (Some (range 3)) (of_code.Range 3)
tells = (refl, refl, refl)

-- no bytes are no file
no_bytes : (value : ZoneValue) → ¬ (Says [] value)
no_bytes value (zone_file is) =
    absurd (omega (
      arith,
      ap length is.whole,
      is.first_header.long,
      length-append (is.head ++ is.skipped ++ is.second_head ++ is.block ++ 10 ∷ value.footer) (10 ∷ []),
      length-append (is.head ++ is.skipped ++ is.second_head ++ is.block) (10 ∷ value.footer),
      length-append (is.head ++ is.skipped ++ is.second_head) is.block,
      length-append (is.head ++ is.skipped) is.second_head,
      length-append is.head is.skipped,
    ))
no_bytes value (old_file is) = absurd (omega (arith, ap length is.whole, is.header.long, length-append is.head is.block))

-- so whatever is asked of them, no memory is wanting
no_want : (requests : List ℕ) → ¬ (FaultOfFile [] requests NoMemory)
no_want requests told = told (λ total is. no_bytes is.value is.says)
