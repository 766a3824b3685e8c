-- The lines that tell a fault.
use Rattle.std.specs.Prelude.{ℕ, List, [], codes}
use Rattle.zone_source.specs.FaultLines.{line_with, source_line}
use Rattle.zone_spans.specs.FaultNames.{fault_name}
use Rattle.zone_answers.specs.{Faults.{Fault, of_source, request_not_text, bad_request, bad_zone, range}, Found.{unknown_zone, bad_schedule, offset_range, rules_end}}

abbrev pub request_line : ℕ → List ℕ → List ℕ → List ℕ
request_line n group cause = line_with (codes "request ") n group cause

abbrev pub fault_line : Fault → List ℕ
fault_line (of_source f) = source_line f
fault_line (request_not_text n) = request_line n [] (codes "not text")
fault_line (bad_request n) = request_line n [] (codes "request")
fault_line (bad_zone n unknown_zone) = request_line n [] (codes "unknown zone")
fault_line (bad_zone n (bad_schedule refused)) = request_line n (codes "schedule ") (fault_name refused)
fault_line (bad_zone n offset_range) = request_line n [] (codes "offset range")
fault_line (bad_zone n rules_end) = request_line n [] (codes "rules end")
fault_line (range n) = request_line n [] (codes "range")
