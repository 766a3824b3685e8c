-- The lines that tell a fault of a source.
use Rattle.std.specs.Prelude.{ℕ, ◌+◌, ◌≤◌, List, [], ◌++◌, length, codes, decimal}
use Rattle.zone_table.specs.Faults as line
use Rattle.zone_source.specs.{Faults.{SourceFault, not_text, bad_line, bad_join}, declared.error.BuildKind.{BuildKind}, declared.error.BuildKind.TheVariants.{SurpriseContinuationLine, UnknownRuleset, DuplicateLink, DuplicateZone}}
use Rattle.zone_source.specs.declared.fault_line.FaultText.{FaultText}

-- `source 3: line InvalidDaySpec`: the text that has the line, the line's number, what refused it, and why
abbrev pub line_with : List ℕ → ℕ → List ℕ → List ℕ → List ℕ
line_with side n group cause = (((side ++ decimal n) ++ codes ": ") ++ group) ++ cause

abbrev pub line_shown : FaultText → List ℕ
line_shown text = line_with text.side.now text.number text.group.now text.cause.now

-- it fits where the longest number does
abbrev pub IsShort : FaultText → Type 0
IsShort text = length text.side.now + length text.group.now + length text.cause.now ≤ 40

-- the name of a refusal to join
abbrev pub build_name : BuildKind → List ℕ
build_name SurpriseContinuationLine = codes "SurpriseContinuationLine"
build_name UnknownRuleset = codes "UnknownRuleset"
build_name DuplicateLink = codes "DuplicateLink"
build_name DuplicateZone = codes "DuplicateZone"

abbrev pub bad_line_text : ℕ → line.Fault → List ℕ
bad_line_text n refused = line_with (codes "source ") n (codes "line ") (line.fault_name refused.kind)

abbrev pub bad_join_text : ℕ → BuildKind → List ℕ
bad_join_text n kind = line_with (codes "source ") n (codes "build ") (build_name kind)

abbrev pub source_line : SourceFault → List ℕ
source_line (not_text n) = line_with (codes "source ") n [] (codes "not text")
source_line (bad_line n refused) = bad_line_text n refused
source_line (bad_join n kind) = bad_join_text n kind
