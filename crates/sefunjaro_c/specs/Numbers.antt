-- The statuses, the causes, the rules and the kinds by the names of the header, with their numbers: the one table of them. That calls tell these numbers is
-- computed in NumberRows of proofs/; bin/try_numbers finds them in the header and in the modules for Python and Rust.
use Rattle.std.specs.Prelude.{ℕ, List, [], ◌∷◌, codes}

-- enum sefunjaro_status
abbrev pub statuses : List (List ℕ × ℕ)
statuses =
    (codes "DONE", 0) ∷ (codes "NOT_OPEN", 1) ∷ (codes "NO_MEMORY", 2) ∷ (codes "TOO_LONG", 3) ∷ (codes "NOT_TEXT", 4) ∷ (codes "BAD_LINE", 5) ∷ (codes "BAD_JOIN", 6)
    ∷ (codes "UNKNOWN_ZONE", 7) ∷ (codes "NO_SCHEDULE", 8) ∷ (codes "OFFSET_RANGE", 9) ∷ (codes "OUT_OF_RANGE", 10) ∷ (codes "NONE", 11) ∷ (codes "NOT_READ", 12)
    ∷ (codes "NOT_KEPT", 13) ∷ (codes "NO_PLAIN_FORM", 14) ∷ []

-- enum sefunjaro_line_cause
abbrev pub line_causes : List (List ℕ × ℕ)
line_causes =
    (codes "FAILED_YEAR_PARSE", 1) ∷ (codes "FAILED_MONTH_PARSE", 2) ∷ (codes "FAILED_WEEKDAY_PARSE", 3) ∷ (codes "INVALID_LINE_TYPE", 4)
    ∷ (codes "TYPE_COLUMN_CONTAINED_NON_HYPHEN", 5) ∷ (codes "COULD_NOT_PARSE_SAVING", 6) ∷ (codes "INVALID_DAY_SPEC", 7)
    ∷ (codes "INVALID_TIME_SPEC_AND_TYPE", 8) ∷ (codes "NON_WALL_CLOCK_IN_TIME_SPEC", 9) ∷ []

-- enum sefunjaro_join_cause
abbrev pub join_causes : List (List ℕ × ℕ)
join_causes = (codes "SURPRISE_CONTINUATION_LINE", 1) ∷ (codes "UNKNOWN_RULESET", 2) ∷ (codes "DUPLICATE_LINK", 3) ∷ (codes "DUPLICATE_ZONE", 4) ∷ []

-- enum sefunjaro_schedule_cause, after SCHEDULE_
abbrev pub schedule_causes : List (List ℕ × ℕ)
schedule_causes =
    (codes "UNKNOWN_RULESET", 1) ∷ (codes "MISSING_UNTIL", 2) ∷ (codes "YEAR_RANGE", 3) ∷ (codes "RULE_YEARS", 4) ∷ (codes "DAY_RANGE", 5) ∷ (codes "NO_STANDARD_SPAN", 6) ∷ []

-- enum sefunjaro_plain_cause, after PLAIN_
abbrev pub plain_causes : List (List ℕ × ℕ)
plain_causes =
    (codes "NOT_TEXT", 1) ∷ (codes "QUOTES", 2) ∷ (codes "LINE_TYPE", 3) ∷ (codes "FIELD_COUNT", 4) ∷ (codes "RULESET_NAME", 5) ∷ (codes "YEAR", 6) ∷ (codes "YEAR_ORDER", 7)
    ∷ (codes "TYPE", 8) ∷ (codes "MONTH", 9) ∷ (codes "DAY", 10) ∷ (codes "TIME", 11) ∷ (codes "SAVING", 12) ∷ (codes "FORMAT", 13) ∷ (codes "UNSAYABLE", 14)
    ∷ (codes "CONTINUATION", 15) ∷ (codes "UNKNOWN_RULESET", 16) ∷ (codes "DUPLICATE_ZONE", 17) ∷ (codes "LINK_IS_ZONE", 18) ∷ (codes "DUPLICATE_LINK", 19)
    ∷ (codes "TARGET", 20) ∷ (codes "TOO_LONG", 21) ∷ (codes "NAME", 22) ∷ []

-- enum sefunjaro_file_cause, after FILE_
abbrev pub file_causes : List (List ℕ × ℕ)
file_causes = (codes "REFUSED", 1) ∷ (codes "FOOTER", 2) ∷ []

-- enum sefunjaro_tail_cause, after TAIL_
abbrev pub tail_causes : List (List ℕ × ℕ)
tail_causes = (codes "SHAPE", 1) ∷ (codes "OFFSET_RANGE", 2) ∷ (codes "NAME", 3) ∷ []

-- enum sefunjaro_tzif_cause, after TZIF_
abbrev pub tzif_causes : List (List ℕ × ℕ)
tzif_causes = (codes "TIMES", 1) ∷ (codes "TYPES", 2) ∷ (codes "NAMES", 3) ∷ []

-- enum sefunjaro_ever_cause, after EVER_
abbrev pub ever_causes : List (List ℕ × ℕ)
ever_causes =
    (codes "SHAPE", 1) ∷ (codes "OFFSET_RANGE", 2) ∷ (codes "NAME", 3) ∷ (codes "NO_RULE", 4) ∷ (codes "TIMES", 5) ∷ (codes "TYPES", 6) ∷ (codes "NAMES", 7)
    ∷ (codes "RULES_END", 8) ∷ (codes "SAVING", 9) ∷ []

-- enum sefunjaro_fold, after FOLD_
abbrev pub folds : List (List ℕ × ℕ)
folds = (codes "FIRST", 0) ∷ (codes "SECOND", 1) ∷ []

-- enum sefunjaro_gap_rule, after GAP_
abbrev pub gap_rules : List (List ℕ × ℕ)
gap_rules = (codes "BEFORE", 0) ∷ (codes "AFTER", 1) ∷ (codes "NONE", 2) ∷ []

-- enum sefunjaro_kind, after KIND_
abbrev pub kinds : List (List ℕ × ℕ)
kinds = (codes "GAP", 0) ∷ (codes "ONE", 1) ∷ (codes "FOLD", 2) ∷ (codes "MORE", 3) ∷ []
