-- What a zone's last line fires past the first years.
use Rattle.std.specs.Prelude.{ℕ, zero, suc, ◌+◌, List, [], ◌∷◌, ◌++◌, map, Option, None, ℤ, pos}
use Rattle.zone_table.specs.declared.rule.RuleInfo.{RuleInfo}
use Rattle.zone_spans.specs.{Entries.{Entry, entry_of, start_entry, next_start_over}, Firings.{Firing, Fired, firings_of_years, year_firings}, Lines.{Line}, Listing.{listed_firings}, Years.{earliest_year}}

-- of k years from the year with that place on, begun with that saving
unfoldable pub firings_from : ℕ → ℤ → List RuleInfo → ℤ → ℕ → Fired
firings_from place offset rules saving zero = ([], saving)
firings_from place offset rules saving (suc k) =
    let before = firings_from place offset rules saving k in
    let here = year_firings (pos (earliest_year + (k + place))) offset None before.1 rules in
    (before.0 ++ here.0, here.1)

-- of a line with no end, in the first n years
abbrev pub first_fired : Line → ℕ → Fired
first_fired line n = firings_of_years line.info.offset None line.rules n

-- of k years past the first ones
abbrev pub later_fired : Line → ℕ → ℕ → List Firing
later_fired line place k = (firings_from place line.info.offset line.rules (first_fired line place).1 k).0

abbrev pub later_entries : Line → ℕ → ℕ → List Entry
later_entries line place k = map (entry_of line) (later_fired line place k)

-- where the line after these starts
unfoldable pub start_after : Option ℤ → List Line → Option ℤ
start_after start [] = start
start_after start (line ∷ lines) = start_after (next_start_over 300 line) lines

-- the entries of the first n years of a line with no end: those that it lists, and that at its start
abbrev pub listed_entries : Line → Option ℤ → ℕ → List Entry
listed_entries line start n = map (entry_of line) (listed_firings start (first_fired line n).0)

abbrev pub begun_entries : Line → Option ℤ → ℕ → List Entry
begun_entries line start n = start_entry line start (first_fired line n).0
