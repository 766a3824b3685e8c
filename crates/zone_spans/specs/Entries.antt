-- The entries of a zone.
use Rattle.std.specs.{Prelude.{ℕ, Bool, List, [], ◌∷◌, ◌++◌, map, find, Option, Some, None, option_map, ℤ, pos, ◌+ℤ◌, int_lt, if◌then◌else◌}, Ordering.{int_eq}}
use Rattle.zone_table.specs.Formats.{abbreviation}
use Rattle.basics.specs.Sorted.{stable_sort}
use Rattle.zone_spans.specs.{Windows.{line_end}, Lines.{Line, is_ruled, fixed_saving}, Firings.{Firing, line_firings_over}, Listing.{listed_firings, start_firing}, Years.{most_years}, declared.span.FixedTimespan.{FixedTimespan}}

-- a second from 1970 on, and what is in force from then on
abbrev pub Entry : Type 0
Entry = ℤ × FixedTimespan

abbrev pub total : FixedTimespan → ℤ
total span = span.utc_offset +ℤ span.dst_offset

-- what a firing puts in force
abbrev pub span_of : Line → Firing → FixedTimespan
span_of line f = record {
  utc_offset = line.info.offset;
  dst_offset = f.rule.time_to_add;
  name = abbreviation line.info.format f.rule.time_to_add f.rule.letters;
}

abbrev pub entry_of : Line → Firing → Entry
entry_of line f = (f.time, span_of line f)

-- what a line that is not ruled puts in force
abbrev pub fixed_span : Line → FixedTimespan
fixed_span line = record {
  utc_offset = line.info.offset;
  dst_offset = fixed_saving line.info.saving;
  name = abbreviation line.info.format (fixed_saving line.info.saving) None;
}

abbrev pub at_start : Option ℤ → Option FixedTimespan → List Entry
at_start (Some start) (Some span) = (start, span) ∷ []
at_start _ _ = []

-- the entry at the start of a ruled line with these firings
abbrev pub start_entry : Line → Option ℤ → List Firing → List Entry
start_entry line None fs = []
start_entry line (Some start) fs = at_start (Some start) (option_map (span_of line) (start_firing start fs))

-- of a line with that start: the firings that it lists, and then the entry at its start
unfoldable pub entries_of_over : ℕ → Line → Option ℤ → List Entry
entries_of_over most line start =
    if is_ruled line.info.saving
    then map (entry_of line) (listed_firings start (line_firings_over most line).0) ++ start_entry line start (line_firings_over most line).0
    else at_start start (Some (fixed_span line))

-- where the next line starts
unfoldable pub next_start_over : ℕ → Line → Option ℤ
next_start_over most line = option_map (λ end. line_end end line.info.offset (line_firings_over most line).1) line.end

-- line by line
unfoldable pub entries_from_over : ℕ → Option ℤ → List Line → List Entry
entries_from_over most start [] = []
entries_from_over most start (line ∷ lines) =
    entries_of_over most line start ++ entries_from_over most (next_start_over most line) lines

abbrev pub raw_entries_over : ℕ → List Line → List Entry
raw_entries_over most lines = entries_from_over most None lines

abbrev pub is_sooner : Entry → Entry → Bool
is_sooner a b = int_lt a.0 b.0

-- in order of time; those of one time stay as they are
unfoldable pub sorted_entries_over : ℕ → List Line → List Entry
sorted_entries_over most lines = stable_sort is_sooner (raw_entries_over most lines)

-- over the years to the latest
abbrev pub entries_of : Line → Option ℤ → List Entry
entries_of line start = entries_of_over most_years line start

abbrev pub raw_entries : List Line → List Entry
raw_entries lines = raw_entries_over most_years lines

abbrev pub sorted_entries : List Line → List Entry
sorted_entries lines = sorted_entries_over most_years lines

abbrev pub is_standard : Entry → Bool
is_standard e = int_eq e.1.dst_offset (pos 0)

-- what holds before all entries: what the first line puts in force, or the first entry with no saving where that line is ruled
unfoldable pub first_span : List Line → List Entry → Option FixedTimespan
first_span [] entries = None
first_span (line ∷ lines) entries =
    if is_ruled line.info.saving then option_map (λ e. e.1) (find is_standard entries)
    else Some (fixed_span line)
