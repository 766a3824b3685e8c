-- The POSIX TZ string that stands for the tail of a set, from which entry on, and why there is none.
use Rattle.std.specs.{Prelude.{◌≡◌, ℕ, zero, suc, Bool, false, ◌&&◌, ◌||◌, not, ◌==◌, nat_le, List, [], ◌∷◌, ◌++◌, length, map, Option, Some, None, if◌then◌else◌, ℤ, pos, ◌+ℤ◌, ◌-ℤ◌, int_le, int_lt, unsigned_abs}, Char.{is_ascii_alphabetic, is_ascii_digit}, List.{list_all, list_any}}
use Rattle.zone_spans.specs.Entries.{Entry, total}
use Rattle.tz_lookup.specs.{Sets.{schedule_of, shifts_of}, Spans.{Shift, shift_at}, declared.set.FixedTimespanSet.{FixedTimespanSet}}
use Rattle.tz_posix.specs.Marks.{less, greater, minus_sign, plus_sign}
use Rattle.zone_tail.specs.{Changes.{changes_at}, Choices.{candidate_at, IsChoice}, LastYear.{Form, steady, yearly, other, form, second_week, standard_of, year_end}, Texts.{text_of}, declared.candidate.Candidate.{Candidate}}
use Rattle.zone_tail.specs.declared.{candidate.Candidate.TheVariants.{Fixed, Ruled}, rule.Change.{Change}, rule.YearlyRule.{YearlyRule}, outcome.TailFault.{TailFault}}
use Rattle.zone_tail.specs.declared.outcome.TailFault.TheVariants as fault

-- ---- the candidates

abbrev pub rule_with : ℤ → ℤ → Change → Change → YearlyRule
rule_with standard saving start end = record { standard = standard; saving = saving; start = start; end = end }

-- each start with each end, by the start first
abbrev pub rules_with : ℤ → ℤ → List Change → List Change → List Candidate
rules_with standard saving [] ends = []
rules_with standard saving (start ∷ starts) ends =
    map (λ (end : Change). Ruled (rule_with standard saving start end)) ends ++ rules_with standard saving starts ends

-- the start is read at the standard offset, the end at that of daylight saving time
abbrev pub candidates_of : ℤ → Form → List Candidate
candidates_of offset (steady span) = Fixed (total span) ∷ []
candidates_of offset (yearly start end) =
    rules_with offset (total start.1) (changes_at (start.0 +ℤ offset)) (changes_at (end.0 +ℤ total start.1))
candidates_of offset other = []

-- what may stand for the tail of a set, in order
abbrev pub candidates : FixedTimespanSet → List Candidate
candidates set = candidates_of (standard_of set) (form set)

-- the second at which the last year ends
abbrev pub end_of_last_year : FixedTimespanSet → ℤ
end_of_last_year set = year_end -ℤ standard_of set

-- an entry stands at that second or past it, where a string says nothing of the set
unfoldable pub is_outlasting : FixedTimespanSet → Bool
is_outlasting set = list_any (λ (entry : Entry). int_le (end_of_last_year set) entry.0) set.others

-- Daylight saving time ends in the first week of the last year, by its own clocks. A rule that says so may end that of the year after
-- before the last year is over, where a string and a footer are read otherwise.
abbrev pub ends_early : Form → Bool
ends_early (yearly start end) = int_lt (end.0 +ℤ total start.1) second_week
ends_early (steady span) = false
ends_early other = false

unfoldable pub is_ending_early : FixedTimespanSet → Bool
is_ending_early set = ends_early (form set)

-- Daylight saving time holds all the last year, of which a string of one offset says that it is standard time.
abbrev pub saves_on : Form → Bool
saves_on (steady span) = int_lt (pos 0) span.dst_offset
saves_on (yearly start end) = false
saves_on other = false

unfoldable pub is_saving_on : FixedTimespanSet → Bool
is_saving_on set = saves_on (form set)

-- ---- the causes

-- at most 24:59:59 in size
abbrev pub can_be_written : ℤ → Bool
can_be_written offset = nat_le (unsigned_abs offset) 89999

-- not `<`, `>`, a line feed or a zero byte
abbrev pub is_name_byte : ℕ → Bool
is_name_byte c = not (c == less) && not (c == greater) && not (c == 10) && not (c == 0)

abbrev pub is_name : List ℕ → Bool
is_name name = nat_le 1 (length name) && list_all is_name_byte name

-- POSIX has a place for names of three bytes and more, each an ASCII letter or digit, `+` or `-`
abbrev pub is_posix_byte : ℕ → Bool
is_posix_byte c = is_ascii_alphabetic c || is_ascii_digit c || c == plus_sign || c == minus_sign

abbrev pub is_posix_name : List ℕ → Bool
is_posix_name name = nat_le 3 (length name) && list_all is_posix_byte name

abbrev pub named_or : Bool → Option TailFault
named_or named = if named then None else Some fault.Name

abbrev pub fault_of : ℤ → Form → Option TailFault
fault_of offset (steady span) = if can_be_written (total span) then named_or (is_name span.name) else Some fault.OffsetRange
fault_of offset (yearly start end) =
    if can_be_written offset && can_be_written (total start.1)
    then named_or (is_name end.1.name && is_name start.1.name)
    else Some fault.OffsetRange
fault_of offset other = Some fault.Shape

-- the first cause, or none
abbrev pub tail_fault : FixedTimespanSet → Option TailFault
tail_fault set = fault_of (standard_of set) (form set)

-- want of memory comes only where there is no cause, any other fault is its cause
abbrev pub IsFaultOf : FixedTimespanSet → TailFault → Type 0
IsFaultOf set fault.NoMemory = tail_fault set ≡ None
IsFaultOf set fault.Shape = tail_fault set ≡ Some fault.Shape
IsFaultOf set fault.OffsetRange = tail_fault set ≡ Some fault.OffsetRange
IsFaultOf set fault.Name = tail_fault set ≡ Some fault.Name

-- ---- the answer

-- the name of standard time, and that of daylight saving time
abbrev pub names_of : Form → List ℕ × List ℕ
names_of (steady span) = (span.name, [])
names_of (yearly start end) = (end.1.name, start.1.name)
names_of other = ([], [])

-- when span k begins
abbrev pub beginning : List Shift → ℕ → Option ℤ
beginning shifts zero = None
beginning shifts (suc i) = Some (shift_at shifts i).0

-- The text of a candidate, and the beginning of the first span from which on it agrees up to the end of the last year. No candidate
-- agrees from an earlier span that is allowed, and none before it from this one.
pub record IsTail (set : FixedTimespanSet) (from : Option ℤ) (text : List ℕ) : Type 0 where
  pub none : tail_fault set ≡ None
  pub index : ℕ
  pub span : ℕ
  pub choice : IsChoice (candidates set) (schedule_of set) (end_of_last_year set) index span
  pub begins : from ≡ beginning (shifts_of set) span
  pub written : text ≡ text_of (names_of (form set)).0 (names_of (form set)).1 (candidate_at (candidates set) index)
