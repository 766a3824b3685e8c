-- A zone goes on for ever where its rules do: what is tested of its lines, over one cycle of 400 years from 2100 on.
use Rattle.std.specs.{Prelude.{◌≡◌, ℕ, nat_lt, nat_abs, Bool, true, false, not, ◌&&◌, ◌||◌, List, [], ◌∷◌, ◌++◌, find, Option, Some, None, option_map, Result, Ok, Err, is_some, is_none, ℤ, pos, int_lt}, List.{list_all, list_any}, Option.{option_map_or}}
use Rattle.std.specs.Ordering.{int_eq}
use Rattle.zone_table.specs.{Ends.{end_year, year_number}, declared.change.ChangeTime.{ChangeTime}, declared.{rule.RuleInfo.{RuleInfo}, zone.ZoneInfo.{ZoneInfo}}}
use Rattle.zone_spans.specs.{Collapse.{is_no_later, is_same_span, kept_of}, Compiled.{compiled}, Entries.{Entry, is_sooner, entries_from_over, sorted_entries_over}, Faults.{is_outside, some_year}, Lines.{Line, Rulesets, is_ruled, zone_lines}}
use Rattle.zone_spans.specs.{Cycle.{seconds_on}, Later.{first_fired, later_entries, start_after}, Settled.{are_settled, is_lasting}, declared.fault.SpanFault.{SpanFault}, declared.fault.SpanFault.TheVariants.{NoMemory}}

-- the lines but the last
unfoldable pub front_of : List Line → List Line
front_of [] = []
front_of (line ∷ []) = []
front_of (line ∷ next ∷ lines) = line ∷ front_of (next ∷ lines)

unfoldable pub last_of : List Line → Option Line
last_of [] = None
last_of (line ∷ []) = Some line
last_of (line ∷ next ∷ lines) = last_of (next ∷ lines)

-- the line has an end, in 2099 or before
abbrev pub ends_by_then : Option ChangeTime → Bool
ends_by_then None = false
ends_by_then (Some end) = nat_lt (nat_abs (year_number (end_year end))) 2100

-- a rule's day lies in another year than the rule's, in one of the years 1800 to 2499
abbrev pub some_leaves : List RuleInfo → Bool
some_leaves rules = list_any (λ rule. some_year (is_outside rule) 700) rules

-- nothing of the line changes from 2100 on: it isn't ruled, or has no rule without a last year
abbrev pub is_still : Line → Bool
is_still line = not (is_ruled line.info.saving && list_any is_lasting line.rules)

-- before 2101-01-01 00:00:00 UTC
abbrev pub is_before_2101 : Entry → Bool
is_before_2101 e = int_lt e.0 (pos 4133980800)

-- the entries of the cycle that begins with 2100
abbrev pub cycle_entries : Line → List Entry
cycle_entries last = later_entries last 300 400

-- the times don't fall
unfoldable pub dont_fall : List Entry → Bool
dont_fall [] = true
dont_fall (e ∷ []) = true
dont_fall (e ∷ g ∷ es) = not (is_sooner g e) && dont_fall (g ∷ es)

-- the cycle's entries are in order: none comes more than a cycle after the first, nor the first before one of those from before
-- 2100; and the line starts before the first
unfoldable pub is_in_order : Option ℤ → List Entry → List Entry → Bool
is_in_order start before [] = false
is_in_order start before (e ∷ es) =
    dont_fall (e ∷ es)
    && list_all (λ g. not (int_lt (seconds_on e.0) g.0)) (e ∷ es)
    && option_map_or (λ s. int_lt s e.0) start true
    && list_all (λ g. not (int_lt e.0 g.0)) before

-- what the collapse keeps of the entries of the first n years, the latest first
abbrev pub kept_over : ℕ → List Line → List Entry
kept_over n lines = kept_of [] (sorted_entries_over n lines)

-- the same a cycle later
abbrev pub is_cycle_later : Entry → Entry → Bool
is_cycle_later later e = int_eq later.0 (seconds_on e.0) && is_same_span later.1 e.1

-- the two latest are the same, a cycle apart
abbrev pub are_cycle_later : List Entry → List Entry → Bool
are_cycle_later (l ∷ m ∷ later) (k ∷ j ∷ ks) = is_cycle_later l k && is_cycle_later m j
are_cycle_later _ _ = false

-- the first of the cycle's entries doesn't take the place of the latest that was kept
abbrev pub is_apart : List Entry → List Entry → Bool
is_apart (k ∷ j ∷ ks) (e ∷ es) = not (is_no_later e k j)
is_apart _ _ = false

-- at the end of 2099 and of 2499 the same saving is in force; a firing before 2100 ends a saving; the cycle's entries are in
-- order; and the two latest entries that are kept at both ends are the same, and stay
unfoldable pub turns : List Line → Line → Bool
turns front last =
    let lines = front ++ (last ∷ []) in
    int_eq (first_fired last 700).1 (first_fired last 300).1
    && is_some (find (λ f. int_eq f.rule.time_to_add (pos 0)) (first_fired last 300).0)
    && is_in_order (start_after None front) (entries_from_over 300 None lines) (cycle_entries last)
    && are_cycle_later (kept_over 700 lines) (kept_over 300 lines)
    && is_apart (kept_over 300 lines) (cycle_entries last)

-- each line but the last ends in 2099 or before, and the last has no end; each of its rules begins in 2099 or before, ends there
-- or never, and stays in its year
abbrev pub has_settled_lines : List Line → Line → Bool
has_settled_lines front last =
    list_all (λ line. ends_by_then line.end) front
    && is_none last.end && is_none last.info.end_time
    && are_settled last.rules && not (some_leaves last.rules)

-- so they are, nothing from before 2100 comes after that year, and the last is still or turns
unfoldable pub last_goes_on : List Line → Line → Bool
last_goes_on front last =
    has_settled_lines front last
    && list_all is_before_2101 (entries_from_over 300 None (front ++ (last ∷ [])))
    && (is_still last || turns front last)

-- of a zone's lines
unfoldable pub goes_on : List Line → Bool
goes_on lines = option_map_or (last_goes_on (front_of lines)) (last_of lines) false

-- of a zone
abbrev pub GoesOn : Rulesets → List ZoneInfo → Type 0
GoesOn rulesets infos = goes_on (zone_lines rulesets infos) ≡ true

-- a call's answer beside a zone's lines, where a name finds some; want of memory may come in place of any
abbrev pub TellsGoing : Result (Option Bool) SpanFault → Rulesets → Option (List ZoneInfo) → Type 0
TellsGoing (Err NoMemory) rulesets found = Unit {0}
TellsGoing (Err fault) rulesets found = option_map (compiled rulesets) found ≡ Some (Err fault)
TellsGoing (Ok None) rulesets found = found ≡ None
TellsGoing (Ok (Some goes)) rulesets found = option_map (λ infos. goes_on (zone_lines rulesets infos)) found ≡ Some goes
