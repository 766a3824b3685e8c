-- Sizes under which sums of times and offsets fit, and what a line has to be to be expanded.
use Rattle.std.specs.{Prelude.{◌≡◌, ℕ, ℤ, pos, neg_ℤ, ◌≤ℤ◌, int_le, Bool, true, false, not, ◌&&◌, IsTrue, Option, Some, None}, List.{list_all}, Option.{option_map_or}}
use Rattle.zone_table.specs.{LineBounds.{are_small_seconds}, Days.{named_day, is_in_year, has_day_of_month}, Ends.{end_day, is_dated}, declared.change.ChangeTime.{ChangeTime}, Bounds.{is_bounded_info, is_bounded_rule}, Moments.{has_years}, declared.rule.RuleInfo.{RuleInfo}}
use Rattle.zone_spans.specs.{Entries.{Entry}, Faults.{ends_in_no_year, ends_outside, is_outside, lacks_years}, Firings.{Firing, years_over}, Lines.{Line}, Tested.{NoneLeaves}, declared.span.FixedTimespan.{FixedTimespan}}
use Rattle.zone_spans.specs.declared.span.FixedTimespanSet.{FixedTimespanSet}

-- 2^40: no second of an entry, and no offset, is greater in size
abbrev pub greatest_second : ℕ
greatest_second = 1099511627776

-- at most that in size
abbrev pub is_small : ℤ → Bool
is_small z = int_le (neg_ℤ (pos greatest_second)) z && int_le z (pos greatest_second)

abbrev pub is_bounded_span : FixedTimespan → Bool
is_bounded_span span = is_small span.utc_offset && is_small span.dst_offset

abbrev pub is_bounded_entry : Entry → Bool
is_bounded_entry e = is_small e.0 && is_bounded_span e.1

-- the same of an entry, as bounds
abbrev pub IsSmall : ℤ → Type 0
IsSmall z = (neg_ℤ (pos greatest_second) ≤ℤ z) × (z ≤ℤ pos greatest_second)

pub record IsSmallEntry (e : Entry) : Type 0 where
  pub time : IsSmall e.0
  pub utc : IsSmall e.1.utc_offset
  pub dst : IsSmall e.1.dst_offset

abbrev pub is_bounded_firing : Firing → Bool
is_bounded_firing f = is_small f.time && are_small_seconds f.rule.time_to_add

abbrev pub is_start : Option ℤ → Bool
is_start start = option_map_or is_small start true

abbrev pub is_bounded : FixedTimespanSet → Bool
is_bounded set = is_bounded_span set.first && list_all is_bounded_entry set.rest

-- the numbers of the line, of its rules and of its end are small
unfoldable pub is_bounded_line : Line → Bool
is_bounded_line line =
    is_bounded_info line.info
    && list_all is_bounded_rule line.rules
    && option_map_or (λ end. has_day_of_month (end_day end)) line.end true

-- an end that is there has a day
abbrev pub is_end : Option ChangeTime → Bool
is_end None = true
is_end (Some end) = is_dated end

-- the rule has a moment in the year
abbrev pub has_moment : ℤ → RuleInfo → Bool
has_moment year rule = is_bounded_rule rule && is_in_year (named_day rule.day year rule.month) year

-- the rule has one, if it applies to the year
unfoldable pub can_fire : ℤ → RuleInfo → Bool
can_fire year rule = is_bounded_rule rule && has_years rule && not (is_outside rule year)

-- what a line has to be to be expanded over so many years
pub record IsSound (count : ℕ) (line : Line) : Type 0 where
  pub bounded : IsTrue (is_bounded_line line)
  pub year : ends_in_no_year line ≡ false
  pub years : lacks_years line ≡ false
  pub end : option_map_or ends_outside line.end false ≡ false
  pub days : NoneLeaves line.rules count

-- over those of so many that it expands
abbrev pub IsSoundOver : ℕ → Line → Type 0
IsSoundOver most line = IsSound (years_over most line.end) line
