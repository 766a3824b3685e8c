-- The firings of a line.
use Rattle.std.specs.Prelude.{ℕ, zero, suc, ◌+◌, ◌-◌, min, nat_abs, Bool, false, List, [], ◌∷◌, ◌++◌, length, filter, Option, Some, None, ℤ, pos, int_lt, int_le, if◌then◌else◌}
use Rattle.zone_table.specs.{Ends.{end_year, year_number}, declared.change.ChangeTime.{ChangeTime}, Moments.{moment, applies_to_year}, declared.rule.RuleInfo.{RuleInfo}}
use Rattle.zone_spans.specs.{Lines.{Line, is_ruled, fixed_saving}, Windows.{line_end}, Years.{earliest_year, most_years}}

pub record Firing : Type 0 where
  pub time : ℤ
  pub rule : RuleInfo

-- firings, and the saving that is in force after them
abbrev pub Fired : Type 0
Fired = List Firing × ℤ

abbrev pub is_earlier : ℤ → ℤ → ℤ → RuleInfo → RuleInfo → Bool
is_earlier year offset saving a b = int_lt (moment a year offset saving) (moment b year offset saving)

-- the earliest of the rules r and rs, the first of them where several are, and the others in their order
unfoldable pub earliest : ℤ → ℤ → ℤ → RuleInfo → List RuleInfo → RuleInfo × List RuleInfo
earliest year offset saving r [] = (r, [])
earliest year offset saving r (q ∷ qs) =
    let later = earliest year offset saving q qs in
    if is_earlier year offset saving later.0 r then (later.0, r ∷ later.1) else (r, q ∷ qs)

-- at or after the line's end under the saving in force
abbrev pub is_over : Option ChangeTime → ℤ → ℤ → ℤ → Bool
is_over None offset saving time = false
is_over (Some end) offset saving time = int_le (line_end end offset saving) time

-- of a number of rules at most, which fire one by one, each under the saving of the one before it
unfoldable pub fired : ℕ → ℤ → ℤ → Option ChangeTime → ℤ → List RuleInfo → Fired
fired zero year offset end saving rules = ([], saving)
fired (suc n) year offset end saving [] = ([], saving)
fired (suc n) year offset end saving (r ∷ rs) =
    let next = earliest year offset saving r rs in
    let time = moment next.0 year offset saving in
    let later = fired n year offset end next.0.time_to_add next.1 in
    if is_over end offset saving time then ([], saving)
    else (record { time = time; rule = next.0 } ∷ later.0, later.1)

-- of those of the rules that apply to the year, which begins with that saving
unfoldable pub year_firings : ℤ → ℤ → Option ChangeTime → ℤ → List RuleInfo → Fired
year_firings year offset end saving rules =
    let rs = filter (λ r. applies_to_year r year) rules in
    fired (length rs) year offset end saving rs

-- of the first n years from the earliest on, begun with no saving
unfoldable pub firings_of_years : ℤ → Option ChangeTime → List RuleInfo → ℕ → Fired
firings_of_years offset end rules zero = ([], pos 0)
firings_of_years offset end rules (suc n) =
    let before = firings_of_years offset end rules n in
    let here = year_firings (pos (earliest_year + n)) offset end before.1 rules in
    (before.0 ++ here.0, here.1)

-- how many of so many years from the earliest on a line expands: all of them, or those up to the year of its end
unfoldable pub years_over : ℕ → Option ChangeTime → ℕ
years_over most None = most
years_over most (Some end) = min most (nat_abs (year_number (end_year end)) - (earliest_year - 1))

-- a line that is not ruled has no firing
unfoldable pub line_firings_over : ℕ → Line → Fired
line_firings_over most line =
    if is_ruled line.info.saving
    then firings_of_years line.info.offset line.end line.rules (years_over most line.end)
    else ([], fixed_saving line.info.saving)

-- over the years to the latest
abbrev pub years_expanded : Option ChangeTime → ℕ
years_expanded end = years_over most_years end

abbrev pub line_firings : Line → Fired
line_firings line = line_firings_over most_years line

abbrev pub firings : Line → List Firing
firings line = (line_firings line).0
