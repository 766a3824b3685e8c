-- Whether two lines mean the same.
use Rattle.std.specs.Prelude.{Bool, true, false, ◌&&◌, Option, Some, None, bytes_eq}
use Rattle.zone_table.specs.Values.{SavingValue, no_saving, one_off, multiple, InfoValue, RuleValue, LineValue, space, zone, continuation, rule, link}
use Rattle.zone_table.specs.contracts.time.TimeSpecPartialEq.TheImpl as of_time
use Rattle.zone_table.specs.contracts.time.TimeSpecAndTypePartialEq.TheImpl as of_marked_time
use Rattle.zone_table.specs.contracts.year.YearPartialEq.TheImpl as of_year
use Rattle.zone_table.specs.contracts.month.MonthPartialEq.TheImpl as of_month
use Rattle.zone_table.specs.contracts.day.DaySpecPartialEq.TheImpl as of_day
use Rattle.zone_table.specs.contracts.change.ChangeTimePartialEq.TheImpl as of_end

-- both are there and pass the test, or neither is there
abbrev pub same_option : {A : Type 0} → (A → A → Bool) → Option A → Option A → Bool
same_option same None None = true
same_option same (Some a) (Some b) = same a b
same_option same _ _ = false

abbrev pub same_saving : SavingValue → SavingValue → Bool
same_saving no_saving no_saving = true
same_saving (one_off a) (one_off b) = of_time.ghosts.eq a b
same_saving (multiple a) (multiple b) = bytes_eq a b
same_saving _ _ = false

abbrev pub same_info : InfoValue → InfoValue → Bool
same_info a b =
    of_time.ghosts.eq a.utc_offset b.utc_offset
    && (same_saving a.saving b.saving && (bytes_eq a.format b.format && same_option of_end.ghosts.eq a.time b.time))

abbrev pub same_rule : RuleValue → RuleValue → Bool
same_rule a b =
    bytes_eq a.name b.name
    && (of_year.ghosts.eq a.from_year b.from_year && (same_option of_year.ghosts.eq a.to_year b.to_year
    && (of_month.ghosts.eq a.month b.month && (of_day.ghosts.eq a.day b.day && (of_marked_time.ghosts.eq a.time b.time
    && (of_time.ghosts.eq a.time_to_add b.time_to_add && same_option bytes_eq a.letters b.letters))))))

unfoldable pub same_line : LineValue → LineValue → Bool
same_line space space = true
same_line (zone a i) (zone b j) = bytes_eq a b && same_info i j
same_line (continuation i) (continuation j) = same_info i j
same_line (rule a) (rule b) = same_rule a b
same_line (link a b) (link c d) = bytes_eq a c && bytes_eq b d
same_line _ _ = false
