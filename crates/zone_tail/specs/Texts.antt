-- The texts of candidates.
use Rattle.std.specs.{Prelude.{ℕ, ◌/◌, ◌%◌, Bool, ◌&&◌, ◌==◌, nat_le, nat_lt, List, [], ◌++◌, length, codes, if◌then◌else◌, ℤ, pos, ◌+ℤ◌, int_lt, unsigned_abs}, Char.{is_ascii_alphabetic}, Fmt.{decimal}, List.{list_all}, Ordering.{int_eq}}
use Rattle.zone_tail.specs.declared.{candidate.Candidate.{Candidate}, candidate.Candidate.TheVariants.{Fixed, Ruled}, rule.Change.{Change}, rule.YearlyRule.{YearlyRule}}

-- 3 to 16 ASCII letters
abbrev pub is_plain : List ℕ → Bool
is_plain name = nat_le 3 (length name) && nat_le (length name) 16 && list_all is_ascii_alphabetic name

-- every other name stands in brackets
unfoldable pub name_text : List ℕ → List ℕ
name_text name = if is_plain name then name else codes "<" ++ name ++ codes ">"

abbrev pub two_digits : ℕ → List ℕ
two_digits n = (if nat_lt n 10 then codes "0" else []) ++ decimal n

abbrev pub second_text : ℕ → List ℕ
second_text second = if second == 0 then [] else codes ":" ++ two_digits second

abbrev pub minute_text : ℕ → ℕ → List ℕ
minute_text minute second =
    if minute == 0 && second == 0 then [] else codes ":" ++ two_digits minute ++ second_text second

-- hours, and minutes and seconds as far as they are needed, of so many seconds
unfoldable pub time_text : ℕ → List ℕ
time_text seconds = decimal (seconds / 3600) ++ minute_text (seconds / 60 % 60) (seconds % 60)

-- an offset east of UTC is negative
unfoldable pub offset_text : ℤ → List ℕ
offset_text east = (if int_lt (pos 0) east then codes "-" else []) ++ time_text (unsigned_abs east)

-- that of daylight saving time is left out where it is an hour ahead of standard time
unfoldable pub saving_text : ℤ → ℤ → List ℕ
saving_text standard saving = if int_eq saving (standard +ℤ pos 3600) then [] else offset_text saving

-- 2:00 is left out
abbrev pub clock_text : ℕ → List ℕ
clock_text second = if second == 7200 then [] else codes "/" ++ time_text second

unfoldable pub change_text : Change → List ℕ
change_text change =
    codes "M" ++ decimal change.month ++ codes "." ++ decimal change.week ++ codes "." ++ decimal change.weekday
    ++ clock_text change.second

unfoldable pub rule_text : YearlyRule → List ℕ
rule_text rule = codes "," ++ change_text rule.start ++ codes "," ++ change_text rule.end

-- with the names of standard and of daylight saving time
unfoldable pub text_of : List ℕ → List ℕ → Candidate → List ℕ
text_of standard saving (Fixed total) = name_text standard ++ offset_text total
text_of standard saving (Ruled rule) =
    name_text standard ++ offset_text rule.standard ++ name_text saving ++ saving_text rule.standard rule.saving ++ rule_text rule
