-- Words and years at worked rows.
use Rattle.std.{proofs.Common.{◌≡◌, ℕ, [], ◌∷◌, map, Some, None, Ok, Err, refl, pos, negsuc, length}, specs.Prelude.{codes}}
use Rattle.basics.specs.Numbers.{signed_in}
use Rattle.zone_table.specs.{declared.{month.Month.TheVariants.{January, February, March, April, May, June, July, August, September, October, November, December}, weekday.Weekday.TheVariants.{Sunday, Monday, Tuesday, Wednesday, Thursday, Friday, Saturday}}, declared.year.Year.TheVariants.{Minimum, Maximum, Number}}
use Rattle.zone_plain_lines.specs.{Columns.{numbered_year, year_of, to_of, years_of}, Words.{meant, line_word, month_word, month_of, weekday_of, last_weekday_of, from_word, to_word}}
use Rattle.zone_plain_lines.specs.Words as words
use Rattle.zone_plain_lines.specs.declared.cause.PlainCause.TheVariants as cause
use Rattle.zone_plain_lines.specs.declared.words.LineWord.TheVariants as word

-- how many letters each word has, so that none is spelled longer
month_lengths : map (λ word. length word.0) words.months ≡ 7 ∷ 8 ∷ 5 ∷ 5 ∷ 3 ∷ 4 ∷ 4 ∷ 6 ∷ 9 ∷ 7 ∷ 8 ∷ 8 ∷ []
month_lengths = refl

weekday_lengths : map (λ word. length word.0) words.weekdays ≡ 6 ∷ 6 ∷ 7 ∷ 9 ∷ 8 ∷ 6 ∷ 8 ∷ []
weekday_lengths = refl

other_lengths : (map (λ word. length word.0) words.line_words ≡ 4 ∷ 4 ∷ 4 ∷ []) × (map (λ word. length word.0) words.from_words ≡ 7 ∷ 7 ∷ [])
    × (map (λ word. length word.0) words.to_words ≡ 7 ∷ 7 ∷ 4 ∷ [])
other_lengths = (refl, refl, refl)

first_words : map line_word (codes "R" ∷ codes "ruLE" ∷ codes "z" ∷ codes "Link" ∷ codes "L" ∷ codes "Rule" ∷ codes "ZONE" ∷ codes "lin" ∷ codes "Leap" ∷ codes "Rules" ∷ codes "" ∷ codes "1:00" ∷ [])
    ≡ Ok word.Rule ∷ Ok word.Rule ∷ Ok word.Zone ∷ Ok word.Link ∷ Ok word.Link ∷ Ok word.Rule ∷ Ok word.Zone ∷ Ok word.Link ∷ Err cause.LineType ∷ Err cause.LineType ∷ Err cause.LineType ∷ Err cause.LineType ∷ []
unfolding line_word meant
first_words = refl

-- the only word that the text begins, in any case on both sides
of_words : map (meant {A = ℕ} ((codes "ab", 1) ∷ (codes "ABC", 2) ∷ (codes "Ab", 3) ∷ (codes "b", 4) ∷ [])) (codes "aB" ∷ codes "Abc" ∷ codes "B" ∷ codes "a" ∷ codes "" ∷ codes "abcd" ∷ codes "bc" ∷ codes "c" ∷ [])
    ≡ None ∷ Some 2 ∷ Some 4 ∷ None ∷ None ∷ None ∷ None ∷ None ∷ []
unfolding meant
of_words = refl

an_abbreviation : map (meant {A = ℕ} ((codes "abc", 1) ∷ (codes "abd", 2) ∷ (codes "axy", 3) ∷ [])) (codes "aX" ∷ codes "abd" ∷ codes "ab" ∷ codes "x" ∷ [])
    ≡ Some 3 ∷ Some 2 ∷ None ∷ None ∷ []
unfolding meant
an_abbreviation = refl

-- the shortest beginnings, in any case
short_months : map month_of (codes "ja" ∷ codes "F" ∷ codes "mar" ∷ codes "AP" ∷ codes "may" ∷ codes "jun" ∷ codes "jul" ∷ codes "au" ∷ codes "s"
    ∷ codes "o" ∷ codes "n" ∷ codes "D" ∷ codes "september" ∷ [])
    ≡ Ok January ∷ Ok February ∷ Ok March ∷ Ok April ∷ Ok May ∷ Ok June ∷ Ok July ∷ Ok August ∷ Ok September
    ∷ Ok October ∷ Ok November ∷ Ok December ∷ Ok September ∷ []
unfolding month_of month_word meant
short_months = refl

-- those that fit two, and those that fit none
no_months : map month_of (codes "j" ∷ codes "ju" ∷ codes "m" ∷ codes "ma" ∷ codes "a" ∷ codes "" ∷ codes "junes" ∷ codes "x" ∷ [])
    ≡ Err cause.Month ∷ Err cause.Month ∷ Err cause.Month ∷ Err cause.Month ∷ Err cause.Month ∷ Err cause.Month ∷ Err cause.Month ∷ Err cause.Month ∷ []
unfolding month_of month_word meant
no_months = refl

-- as the manual spells them, in capitals too
full_months : map month_of (codes "January" ∷ codes "February" ∷ codes "March" ∷ codes "April" ∷ codes "May" ∷ codes "June"
    ∷ codes "July" ∷ codes "August" ∷ codes "September" ∷ codes "October" ∷ codes "November" ∷ codes "December" ∷ codes "SEPTEMBER" ∷ [])
    ≡ Ok January ∷ Ok February ∷ Ok March ∷ Ok April ∷ Ok May ∷ Ok June ∷ Ok July ∷ Ok August ∷ Ok September
    ∷ Ok October ∷ Ok November ∷ Ok December ∷ Ok September ∷ []
unfolding month_of month_word meant
full_months = refl

full_weekdays : map weekday_of (codes "Sunday" ∷ codes "Monday" ∷ codes "Tuesday" ∷ codes "Wednesday" ∷ codes "Thursday" ∷ codes "Friday" ∷ codes "Saturday" ∷ codes "SUNDAY" ∷ [])
    ≡ Some Sunday ∷ Some Monday ∷ Some Tuesday ∷ Some Wednesday ∷ Some Thursday ∷ Some Friday ∷ Some Saturday ∷ Some Sunday ∷ []
unfolding weekday_of meant
full_weekdays = refl

weekdays : map weekday_of (codes "su" ∷ codes "M" ∷ codes "tu" ∷ codes "w" ∷ codes "th" ∷ codes "f" ∷ codes "sa" ∷ codes "s" ∷ codes "t" ∷ [])
    ≡ Some Sunday ∷ Some Monday ∷ Some Tuesday ∷ Some Wednesday ∷ Some Thursday ∷ Some Friday ∷ Some Saturday ∷ None ∷ None ∷ []
unfolding weekday_of meant
weekdays = refl

last_weekdays : map last_weekday_of (codes "lastSu" ∷ codes "LASTm" ∷ codes "lastTu" ∷ codes "lastWednesday" ∷ codes "lastTh" ∷ codes "lastF"
    ∷ codes "lastSa" ∷ codes "last" ∷ codes "lasS" ∷ codes "lastS" ∷ codes "lastT" ∷ codes "last-Sun" ∷ codes "Sun" ∷ codes "lasuSu" ∷ [])
    ≡ Some Sunday ∷ Some Monday ∷ Some Tuesday ∷ Some Wednesday ∷ Some Thursday ∷ Some Friday ∷ Some Saturday ∷ None ∷ None ∷ None ∷ None ∷ None ∷ None ∷ None ∷ []
unfolding last_weekday_of weekday_of meant
last_weekdays = refl

years : map year_of (codes "mi" ∷ codes "MAX" ∷ codes "maximum" ∷ codes "Minimum" ∷ codes "1916" ∷ codes "-5" ∷ codes "m" ∷ codes "o" ∷ codes "" ∷ [])
    ≡ Ok Minimum ∷ Ok Maximum ∷ Ok Maximum ∷ Ok Minimum ∷ Ok (Number (pos 1916)) ∷ Ok (Number (negsuc 4)) ∷ Err cause.Year ∷ Err cause.Year ∷ Err cause.Year ∷ []
unfolding year_of from_word signed_in numbered_year meant
years = refl

spans : map (years_of (codes "1916")) (codes "o" ∷ codes "1916" ∷ codes "ma" ∷ codes "1915" ∷ codes "mi" ∷ codes "m" ∷ [])
    ≡ Ok (Number (pos 1916), None) ∷ Ok (Number (pos 1916), Some (Number (pos 1916))) ∷ Ok (Number (pos 1916), Some Maximum)
    ∷ Err cause.YearOrder ∷ Err cause.YearOrder ∷ Err cause.Year ∷ []
unfolding years_of to_of year_of from_word signed_in to_word numbered_year meant
spans = refl

-- each year against each: FROM is at most TO, and `only` is not compared
in_all : map (λ from. map (years_of from) (codes "mi" ∷ codes "1990" ∷ codes "1991" ∷ codes "ma" ∷ codes "on" ∷ [])) (codes "mi" ∷ codes "1990" ∷ codes "1991" ∷ codes "ma" ∷ [])
    ≡ (Ok (Minimum, Some Minimum) ∷ Ok (Minimum, Some (Number (pos 1990))) ∷ Ok (Minimum, Some (Number (pos 1991))) ∷ Ok (Minimum, Some Maximum) ∷ Ok (Minimum, None) ∷ [])
    ∷ (Err cause.YearOrder ∷ Ok (Number (pos 1990), Some (Number (pos 1990))) ∷ Ok (Number (pos 1990), Some (Number (pos 1991)))
    ∷ Ok (Number (pos 1990), Some Maximum) ∷ Ok (Number (pos 1990), None) ∷ [])
    ∷ (Err cause.YearOrder ∷ Err cause.YearOrder ∷ Ok (Number (pos 1991), Some (Number (pos 1991))) ∷ Ok (Number (pos 1991), Some Maximum) ∷ Ok (Number (pos 1991), None) ∷ [])
    ∷ (Err cause.YearOrder ∷ Err cause.YearOrder ∷ Err cause.YearOrder ∷ Ok (Maximum, Some Maximum) ∷ Ok (Maximum, None) ∷ []) ∷ []
unfolding years_of to_of year_of from_word signed_in to_word numbered_year meant
in_all = refl

-- years below 0, and words of TO as the manual spells them
other_spans : map (years_of (codes "-2")) (codes "-1" ∷ codes "-3" ∷ codes "only" ∷ codes "maximum" ∷ codes "minimum" ∷ codes "Maxi" ∷ codes "O" ∷ codes "onl" ∷ codes "once" ∷ [])
    ≡ Ok (Number (negsuc 1), Some (Number (negsuc 0))) ∷ Err cause.YearOrder ∷ Ok (Number (negsuc 1), None) ∷ Ok (Number (negsuc 1), Some Maximum)
    ∷ Err cause.YearOrder ∷ Ok (Number (negsuc 1), Some Maximum) ∷ Ok (Number (negsuc 1), None) ∷ Ok (Number (negsuc 1), None) ∷ Err cause.Year ∷ []
unfolding years_of to_of year_of from_word signed_in to_word numbered_year meant
other_spans = refl
