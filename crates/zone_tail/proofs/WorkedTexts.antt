-- Worked rows: the weeks that name a day, what may be written, and the texts of candidates.
use Rattle.std.{proofs.Common.{◌≡◌, ℕ, List, [], ◌∷◌, map, true, false, Some, None, refl, arith, ℤ, pos, neg_ℤ}, proofs.lemmas.Int.{ints}, specs.Prelude.{codes}, specs.Fmt.{digits}}
use Rattle.zone_spans.specs.declared.span.FixedTimespan.{FixedTimespan}
use Rattle.zone_tail.specs.{Carried.{IsFrom}, Changes.{weeks}, LastYear.{steady, yearly, other}, Tails.{beginning, can_be_written, is_name, is_posix_name, names_of, rules_with}, Texts.{change_text, name_text, offset_text, rule_text, saving_text, text_of, time_text}}
use Rattle.zone_tail.specs.declared.{candidate.Candidate.TheVariants.{Fixed, Ruled}, rule.Change.{Change}, rule.YearlyRule.{YearlyRule}}

-- of months of 31 and 28 days: a day with no such weekday after it is the fifth, and the fourth too up to the 28th
weeks_of_days : map (weeks 31) (1 ∷ 7 ∷ 8 ∷ 21 ∷ 22 ∷ 24 ∷ 25 ∷ 28 ∷ 29 ∷ 31 ∷ [])
    ≡ (1 ∷ []) ∷ (1 ∷ []) ∷ (2 ∷ []) ∷ (3 ∷ []) ∷ (4 ∷ []) ∷ (4 ∷ []) ∷ (5 ∷ 4 ∷ []) ∷ (5 ∷ 4 ∷ []) ∷ (5 ∷ []) ∷ (5 ∷ []) ∷ []
weeks_of_days = refl

weeks_of_february : map (weeks 28) (21 ∷ 22 ∷ 28 ∷ []) ≡ (3 ∷ []) ∷ (5 ∷ 4 ∷ []) ∷ (5 ∷ 4 ∷ []) ∷ []
weeks_of_february = refl

-- 24:59:59 can be written east and west, a second more can't
written : map can_be_written (pos 89999 ∷ pos 90000 ∷ neg_ℤ (pos 89999) ∷ neg_ℤ (pos 90000) ∷ []) ≡ true ∷ false ∷ true ∷ false ∷ []
written = refl

-- a name is not empty, and has no bracket, line feed or zero byte
names : map is_name (codes "EST" ∷ [] ∷ codes "+03" ∷ codes "A<B" ∷ codes "A>B" ∷ (65 ∷ 10 ∷ []) ∷ (0 ∷ []) ∷ (195 ∷ 132 ∷ []) ∷ [])
    ≡ true ∷ false ∷ true ∷ false ∷ false ∷ false ∷ false ∷ true ∷ []
names = refl

-- of POSIX two letters, an underscore, letters past ASCII (in UTF-8) and a space are none
no_posix_names : map is_posix_name (codes "CD" ∷ codes "A_B" ∷ (195 ∷ 132 ∷ 195 ∷ 132 ∷ []) ∷ codes "A B" ∷ []) ≡ false ∷ false ∷ false ∷ false ∷ []
no_posix_names = refl

-- letters of either size, digits, and signs are names of POSIX
posix_names : map is_posix_name (codes "EST" ∷ codes "abz" ∷ codes "-03" ∷ codes "+0530" ∷ codes "A09" ∷ []) ≡ true ∷ true ∷ true ∷ true ∷ true ∷ []
posix_names = refl

-- 3 to 16 letters stand alone
in_brackets : map name_text (codes "AB" ∷ codes "ABC" ∷ codes "ABCDEFGHIJKLMNOP" ∷ codes "ABCDEFGHIJKLMNOPQ" ∷ codes "+03" ∷ codes "A1C" ∷ [])
    ≡ codes "<AB>" ∷ codes "ABC" ∷ codes "ABCDEFGHIJKLMNOP" ∷ codes "<ABCDEFGHIJKLMNOPQ>" ∷ codes "<+03>" ∷ codes "<A1C>" ∷ []
unfolding name_text
in_brackets = refl

-- east of UTC is negative; minutes and seconds stand as far as they are needed
offsets : map offset_text (pos 0 ∷ pos 3600 ∷ neg_ℤ (pos 18000) ∷ pos 37800 ∷ neg_ℤ (pos 60) ∷ pos 5 ∷ pos 89999 ∷ neg_ℤ (pos 3605) ∷ [])
    ≡ codes "0" ∷ codes "-1" ∷ codes "5" ∷ codes "-10:30" ∷ codes "0:01" ∷ codes "-0:00:05" ∷ codes "-24:59:59" ∷ codes "1:00:05" ∷ []
unfolding offset_text time_text digits
offsets = refl

abbrev change : ℕ → ℕ → ℕ → ℕ → Change
change month week weekday second = record { month = month; week = week; weekday = weekday; second = second }

abbrev rule : ℤ → ℤ → Change → Change → YearlyRule
rule standard saving start end = record { standard = standard; saving = saving; start = start; end = end }

-- New York, Madrid, Lord Howe Island and a zone of standard time: 2:00 and an hour ahead are left out
texts : text_of (codes "EST") (codes "EDT") (Ruled (rule (neg_ℤ (pos 18000)) (neg_ℤ (pos 14400)) (change 3 2 0 7200) (change 11 1 0 7200)))
    ∷ text_of (codes "CET") (codes "CEST") (Ruled (rule (pos 3600) (pos 7200) (change 3 5 0 7200) (change 10 5 0 10800)))
    ∷ text_of (codes "+1030") (codes "+11") (Ruled (rule (pos 37800) (pos 39600) (change 10 1 0 7200) (change 4 1 0 7200)))
    ∷ text_of (codes "TST") [] (Fixed (pos 5400)) ∷ []
    ≡ codes "EST5EDT,M3.2.0,M11.1.0" ∷ codes "CET-1CEST,M3.5.0,M10.5.0/3" ∷ codes "<+1030>-10:30<+11>-11,M10.1.0,M4.1.0" ∷ codes "TST-1:30" ∷ []
unfolding text_of name_text offset_text time_text saving_text rule_text change_text digits
texts = refl

-- the name of standard time and that of daylight saving time, which starts with the first entry and ends with the second
abbrev called : ℤ → List ℕ → FixedTimespan
called saving name = record { utc_offset = pos 3600; dst_offset = saving; name = name }

names_of_years : map names_of (steady (called (pos 0) (codes "CET"))
    ∷ yearly (pos 1, called (pos 3600) (codes "CEST")) (pos 2, called (pos 0) (codes "CET")) ∷ other ∷ [])
    ≡ (codes "CET", []) ∷ (codes "CET", codes "CEST") ∷ ([], []) ∷ []
names_of_years = refl

-- each start with each end, by the start first
in_pairs : rules_with (pos 0) (pos 3600) (change 3 5 0 0 ∷ change 3 4 0 0 ∷ []) (change 10 5 0 0 ∷ change 10 4 0 0 ∷ [])
    ≡ Ruled (rule (pos 0) (pos 3600) (change 3 5 0 0) (change 10 5 0 0)) ∷ Ruled (rule (pos 0) (pos 3600) (change 3 5 0 0) (change 10 4 0 0))
    ∷ Ruled (rule (pos 0) (pos 3600) (change 3 4 0 0) (change 10 5 0 0)) ∷ Ruled (rule (pos 0) (pos 3600) (change 3 4 0 0) (change 10 4 0 0)) ∷ []
in_pairs = refl

-- the first span has no beginning, and each other begins with its change
beginnings : map (beginning ((pos 5, pos 0) ∷ (pos 9, pos 1) ∷ [])) (0 ∷ 1 ∷ 2 ∷ []) ≡ None ∷ Some (pos 5) ∷ Some (pos 9) ∷ []
beginnings = refl

-- a string holds from its second on, that second too, or always
holds_from : IsFrom (Some (pos 5)) (pos 5) × IsFrom None (neg_ℤ (pos 9))
holds_from = (omega (arith, ints), tt)

holds_no_earlier : IsFrom (Some (pos 5)) (pos 4) → ⊥
holds_no_earlier from = absurd (omega (arith, ints, from))
