-- Years, kinds and compact entries, at worked rows.
use Rattle.std.{proofs.Common.{◌≡◌, ◌-◌, ℕ, List, [], ◌∷◌, map, ℤ, pos, negsuc, ◌<ℤ◌, ◌≤ℤ◌, refl, sym, arith}, specs.Prelude.{codes}, proofs.lemmas.Int.{ints}}
use Rattle.basics.specs.SignedLaws.{signed}
use Rattle.zone_spans.specs.{declared.span.FixedTimespan.{FixedTimespan}, Years.{most_years, years_limit}}
use Rattle.tz_lookup.{specs.{declared.set.FixedTimespanSet.{FixedTimespanSet}, Compact.{entries_seen}, Kinds.{with_kinds, kinds_of}, Years.{year_second, years_begun, changes_in_year}, YearSeconds.{counted_end, rules_begin, last_year_begin, rules_end}}, proofs.YearLemmas.{day_at, first_second, last_second, years_are, begun_up_to, before_all, after_all}}

-- ---- the seconds at which years begin

pub record Begins : Type 0 where
  pub year_1801 : year_second 1 ≡ negsuc 5333126399
  pub year_1969 : year_second 169 ≡ negsuc 31535999
  pub year_1970 : year_second 170 ≡ pos 0
  pub year_1971 : year_second 171 ≡ pos 31536000
  pub year_2099 : year_second 299 ≡ pos 4070908800
  pub year_2100 : year_second 300 ≡ pos 4102444800
  pub year_2101 : year_second 301 ≡ pos 4133980800
  pub year_2102 : year_second 302 ≡ pos 4165516800
  pub year_2799 : year_second 999 ≡ pos 26160710400

years : Begins
unfolding year_second
years = record {
  year_1801 = omega (arith, signed, day_at 1);
  year_1969 = omega (arith, signed, day_at 169);
  year_1970 = omega (arith, signed, day_at 170);
  year_1971 = omega (arith, signed, day_at 171);
  year_2099 = omega (arith, signed, day_at 299);
  year_2100 = omega (arith, signed, day_at 300);
  year_2101 = omega (arith, signed, day_at 301);
  year_2102 = omega (arith, signed, day_at 302);
  year_2799 = omega (arith, signed, day_at 999);
}

-- the rules' years begin and end with these seconds
begin : rules_begin ≡ year_second 0
begin = sym first_second

last_begin : last_year_begin ≡ year_second (most_years - 1)
last_begin = sym years.year_2099

end : rules_end ≡ year_second most_years
end = sym years.year_2100

counted : counted_end ≡ year_second years_limit
counted = sym last_second

-- ---- years that have begun

begun_before_1800 : years_begun (negsuc 5364662400) ≡ 0
begun_before_1800 = years_are 0 _ (before_all _ (omega (arith, ints)))

begun_in_1800 : years_begun (negsuc 5364662399) ≡ 1
begun_in_1800 =
    years_are 1 _ (begun_up_to 0 _ (omega arith) (omega (arith, ints, first_second)) (λ _. omega (arith, ints, years.year_1801)))

in_1970 : (t : ℤ) → pos 0 ≤ℤ t → t <ℤ pos 31536000 → years_begun t ≡ 171
in_1970 t low high = years_are 171 t (begun_up_to 170 t (omega arith) (omega (arith, ints, years.year_1970, low)) (λ _. omega (arith, ints, years.year_1971, high)))

begun_in_1969 : years_begun (negsuc 0) ≡ 170
begun_in_1969 =
    years_are 170 _ (begun_up_to 169 _ (omega arith) (omega (arith, ints, years.year_1969)) (λ _. omega (arith, ints, years.year_1970)))

begun_in_1970 : years_begun (pos 100) ≡ 171
begun_in_1970 = in_1970 (pos 100) (omega (arith, ints)) (omega (arith, ints))

begun_at_epoch : years_begun (pos 0) ≡ 171
begun_at_epoch = in_1970 (pos 0) (omega (arith, ints)) (omega (arith, ints))

begun_at_end : years_begun (pos 31535999) ≡ 171
begun_at_end = in_1970 (pos 31535999) (omega (arith, ints)) (omega (arith, ints))

begun_in_2099 : years_begun (pos 4102444799) ≡ 300
begun_in_2099 = years_are 300 _ (begun_up_to 299 _ (omega arith) (omega (arith, ints, years.year_2099)) (λ _. omega (arith, ints, years.year_2100)))

begun_in_2100 : years_begun (pos 4102444800) ≡ 301
begun_in_2100 = years_are 301 _ (begun_up_to 300 _ (omega arith) (omega (arith, ints, years.year_2100)) (λ _. omega (arith, ints, years.year_2101)))

begun_in_2101 : years_begun (pos 4133980800) ≡ 302
begun_in_2101 = years_are 302 _ (begun_up_to 301 _ (omega arith) (omega (arith, ints, years.year_2101)) (λ _. omega (arith, ints, years.year_2102)))

begun_in_2799 : years_begun (pos 26192246399) ≡ 1000
begun_in_2799 = years_are 1000 _ (begun_up_to 999 _ (omega arith) (omega (arith, ints, years.year_2799)) (λ _. omega (arith, ints, last_second)))

begun_from_2800 : years_begun (pos 26192246400) ≡ 1001
begun_from_2800 = years_are 1001 _ (after_all _ (omega (arith, ints)))

begun_long_after : years_begun (pos 90000000000) ≡ 1001
begun_long_after = years_are 1001 _ (after_all _ (omega (arith, ints)))

-- ---- the changes of a year: one in 1969, two in 1970, one in 2100 and one in 2800

abbrev kind : ℤ → List ℕ → FixedTimespan
kind offset name = record { utc_offset = offset; dst_offset = pos 0; name = name }

abbrev five : FixedTimespanSet
five = record {
  name = codes "Test/Five";
  first = kind (pos 0) (codes "A");
  others =
      (negsuc 0, kind (pos 60) (codes "A")) ∷ (pos 0, kind (pos 60) (codes "B")) ∷ (pos 31535999, kind (pos 0) (codes "A"))
      ∷ (pos 4102444800, kind (pos 60) (codes "B")) ∷ (pos 26192246400, kind (pos 0) (codes "A")) ∷ [];
}

-- two in 1970, one in 1969, none in 2099, one in 2100, none in 2101; all years from 2800 on are one
changes_of_years : map (changes_in_year five) (pos 100 ∷ negsuc 0 ∷ pos 4102444799 ∷ pos 4102444800 ∷ pos 4133980800 ∷ pos 90000000000 ∷ [])
    ≡ 2 ∷ 1 ∷ 0 ∷ 1 ∷ 0 ∷ 1 ∷ []
unfolding changes_in_year
changes_of_years =
    rw (
      begun_in_1969,
      begun_at_epoch,
      begun_at_end,
      begun_in_1970,
      begun_in_2099,
      begun_in_2100,
      begun_in_2101,
      begun_from_2800,
      begun_long_after,
    ) refl

-- ---- kinds: offsets and names, each once, in the order in which they come

kinds_of_five : kinds_of five ≡ kind (pos 0) (codes "A") ∷ kind (pos 60) (codes "A") ∷ kind (pos 60) (codes "B") ∷ []
unfolding with_kinds
kinds_of_five = refl

-- ---- times beside the numbers of kinds

entries_of_numbers : entries_seen (kind (pos 0) (codes "A") ∷ kind (pos 60) (codes "B") ∷ []) (pos 7 ∷ pos 9 ∷ []) (1 ∷ 0 ∷ [])
    ≡ (pos 7, kind (pos 60) (codes "B")) ∷ (pos 9, kind (pos 0) (codes "A")) ∷ []
unfolding entries_seen
entries_of_numbers = refl
