-- What answers requests for instants of one local day at one offset.
use Rattle.std.proofs.{Common.{◌≡◌, ◌≢◌, ℕ, Bool, ◌+◌, ◌-◌, ◌^◌, ◌/◌, ◌<◌, ◌≤◌, true, false, cond, max, min, ◌↔◌, IsTrue, List, ◌++◌, get_or, length, take, Some, None, Ok, ℤ, pos, ◌+ℤ◌, ◌≤ℤ◌, ◌<ℤ◌, refl, sym, ap, ◌∙◌, subst, arith}, lemmas.Bool.{and_from, and_parts, eq-eqb, eqb-true, le-leb, leb-true, le-ltb, lt-leb, lt-ltb, ltb-true, ne_eqb}, Math.Bool.{and-false}, lemmas.Int.{ints}, lemmas.List.{append-nil, get_or-take, length-drop, take-append-drop}, lemmas.Int.Digits.{digits_value-lt}, lemmas.Str.{IsCharBoundary-from_drop, IsUtf8-append, IsUtf8-from_ascii, IsUtf8-from_is_utf8, IsUtf8-take, is_utf8-from_IsUtf8}, lemmas.Fmt.{IsAscii-from_digits}}
use Rattle.std.specs.{Prelude.{◌&&◌, ◌==◌, bytes_eq, nat_le, nat_lt}, Cmp.Lexicographic.{bytes_decides}, Str.{IsUtf8, is_utf8}, Str.Parse.{digits_value}}
use Rattle.basics.specs.SignedLaws.{signed}
use Rattle.civil_base.specs.{Clock.{nanos_per_day}, Instants.{local_at, nanos_of, seconds_of}, Layout.{day_part, time_part, zoned_text}, PartLaws.{parts-joined, time_part-inside}, RangeLaws.{offset_least, offset_greatest, years_between}, Ranges.{IsOffset}}
use Rattle.zone_spans.specs.Schedules.{Schedule, total_at}
use Rattle.tz_lookup.specs.{SecondLaws.{IsSecond, one_second, second_is, total_is}, Spans.{total_from}, Stretches.{IsKnown}, declared.stretch.Stretch.{Stretch}}
use Rattle.zone_answers.specs.{AskedLaws.{Asks}, Due.{answer_text, shown_at}, Faults.{has_dates, range}, Found.{Found}, Requests.{at, request_of}, SameDayLaws.{in_seconds}, SameDays.{AreLast, IsAdded, IsAnswered, IsAround, IsBefore, IsOfDay, IsOnDay, IsSameDay, IsThroughout, are_alike, at_time, ends_in_digits, front_of, is_of, last_instant, last_of, with_last}, declared.same_day.SameDay.{SameDay}}
use Rattle.zone_answers.proofs.{DayLemmas.{IsSameDate, other_time, same_date}, LastLemmas.{EndsInDigits, IsOther, all_digits, late_digits, other_request}, ReadBackLemmas.{line_back}, RequestLemmas.{digits_from}, RefusalLemmas.{dates_are, line_is}}

-- a request for an instant of a zone that was found, its line, and what is in force there
pub record IsAsked (names : List ℕ → Found) (total : ℤ → ℤ) (front end name : List ℕ) (n : ℤ) (shown : List ℕ) : Type 0 where
  pub asks : Asks request_of (front ++ end) (at name n)
  pub text : IsUtf8 front
  pub last : AreLast end
  pub found : names name ≡ Ok total
  pub small : (t : ℤ) → IsOffset (total t)
  pub late : pos (10 ^ 14) ≤ℤ n
  pub early : n ≤ℤ pos last_instant
  pub line : shown ≡ zoned_text n (total n)
  pub long : length shown ≡ 39

ascii : (ds : List ℕ) → all_digits ds ≡ true → IsUtf8 ds
ascii ds is = IsUtf8-from_ascii ds (IsAscii-from_digits ds (digits_from ds is))

answered : (names : List ℕ → Found) (total : ℤ → ℤ) (latest : ℕ) (front last name : List ℕ) (n : ℤ) (line : List ℕ) (next : List ℕ) (m : ℤ) (nanos : ℕ)
    → IsAsked names total front last name n line → AreLast next → request_of (front ++ next) ≡ Some (at name m) → total m ≡ total n
    → n ≤ℤ (m +ℤ pos 100000000000000) → m ≤ℤ (n +ℤ pos 100000000000000) → m <ℤ pos latest
    → IsSameDate (local_at n (total n)) (local_at m (total n)) nanos → IsAnswered names latest (front ++ next) (at_time line nanos)
unfolding has_dates shown_at
answered names total latest front last name n line next m nanos it digits reads same low high early date = record {
  early = subst (IsBefore latest) (sym reads) early;
  accepted = λ k. dates_are names k (front ++ next) (at name m) total asks it.found ∙ ap (λ b. cond b None (Some (range k))) dates;
  line = line_is names (front ++ next) (at name m) total asks it.found ∙ append-nil (zoned_text m (total m))
      ∙ ap (zoned_text m) same ∙ other_time line n m (total n) nanos it.line it.long date;
  back = line_back names (front ++ next) (at name m) total asks it.found it.small dates;
}
  where
    asks : Asks request_of (front ++ next) (at name m)
    asks = record { text = is_utf8-from_IsUtf8 _ (IsUtf8-append front next it.text (ascii next digits.digits)); reads = reads }

    dates : has_dates total (at name m) ≡ true
    dates =
        and_from _ _ (years_between m (omega (arith, signed, it.late, low)) (omega (arith, signed, it.early, high)))
        (years_between (local_at m (total m)) (omega (arith, signed, it.late, low, offset_least (total m) (it.small m)))
        (omega (arith, signed, it.early, high, offset_greatest (total m) (it.small m))))

-- The requests of a day around one of them: from the later of two instants on, up to the earliest of three.
pub same_day : (names : List ℕ → Found) (total : ℤ → ℤ) (latest : ℕ) (front last name : List ℕ) (now number : ℕ) (line : List ℕ) (stretch : Stretch)
    (from until begins base first past : ℕ) → IsAsked names total front last name (pos now) line → number ≡ digits_value 10 last
    → base + number ≡ now → IsThroughout total stretch → IsAround stretch now from until begins → from ≤ first → base ≤ first → now < past
    → past ≤ until → past ≤ base + 100000000000000 → past ≤ latest
    → IsSameDay names latest front (record { from = first - base; until = past - base; begins = begins + (first - from); line = line })
same_day names total latest front last name now number line stretch from until begins base first past it value based throughout around later after lasts sooner near soon =
    record {
      ends = omega (arith, around.day, around.begun, around.lasts, later, after, sooner, lasts, based);
      each = each;
    }
  where
    here : total (pos now) ≡ stretch.offset
    here = throughout (pos now) (omega (arith, signed, around.first, around.begun)) (omega (arith, signed, around.past, around.lasts))

    begun : begins + now ≡ time_part (local_at (pos now) (total (pos now))) + from
    begun = around.begins ∙ ap (λ o. time_part (local_at (pos now) o) + from) (sym here)

    each : (next : List ℕ) → AreLast next → first - base ≤ digits_value 10 next → digits_value 10 next < past - base
        → IsAnswered names latest (front ++ next) (at_time line (begins + (first - from) + (digits_value 10 next - (first - base))))
    each next digits low high =
        let v = digits_value 10 next in
        let other : IsOther front last next name (pos now) = other_request front last next name (pos now) it.asks.reads it.late it.last.count digits.count digits.digits in
        let m : ℤ = other.number in
        let is : m ≡ pos (base + v) = omega (arith, signed, other.sum, value, based) in
        let there : total m ≡ stretch.offset =
        throughout m (omega (arith, signed, is, around.first, later, after, low)) (omega (arith, signed, is, around.past, sooner, high)) in
        answered names total latest front last name (pos now) line next m _ it digits other.reads (there ∙ sym here)
        (omega (arith, signed, is, near, lasts)) (omega (arith, signed, is, near, high, based)) (omega (arith, signed, is, soon, high))
        (same_date (local_at (pos now) (total (pos now))) (local_at m (total (pos now))) _
        (omega (arith, signed, is, begun, later, after, low)) (omega (arith, around.day, sooner, high, low, later, after)))

at_second : (s : ℤ) → IsSecond (nanos_of s) s
at_second s = record { low = omega (arith, signed); high = omega (arith, signed) }

-- the total of a stretch's seconds is that of all instants in them
pub throughout : (zone : Schedule) (stretch : Stretch) → IsKnown (total_at zone) stretch → IsThroughout (total_at zone) stretch
throughout zone stretch = in_seconds (total_at zone) stretch (λ t.
    let second = seconds_of t in
    total_is zone t ∙ ap (total_from zone.first zone.shifts) (one_second (nanos_of second) second (seconds_of (nanos_of second)) (at_second second) (second_is (nanos_of second)))
    ∙ sym (total_is zone (nanos_of second)))

pub second_at : (n : ℕ) → pos (n / 1000000000) ≡ seconds_of (pos n)
unfolding seconds_of
second_at n = refl

-- an instant of the local day of another comes from its midnight on, up to the next
pub on_day : (t o : ℤ) (now : ℕ) → day_part (local_at t o) ≡ day_part (local_at (pos now) o)
    → (pos now ≤ℤ (t +ℤ pos (time_part (local_at (pos now) o)))) × ((t +ℤ pos (time_part (local_at (pos now) o))) <ℤ (pos now +ℤ pos nanos_per_day))
on_day t o now same = (
  omega (arith, signed, parts-joined x, parts-joined y, time_part-inside x, time_part-inside y, same),
  omega (arith, signed, parts-joined x, parts-joined y, time_part-inside x, time_part-inside y, same),
)
  where
    x : ℤ
    x = local_at (pos now) o

    y : ℤ
    y = local_at t o

-- and what stands in front of them is text
front_text : (text : List ℕ) → is_utf8 text ≡ true → EndsInDigits text → IsUtf8 (front_of text)
front_text text is ends =
    IsUtf8-take text (length text - 14) (IsUtf8-from_is_utf8 text is)
    (IsCharBoundary-from_drop text (length text - 14) (omega arith) (ascii (last_of text) ends.last.digits))

-- when a line is one of a day, and when not
module _ (day : SameDay) (before line : List ℕ) where
  abbrev pub number : ℕ
  number = digits_value 10 (last_of line)

  pub not_alike : are_alike before line ≡ false → is_of day before line ≡ false
  unfolding is_of
  not_alike e = ap (λ b. b && all_digits (last_of line) && nat_le day.from number && nat_lt number day.until) e

  pub no_digits : all_digits (last_of line) ≡ false → is_of day before line ≡ false
  unfolding is_of
  no_digits e =
      ap (λ b. are_alike before line && b && nat_le day.from number && nat_lt number day.until) e
      ∙ ap (λ b. b && nat_le day.from number && nat_lt number day.until) (and-false (are_alike before line))

  pub number_before : number < day.from → is_of day before line ≡ false
  unfolding is_of
  number_before l =
      ap (λ b. are_alike before line && all_digits (last_of line) && b && nat_lt number day.until) (lt-leb _ _ l)
      ∙ ap (λ b. b && nat_lt number day.until) (and-false (are_alike before line && all_digits (last_of line)))

  pub number_past : day.until ≤ number → is_of day before line ≡ false
  unfolding is_of
  number_past l =
      ap (λ b. are_alike before line && all_digits (last_of line) && nat_le day.from number && b) (le-ltb _ _ l)
      ∙ and-false (are_alike before line && all_digits (last_of line) && nat_le day.from number)

  pub one_of : are_alike before line ≡ true → all_digits (last_of line) ≡ true → day.from ≤ number → number < day.until → is_of day before line ≡ true
  unfolding is_of
  one_of alike digits low high = and_from _ _ (and_from _ _ (and_from _ _ alike digits) (le-leb _ _ low)) (lt-ltb _ _ high)

-- what a line of a day is
pub record IsOneOf (day : SameDay) (before line : List ℕ) : Type 0 where
  pub alike : are_alike before line ≡ true
  pub digits : all_digits (last_of line) ≡ true
  pub low : day.from ≤ digits_value 10 (last_of line)
  pub high : digits_value 10 (last_of line) < day.until

pub parts_of : (day : SameDay) (before line : List ℕ) → is_of day before line ≡ true → IsOneOf day before line
unfolding is_of
parts_of day before line one = record { alike = two.0; digits = two.1; low = leb-true _ _ three.1; high = ltb-true _ _ four.1 }
  where
    number : ℕ
    number = digits_value 10 (last_of line)

    four : ((are_alike before line && all_digits (last_of line) && nat_le day.from number) ≡ true) × (nat_lt number day.until ≡ true)
    four = and_parts (are_alike before line && all_digits (last_of line) && nat_le day.from number) (nat_lt number day.until) one

    three : ((are_alike before line && all_digits (last_of line)) ≡ true) × (nat_le day.from number ≡ true)
    three = and_parts (are_alike before line && all_digits (last_of line)) (nat_le day.from number) four.0

    two : (are_alike before line ≡ true) × (all_digits (last_of line) ≡ true)
    two = and_parts (are_alike before line) (all_digits (last_of line)) three.0

-- when two lines are alike, and when not
pub other_length : (one other : List ℕ) → length one ≢ length other → are_alike one other ≡ false
unfolding are_alike
other_length one other differ = ap (λ b. b && nat_lt 14 (length one) && bytes_eq (front_of one) (front_of other)) (ne_eqb _ _ differ)

pub too_short : (one other : List ℕ) → length one ≤ 14 → are_alike one other ≡ false
unfolding are_alike
too_short one other short =
    ap (λ b. length one == length other && b && bytes_eq (front_of one) (front_of other)) (le-ltb _ _ short)
    ∙ ap (λ b. b && bytes_eq (front_of one) (front_of other)) (and-false (length one == length other))

module _ (one other : List ℕ) (same : length one ≡ length other) (long : 14 < length one) where
  abbrev pub end : ℕ
  end = length one - 14

  pub alike_is : are_alike one other ≡ bytes_eq (take end one) (take end other)
  unfolding are_alike
  alike_is =
      ap (λ b. b && nat_lt 14 (length one) && bytes_eq (front_of one) (front_of other)) (eq-eqb _ _ same)
      ∙ ap (λ b. b && bytes_eq (front_of one) (front_of other)) (lt-ltb _ _ long) ∙ ap (λ n. bytes_eq (front_of one) (take (n - 14) other)) (sym same)

  pub other_end : get_or one (end - 1) 0 ≢ get_or other (end - 1) 0 → are_alike one other ≡ false
  other_end differ = alike_is ∙ by_test (bytes_eq (take end one) (take end other)) refl
    where
      by_test : (b : Bool) → bytes_eq (take end one) (take end other) ≡ b → b ≡ false
      by_test false e = refl
      by_test true e = absurd (differ (sym (get_or-take end one (end - 1) 0 (omega (arith, long)))
          ∙ ap (λ t. get_or t (end - 1) 0) ((bytes_decides (take end one) (take end other)).0 e) ∙ get_or-take end other (end - 1) 0 (omega (arith, long))))

pub alike_long : (one other : List ℕ) → are_alike one other ≡ true → 14 < length other
unfolding are_alike
alike_long one other alike = omega (arith, eqb-true _ _ two.0, ltb-true _ _ two.1)
  where
    two : ((length one == length other) ≡ true) × (nat_lt 14 (length one) ≡ true)
    two = and_parts (length one == length other) (nat_lt 14 (length one))
        (and_parts (length one == length other && nat_lt 14 (length one)) (bytes_eq (front_of one) (front_of other)) alike).0

-- a line is alike itself
pub self_alike : (line : List ℕ) → 14 < length line → are_alike line line ≡ true
self_alike line long = alike_is line line refl long ∙ (bytes_decides (front_of line) (front_of line)).1 refl

-- what is known of a request for an instant, its line and its zone
pub asked_is : (names : List ℕ → Found) (total : ℤ → ℤ) (text name shown line : List ℕ) (now : ℕ) → Asks request_of text (at name (pos now))
    → EndsInDigits text → names name ≡ Ok total → ((t : ℤ) → IsOffset (total t)) → 10 ^ 14 ≤ now → now ≤ last_instant
    → shown ≡ answer_text (shown_at total (at name (pos now))) → line ≡ shown → length shown ≡ 39
    → IsAsked names total (front_of text) (last_of text) name (pos now) line
unfolding shown_at
asked_is names total text name shown line now asks ends found small late early told same long = record {
  asks = subst (λ t. Asks request_of t (at name (pos now))) (sym (take-append-drop (length text - 14) text)) asks;
  text = front_text text asks.text ends;
  last = ends.last;
  found = found;
  small = small;
  late = omega (arith, ints, late);
  early = omega (arith, ints, early);
  line = same ∙ told ∙ append-nil (zoned_text (pos now) (total (pos now)));
  long = ap length same ∙ long;
}

-- a line that answers a request, behind a text
pub added : (names : List ℕ → Found) (latest : ℕ) (request line old new : List ℕ) → IsAnswered names latest request line → new ≡ old ++ line
    → IsAdded names latest request old new
added names latest request line old new is grown = (
  record { accepted = is.accepted; line = refl; back = is.back; early = is.early },
  grown ∙ ap (λ t. old ++ t) (sym is.line),
)

-- a line ends in digits by its length and its last bytes
pub ends_by : (line : List ℕ) → 14 < length line → all_digits (last_of line) ≡ true → ends_in_digits line ≡ true
unfolding ends_in_digits
ends_by line long digits = and_from _ _ (lt-ltb _ _ long) digits

-- and so does each that asks for a late instant
pub late_ends : (text name : List ℕ) (now : ℕ) → Asks request_of text (at name (pos now)) → 10 ^ 14 ≤ now → ends_in_digits text ≡ true
late_ends text name now asks late =
    let ends = late_digits text name (pos now) asks.reads (omega (arith, ints, late)) in
    ends_by text ends.long ends.last.digits

pub ends_are : (line : List ℕ) → ends_in_digits line ≡ true → EndsInDigits line
unfolding ends_in_digits
ends_are line is = record {
  long = long;
  last = record { count = omega (arith, long, length-drop (length line - 14) line); digits = both.1 };
}
  where
    both : (nat_lt 14 (length line) ≡ true) × (all_digits (last_of line) ≡ true)
    both = and_parts (nat_lt 14 (length line)) (all_digits (last_of line)) is

    long : 14 < length line
    long = ltb-true _ _ both.0

-- which lines are of the day whose numbers are those of instants from the later of two on, up to the earliest of three
module _ (begins ends total : ℤ → ℤ) (latest now number base : ℕ) (text : List ℕ) (stretch : Stretch) (from until begin first past : ℕ) (day : SameDay)
    (throughout : IsThroughout total stretch) (starts : stretch.from ≡ begins (seconds_of (pos now))) (stops : stretch.until ≡ ends (seconds_of (pos now)))
    (around : IsAround stretch now from until begin) (value : number ≡ digits_value 10 (last_of text)) (based : base + number ≡ now)
    (later : first ≡ max from base) (sooner : past ≡ min (min until (base + 100000000000000)) latest) (least : day.from ≡ first - base) (most : day.until ≡ past - base)
    (line : List ℕ) where
  abbrev v : ℕ
  v = digits_value 10 (last_of line)

  abbrev t : ℤ
  t = with_last (pos now) text line

  here : total (pos now) ≡ stretch.offset
  here = throughout (pos now) (omega (arith, signed, around.first, around.begun)) (omega (arith, signed, around.past, around.lasts))

  is : t ≡ pos (base + v)
  is = omega (arith, signed, value, based)

  there : from ≤ base + v → base + v < until → base + v < latest → IsOnDay begins ends total latest (pos now) t
  there low high early = record {
    begun = subst (λ s. nanos_of s ≤ℤ t) starts (omega (arith, signed, is, around.first, low));
    lasts = subst (λ s. t <ℤ nanos_of s) stops (omega (arith, signed, is, around.past, high));
    day = (same_date (local_at (pos now) (total (pos now))) (local_at t (total (pos now))) (begin + (base + v - from))
        (omega (arith, signed, is, low, around.begun, around.begins ∙ ap (λ o. time_part (local_at (pos now) o) + from) (sym here)))
        (omega (arith, around.day, low, high))).day;
    early = omega (arith, signed, is, early);
  }

  of_day : is_of day text line ≡ true → IsOfDay begins ends total latest (pos now) text line
  unfolding is_of
  of_day one = record {
    alike = all.alike;
    digits = ends_by line (alike_long text line all.alike) all.digits;
    there = there (omega (arith, later, least, all.low)) (omega (arith, sooner, most, all.high)) (omega (arith, sooner, most, all.high));
  }
    where
      all : IsOneOf day text line
      all = parts_of day text line one

  one_by : IsOfDay begins ends total latest (pos now) text line → is_of day text line ≡ true
  one_by all = one_of day text line all.alike end.last.digits
      (omega (arith, later, least, low)) (omega (arith, sooner, most, high, few, early))
    where
      end : EndsInDigits line
      end = ends_are line all.digits

      both : (pos from ≤ℤ t) × (t <ℤ pos until)
      both = around.only t (subst (λ s. nanos_of s ≤ℤ t) (sym starts) all.there.begun) (subst (λ s. t <ℤ nanos_of s) (sym stops) all.there.lasts)
          (subst (λ o. day_part (local_at t o) ≡ day_part (local_at (pos now) o)) here all.there.day)

      low : from ≤ base + v
      low = omega (arith, signed, is, both.0)

      high : base + v < until
      high = omega (arith, signed, is, both.1)

      few : v < 10 ^ 14
      few = subst (λ n. v < 10 ^ n) end.last.count (digits_value-lt 10 (last_of line) (digits_from (last_of line) end.last.digits))

      early : base + v < latest
      early = omega (arith, signed, is, all.there.early)

  pub whole : IsTrue (is_of day text line) ↔ IsOfDay begins ends total latest (pos now) text line
  whole = (of_day, one_by)
