-- Firings that no end cuts are those of a line up to its end, and summaries stand for them.
use Rattle.std.proofs.Common.{◌≡◌, ℕ, zero, suc, ◌+◌, ◌<◌, ◌≤◌, ◌≤ℤ◌, inl, inr, Bool, true, false, ◌&&◌, cond, if◌then◌else◌, List, [], ◌∷◌, ◌++◌, length, take, filter, Option, Some, None, Result, Ok, Err, ℤ, pos, int_le, int_lt, get_or, IsTrue, refl, sym, ap, ◌∙◌, subst, arith}
use Rattle.std.proofs.{Math.Nat.{eq-or-lt_of_le}, Math.Seq.{get_or-append_seam}, lemmas.Int.{ints}, lemmas.List.{get_or-take, get_or_append_left, length-append, length-take-le, take_more}, lemmas.List.Folds.{list_all-append, list_all_more}}
use Rattle.std.proofs.lemmas.List.Sums.{AllPass-from_list_all, list_all-from_AllPass}
use Rattle.std.specs.{List.{AllByRecursion, last_or, list_all}, Option.{option_to_list}, Result.{OnOk}}
use Rattle.zone_table.specs.{LineBounds.{are_small_seconds}, Ends.{time_type, wall}, declared.change.ChangeTime.{ChangeTime}, declared.time.TimeType.{TimeType}, declared.time.TimeType.TheVariants.{Wall, Standard, UTC}, Bounds.{is_bounded_rule}, Moments.{applies_to_year, instant_of, moment}, declared.rule.RuleInfo.{RuleInfo}}
use Rattle.zone_spans.specs.{Bounds.{IsSound, is_bounded_firing}, Fires.{AreSmall, StandFor}, Firings.{Fired, Firing, earliest, fired, firings_of_years, is_earlier, is_over, year_firings}}
use Rattle.zone_spans.specs.{Kept.{AreBelow, AreSummaries, IsLastSummary, IsLimit, IsSummary, summed, unended}, Lines.{Line}, Quiet.{AppliesToNone}, Stands.{StandsFor}, Windows.{line_end}, declared.firing.Firings.{Firings}, declared.kept.Summary.{Summary}}
use Rattle.zone_spans.specs.Years.{earliest_year, years_limit}
use Rattle.zone_spans.proofs.{BoundLemmas.{both, first, second}, ListingLemmas.{last_stands, stands_same}, Picks.{all_filter}, QuietLemmas.{quiet_years}, SoundLemmas.{bounded_rules}, YearLemmas.{next_year}}

-- the saving of a rule is small
abbrev pub HasSmallSaving : RuleInfo → Type 0
HasSmallSaving r = IsTrue (are_small_seconds r.time_to_add)

pub small_savings : (rules : List RuleInfo) → IsTrue (list_all is_bounded_rule rules) → AllByRecursion HasSmallSaving rules
small_savings [] h = tt
small_savings (r ∷ rs) h =
    (second (_ && are_small_seconds r.time) _ (first (is_bounded_rule r) _ h), small_savings rs (second (is_bounded_rule r) _ h))

pub sound_savings : {years : ℕ} (line : Line) → IsSound years line → AllByRecursion HasSmallSaving line.rules
sound_savings line sound = small_savings line.rules (bounded_rules line sound.bounded)

-- what holds of all holds of the earliest and of the others
earliest_all : (P : RuleInfo → Type 0) (year offset saving : ℤ) (r : RuleInfo) (rs : List RuleInfo) → P r → AllByRecursion P rs
    → P (earliest year offset saving r rs).0 × AllByRecursion P (earliest year offset saving r rs).1
unfolding earliest
earliest_all P year offset saving r [] p h = (p, tt)
earliest_all P year offset saving r (q ∷ qs) p h =
    let later = earliest year offset saving q qs in
    let more = earliest_all P year offset saving q qs h.0 h.1 in
    elim (is_earlier year offset saving later.0 r) as (λ b.
    P (cond {A = RuleInfo × List RuleInfo} b (later.0, r ∷ later.1) (r, q ∷ qs)).0
    × AllByRecursion P (cond {A = RuleInfo × List RuleInfo} b (later.0, r ∷ later.1) (r, q ∷ qs)).1) [
      | true ↦ (more.0, (p, more.1))
      | false ↦ (p, h)
    ]

-- what an end that the limit is before does not cut
fired_below : (n : ℕ) (year offset : ℤ) (end : Option ChangeTime) (limit saving : ℤ) (rules : List RuleInfo) → IsLimit end offset limit
    → IsTrue (are_small_seconds saving) → AllByRecursion HasSmallSaving rules
    → IsTrue (list_all (λ f. int_lt f.time limit) (fired n year offset None saving rules).0)
    → fired n year offset end saving rules ≡ fired n year offset None saving rules
unfolding fired
fired_below zero year offset end limit saving rules ends small all below = refl
fired_below (suc n) year offset end limit saving [] ends small all below = refl
fired_below (suc n) year offset end limit saving (r ∷ rs) ends small all below =
    let next = earliest year offset saving r rs in
    let time = moment next.0 year offset saving in
    let least = earliest_all HasSmallSaving year offset saving r rs all.0 all.1 in
    let here : is_over end offset saving time ≡ false = ends saving time small (first (int_lt time limit) _ below) in
    let later = fired_below n year offset end limit next.0.time_to_add next.1 ends least.0 least.1 (second (int_lt time limit) _ below) in
    let cut = fired n year offset end next.0.time_to_add next.1 in
    let f : Firing = record { time = time; rule = next.0 } in
    ap (λ b. if b then ([], saving) else (f ∷ cut.0, cut.1)) here ∙ ap (λ (l : Fired). (f ∷ l.0, l.1)) later

fired_small : (n : ℕ) (year offset saving : ℤ) (rules : List RuleInfo) → IsTrue (are_small_seconds saving)
    → AllByRecursion HasSmallSaving rules → IsTrue (are_small_seconds (fired n year offset None saving rules).1)
unfolding fired
fired_small zero year offset saving rules small all = small
fired_small (suc n) year offset saving [] small all = small
fired_small (suc n) year offset saving (r ∷ rs) small all =
    let next = earliest year offset saving r rs in
    let least = earliest_all HasSmallSaving year offset saving r rs all.0 all.1 in
    fired_small n year offset next.0.time_to_add next.1 least.0 least.1

-- the saving after some years is small
pub unended_small : (offset : ℤ) (rules : List RuleInfo) (n : ℕ) → AllByRecursion HasSmallSaving rules
    → IsTrue (are_small_seconds (unended offset rules n).1)
unfolding firings_of_years year_firings
unended_small offset rules zero all = refl
unended_small offset rules (suc n) all =
    let year = pos (earliest_year + n) in
    let rs = filter (λ r. applies_to_year r year) rules in
    fired_small (length rs) year offset (unended offset rules n).1 rs (unended_small offset rules n all)
    (all_filter HasSmallSaving (λ r. applies_to_year r year) rules all)

-- firings that no end cuts are those under an end, where they are before its limit
pub unended_below : (offset : ℤ) (end : Option ChangeTime) (limit : ℤ) (rules : List RuleInfo) (n : ℕ) → IsLimit end offset limit
    → AllByRecursion HasSmallSaving rules → IsTrue (list_all (λ f. int_lt f.time limit) (unended offset rules n).0)
    → firings_of_years offset end rules n ≡ unended offset rules n
unfolding firings_of_years year_firings
unended_below offset end limit rules zero ends all below = refl
unended_below offset end limit rules (suc n) ends all below =
    let year = pos (earliest_year + n) in
    let rs = filter (λ r. applies_to_year r year) rules in
    let before = unended offset rules n in
    let test : Firing → Bool = λ f. int_lt f.time limit in
    let parts = sym (list_all-append test before.0 (fired (length rs) year offset None before.1 rs).0) ∙ below in
    let so_far = unended_below offset end limit rules n ends all (first (list_all test before.0) _ parts) in
    let here = fired_below (length rs) year offset end limit before.1 rs ends (unended_small offset rules n all)
    (all_filter HasSmallSaving (λ r. applies_to_year r year) rules all) (second (list_all test before.0) _ parts) in
    (λ i. ((so_far i).0 ++ (fired (length rs) year offset end (so_far i).1 rs).0, (fired (length rs) year offset end (so_far i).1 rs).1))
    ∙ ap (λ (l : Fired). (before.0 ++ l.0, l.1)) here

-- an end under the greatest saving is the first
first_end : (summary : TimeType) (local offset saving : ℤ) → IsTrue (are_small_seconds saving)
    → instant_of summary local offset (pos 1000000) ≤ℤ instant_of summary local offset saving
unfolding instant_of
first_end UTC local offset saving small = omega (arith, ints)
first_end Standard local offset saving small = omega (arith, ints)
first_end Wall local offset saving small = grind (arith, ints)

not_over : (limit end time : ℤ) → limit ≤ℤ end → int_lt time limit ≡ true → int_le end time ≡ false
not_over limit end time le below = grind (arith, ints)

pub is_limit : (end : ChangeTime) (offset limit : ℤ) → limit ≡ line_end end offset (pos 1000000) → IsLimit (Some end) offset limit
unfolding line_end
is_limit end offset limit is saving time small below =
    not_over limit _ time (subst (λ l. l ≤ℤ line_end end offset saving) (sym is) (first_end (time_type end) (wall end) offset saving small)) below

at_most_below : (time latest limit : ℤ) → int_le time latest ≡ true → int_lt latest limit ≡ true → int_lt time limit ≡ true
at_most_below time latest limit h k = grind (arith, ints)

-- what is at most a second that is below the limit
below_of : (latest limit : ℤ) → IsTrue (int_lt latest limit) → (fs : List Firing) → IsTrue (list_all (λ f. int_le f.time latest) fs)
    → IsTrue (list_all (λ f. int_lt f.time limit) fs)
below_of latest limit less fs all =
    list_all-from_AllPass (λ f. int_lt f.time limit) fs (λ k d l. at_most_below _ latest limit
    (AllPass-from_list_all (λ f. int_le f.time latest) fs all k d l) less)

pub at_most : {time later : ℤ} → time ≤ℤ later → IsTrue (int_le time later)
at_most h = grind (arith, ints)

at_most_more : (time early later : ℤ) → int_le time early ≡ true → early ≤ℤ later → int_le time later ≡ true
at_most_more time early later h k = grind (arith, ints)

most_of : (early later : ℤ) → early ≤ℤ later → (fs : List Firing) → IsTrue (list_all (λ f. int_le f.time early) fs)
    → IsTrue (list_all (λ f. int_le f.time later) fs)
most_of early later le fs all =
    list_all-from_AllPass (λ f. int_le f.time later) fs (λ k d l. at_most_more _ early later
    (AllPass-from_list_all (λ f. int_le f.time early) fs all k d l) le)

-- one firing more
pub latest_more : (fired : List Firing) (i : ℕ) (f : Firing) (early later : ℤ) → i < length fired → f ≡ get_or fired i f
    → IsTrue (list_all (λ g. int_le g.time early) (take i fired)) → IsTrue (int_le f.time later) → early ≤ℤ later
    → IsTrue (list_all (λ g. int_le g.time later) (take (i + 1) fired))
latest_more fired i f early later l is before here le =
    let test : Firing → Bool = λ g. int_le g.time later in
    list_all_more test fired i f l
    ∙ both (list_all test (take i fired)) _ (most_of early later le (take i fired) before) (subst (λ g. IsTrue (test g)) is here)

-- nothing fires in the first years
pub nothing_fires : (offset : ℤ) (end : Option ChangeTime) (rules : List RuleInfo) (quiet : ℕ) (summaries : List Summary)
    → AppliesToNone rules quiet → length summaries ≡ 0 → firings_of_years offset end rules (quiet + length summaries) ≡ ([], pos 0)
nothing_fires offset end rules quiet summaries quiet_ones none =
    let years : quiet + length summaries ≡ quiet = omega (arith, none) in
    ap (firings_of_years offset end rules) years ∙ quiet_years offset end rules quiet quiet_ones

-- the last summary is that of all years that have one
pub last_is : (offset : ℤ) (rules : List RuleInfo) (quiet : ℕ) (summaries : List Summary) (summary : Summary) → AreSummaries offset rules quiet summaries
    → IsLastSummary summaries summary → IsSummary (summed offset rules quiet summaries) summary
last_is offset rules quiet summaries summary are last = at (length summaries) refl
  where
    at : (n : ℕ) → length summaries ≡ n → IsSummary (summed offset rules quiet summaries) summary
    at zero none =
        let is : summed offset rules quiet summaries ≡ ([], pos 0) = nothing_fires offset None rules quiet summaries are.none none in
        let no_last = (last.none none).1 in
        record {
          saving = (last.none none).0 ∙ sym (ap (λ (l : Fired). l.1) is);
          latest = ap (λ (l : Fired). list_all (λ f. int_le f.time summary.latest) l.0) is;
          last = no_last ∙ sym (ap (λ (l : Fired). last_or None l.0) is);
          bounded = ap (λ (o : Option Firing). list_all is_bounded_firing (option_to_list o)) no_last;
        }
    at (suc j) some =
        let here : IsSummary (unended offset rules (quiet + suc j)) (get_or summaries j summary) = are.each j summary (omega (arith, some)) in
        let years : quiet + suc j ≡ quiet + length summaries = omega (arith, some) in
        subst (λ m. IsSummary (summed offset rules quiet summaries) m) (sym (last.some j some))
        (subst (λ n. IsSummary (unended offset rules n) (get_or summaries j summary)) years here)

-- and its firings are before the limit, where each summary is
last_below : (limit offset : ℤ) (rules : List RuleInfo) (quiet : ℕ) (summaries : List Summary) (summary : Summary) → AreSummaries offset rules quiet summaries
    → AreBelow limit (length summaries) summaries → IsTrue (list_all (λ f. int_lt f.time limit) (summed offset rules quiet summaries).0)
last_below limit offset rules quiet summaries summary are below = at (length summaries) refl
  where
    at : (n : ℕ) → length summaries ≡ n → IsTrue (list_all (λ f. int_lt f.time limit) (summed offset rules quiet summaries).0)
    at zero none =
        ap (λ (l : Fired). list_all (λ f. int_lt f.time limit) l.0) (nothing_fires offset None rules quiet summaries are.none none)
    at (suc j) some =
        let here : IsSummary (unended offset rules (quiet + suc j)) (get_or summaries j summary) = are.each j summary (omega (arith, some)) in
        let years : quiet + suc j ≡ quiet + length summaries = omega (arith, some) in
        subst (λ n. IsTrue (list_all (λ f. int_lt f.time limit) (unended offset rules n).0)) years
        (below_of (get_or summaries j summary).latest limit (below j summary (omega (arith, some))) (unended offset rules (quiet + suc j)).0 here.latest)

fewer_summaries : (offset : ℤ) (rules : List RuleInfo) (quiet : ℕ) (summaries : List Summary) (count : ℕ) → count ≤ length summaries
    → AreSummaries offset rules quiet summaries → AreSummaries offset rules quiet (take count summaries)
fewer_summaries offset rules quiet summaries count le are =
    let len : length (take count summaries) ≡ count = length-take-le count summaries le in
    record {
      none = are.none;
      most = omega (arith, are.most, le, len);
      each = λ i d l. subst (λ m. IsSummary (unended offset rules (quiet + suc i)) m)
          (sym (get_or-take count summaries i d (omega (arith, l, len)))) (are.each i d (omega (arith, l, len, le)));
    }

-- the summary of one year more
one_summary_more : (offset : ℤ) (rules : List RuleInfo) (quiet : ℕ) (summaries : List Summary) (summary : Summary) → quiet + length summaries < years_limit
    → AreSummaries offset rules quiet summaries → IsSummary (unended offset rules (quiet + length summaries + 1)) summary
    → AreSummaries offset rules quiet (summaries ++ summary ∷ [])
one_summary_more offset rules quiet summaries summary most are here =
    let len : length (summaries ++ summary ∷ []) ≡ length summaries + 1 = length-append summaries (summary ∷ []) in
    record {
      none = are.none;
      most = omega (arith, most, len);
      each = λ i d l. at i d (omega (arith, l, len));
    }
  where
    at : (i : ℕ) (d : Summary) → i < suc (length summaries) → IsSummary (unended offset rules (quiet + suc i)) (get_or (summaries ++ summary ∷ []) i d)
    at i d l =
        elim (eq-or-lt_of_le {n = i} {m = length summaries} (omega (arith, l))) [
          | inl same ↦
              let years : quiet + length summaries + 1 ≡ quiet + suc i = omega (arith, same) in
              let put : get_or (summaries ++ summary ∷ []) i d ≡ summary = ap (λ n. get_or (summaries ++ summary ∷ []) n d) same ∙ get_or-append_seam summaries summary [] d in
              subst (λ m. IsSummary (unended offset rules (quiet + suc i)) m) (sym put)
              (subst (λ n. IsSummary (unended offset rules n) summary) years here)
          | inr less ↦ subst (λ m. IsSummary (unended offset rules (quiet + suc i)) m) (sym (get_or_append_left summaries (summary ∷ []) d i less))
              (are.each i d less)
        ]

last_after : {X : Type 0} (o : Option X) (xs ys : List X) → last_or o (xs ++ ys) ≡ last_or (last_or o xs) ys
last_after o [] ys = refl
last_after o (x ∷ xs) ys = last_after (Some x) xs ys

-- what passes at each passes at the last
last_passes : {X : Type 0} (p : X → Bool) (o : Option X) (xs : List X) → IsTrue (list_all p (option_to_list o)) → IsTrue (list_all p xs)
    → IsTrue (list_all p (option_to_list (last_or o xs)))
last_passes p o [] h all = h
last_passes p o (x ∷ xs) h all = last_passes p (Some x) xs (both (p x) _ (first (p x) _ all) refl) (second (p x) _ all)

-- one year more
pub year_summed : (offset : ℤ) (rules : List RuleInfo) (quiet : ℕ) (fired : List Firing) (summaries : List Summary) (summary : Summary)
    (year saving latest : ℤ) (last : Option Firing) → quiet + length summaries < years_limit → year ≡ pos (earliest_year + (quiet + length summaries))
    → IsLastSummary summaries summary → AreSummaries offset rules quiet summaries
    → fired ≡ (year_firings year offset None summary.saving rules).0 → saving ≡ (year_firings year offset None summary.saving rules).1
    → IsTrue (list_all (λ f. int_le f.time latest) fired) → summary.latest ≤ℤ latest → last ≡ last_or summary.last fired
    → IsTrue (list_all is_bounded_firing fired)
    → AreSummaries offset rules quiet (summaries ++ record { saving = saving; latest = latest; last = last } ∷ [])
year_summed offset rules quiet fired summaries summary year saving latest last most year_is is_last are fires saves here later last_here bounded =
    let n = quiet + length summaries in
    let so_far = (unended offset rules n).0 in
    let before = last_is offset rules quiet summaries summary are is_last in
    let test : Firing → Bool = λ f. int_le f.time latest in
    let next = sym (next_year offset None rules n year summary.saving year_is before.saving) in
    let due : so_far ++ fired ≡ (unended offset rules (n + 1)).0 = ap (λ xs. so_far ++ xs) fires ∙ ap (λ (l : Fired). l.0) next in
    one_summary_more offset rules quiet summaries _ most are (record {
      saving = saves ∙ ap (λ (l : Fired). l.1) next;
      latest = ap (list_all test) (sym due) ∙ list_all-append test so_far fired
          ∙ both (list_all test so_far) _ (most_of summary.latest latest later so_far before.latest) here;
      last = last_here ∙ ap (λ (o : Option Firing). last_or o fired) before.last ∙ sym (last_after None so_far fired)
          ∙ ap (last_or None) due;
      bounded = subst (λ (o : Option Firing). IsTrue (list_all is_bounded_firing (option_to_list o))) (sym last_here)
          (last_passes is_bounded_firing summary.last fired before.bounded bounded);
    })

-- one firing more
pub last_more : {X : Type 0} (o : Option X) (xs : List X) (i : ℕ) (x : X) (last : Option X) → i < length xs → x ≡ get_or xs i x
    → last ≡ last_or o (take i xs) → Some x ≡ last_or o (take (i + 1) xs)
last_more o xs i x last l is before =
    sym (ap (last_or o) (take_more xs i x l ∙ ap (λ y. take i xs ++ y ∷ []) (sym is)) ∙ last_after o (take i xs) (x ∷ []))

sooner_below : (time second limit : ℤ) → int_lt time second ≡ true → second ≤ℤ limit → int_lt time limit ≡ true
sooner_below time second limit h le = grind (arith, ints)

-- a sooner second is a limit too
pub sooner_limit : (end : Option ChangeTime) (offset limit second : ℤ) → IsLimit end offset limit → second ≤ℤ limit → IsLimit end offset second
sooner_limit end offset limit second ends le saving time small below = ends saving time small (sooner_below time second limit below le)

all_sooner : (sooner start : ℤ) → sooner ≤ℤ start → (fs : List Firing) → IsTrue (list_all (λ f. int_lt f.time sooner) fs)
    → IsTrue (list_all (λ f. int_lt f.time start) fs)
all_sooner sooner start le fs all =
    list_all-from_AllPass (λ f. int_lt f.time start) fs (λ k d l. sooner_below _ sooner start
    (AllPass-from_list_all (λ f. int_lt f.time sooner) fs all k d l) le)

-- what a summary has of the first n years of a line with that start
pub record Serves (start offset : ℤ) (end : Option ChangeTime) (rules : List RuleInfo) (n : ℕ) (summary : Summary) : Type 0 where
  pub stands : StandsFor (Some start) (option_to_list summary.last) (firings_of_years offset end rules n).0
  pub saving : summary.saving ≡ (firings_of_years offset end rules n).1
  pub small : IsTrue (are_small_seconds summary.saving)
  pub bounded : IsTrue (list_all is_bounded_firing (option_to_list summary.last))

-- the last of summaries that are before the start and the limit serves a line with that start
pub summary_serves : (second start offset : ℤ) (end : Option ChangeTime) (rules : List RuleInfo) (quiet : ℕ) (summaries : List Summary) (count : ℕ)
    (summary : Summary) → IsLimit end offset second → second ≤ℤ start → AllByRecursion HasSmallSaving rules → AreSummaries offset rules quiet summaries
    → count ≤ length summaries → AreBelow second count summaries → IsLastSummary (take count summaries) summary
    → Serves start offset end rules (quiet + count) summary
summary_serves second start offset end rules quiet summaries count summary ends sooner small are le below last =
    let len : length (take count summaries) ≡ count = length-take-le count summaries le in
    let ones = take count summaries in
    let fewer = fewer_summaries offset rules quiet summaries count le are in
    let here = last_is offset rules quiet ones summary fewer last in
    let all = last_below second offset rules quiet ones summary fewer
    (λ i d l. subst (λ (m : Summary). IsTrue (int_lt m.latest second)) (sym (get_or-take count summaries i d (omega (arith, l, len))))
    (below i d (omega (arith, l, len)))) in
    let n = quiet + length ones in
    let same : unended offset rules n ≡ firings_of_years offset end rules n = sym (unended_below offset end second rules n ends small all) in
    let due = (unended offset rules n).0 in
    let stands : StandsFor (Some start) (option_to_list summary.last) due =
    subst (λ (o : Option Firing). StandsFor (Some start) (option_to_list o) due) (sym here.last)
    (last_stands start None due refl (all_sooner second start sooner due all)) in
    subst (λ k. Serves start offset end rules (quiet + k) summary) len (record {
      stands = subst (λ (l : Fired). StandsFor (Some start) (option_to_list summary.last) l.0) same stands;
      saving = here.saving ∙ ap (λ (l : Fired). l.1) same;
      small = subst (λ s. IsTrue (are_small_seconds s)) (sym here.saving) (unended_small offset rules n small);
      bounded = here.bounded;
    })

-- nothing is summed
pub begun_quiet : (offset : ℤ) (rules : List RuleInfo) (quiet : ℕ) → AppliesToNone rules quiet → quiet ≤ years_limit
    → AreSummaries offset rules quiet []
begun_quiet offset rules quiet none le = record {
  none = none;
  most = omega (arith, le);
  each = λ i d l. absurd (omega (arith, l));
}

-- no firing stands for those of the first years
pub quiet_stands : (start : Option ℤ) (offset : ℤ) (end : Option ChangeTime) (rules : List RuleInfo) (quiet : ℕ) → AppliesToNone rules quiet
    → StandsFor start [] (firings_of_years offset end rules quiet).0
quiet_stands start offset end rules quiet none =
    subst (λ (l : Fired). StandsFor start [] l.0) (sym (quiet_years offset end rules quiet none)) (stands_same start [])

-- what the last call leaves, where it doesn't fail
pub stand_on_ok : {T E : Type 0} (r : Result T E) (start : Option ℤ) (firings : Firings) (due : Fired)
    → OnOk r (StandsFor start firings.fired.items due.0) → OnOk r (firings.saving ≡ due.1) → OnOk r (AreSmall firings)
    → OnOk r (StandFor start firings due)
stand_on_ok (Ok x) start firings due stands saving small = record { fired = stands; saving = saving; small = small }
stand_on_ok (Err e) start firings due stands saving small = tt
