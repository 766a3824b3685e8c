-- The candidates of a set whose tail has no fault are ready to be chosen from.
use Rattle.std.proofs.Common.{◌≡◌, ℕ, zero, suc, ◌<◌, ◌≤◌, Bool, true, false, cond, ◌&&◌, List, [], ◌∷◌, length, map, Some, None, All, ℤ, pos, neg_ℤ, ◌+ℤ◌, ◌-ℤ◌, ◌≤ℤ◌, ◌<ℤ◌, int_lt, int_eq, refl, sym, ap, ◌∙◌, subst, ⊎_elim, inl, inr, arith}
use Rattle.std.proofs.lemmas.{Int.{ints}, Bool.{and_parts}, List.{length-append, length-map}, List.Elements.{All-append, All-cons, All-get_or, All-map, All-nil, All-tail, All-weaker}}
use Rattle.std.specs.List.{list_all}
use Rattle.basics.specs.ComparisonLaws.{eq_from_pass, le_le, le_same, lt_from_fail, lt_from_pass, lt_le}
use Rattle.civil_base.specs.{Ranges.{is_offset, IsOffset}, RangeLaws.{offset_greatest, offset_least}}
use Rattle.zone_spans.specs.Entries.{Entry, total}
use Rattle.tz_lookup.specs.{Sets.{IsAccepted, IsSpanTime, schedule_of, shift_of, shifts_of, span_in, total_of_span}, Spans.{Shift, shift_at}, declared.set.FixedTimespanSet.{FixedTimespanSet}}
use Rattle.tz_posix.specs.InForce.{instant_in}
use Rattle.zone_tail.specs.{Agreement.{Agrees}, Candidates.{IsAllowed, IsLast, IsSoundCandidate}, Changes.{changes_at}, Choices.{candidate_at, IsChoice}, LastYear.{Form, form, is_end, is_start, second_week, standard_of, year_begin, year_end}}
use Rattle.zone_tail.specs.{Ready.{CanBeWritten, IsChosen, IsNamedBy, IsReady, IsReadyList}, Rules.{time_of}, Settled.{Settles}, Shapes.{entry_in, IsForm}}
use Rattle.zone_tail.specs.{Tails.{can_be_written, candidates, candidates_of, end_of_last_year, ends_early, fault_of, is_ending_early, is_name, named_or, names_of, rule_with, rules_with, tail_fault}, Totals.{IsCount}, declared.candidate.Candidate.{Candidate}}
use Rattle.zone_tail.specs.declared.{candidate.Candidate.TheVariants.{Fixed, Ruled}, last_year.Form.TheVariants.{Steady, Yearly, Other}, rule.Change.{Change}}
use Rattle.zone_tail.proofs.{ChangeLemmas.{Comes, all_come, changes_some}, SettledLemmas.{begun_entry, settled}, ShapeLemmas.{shift_is}, SpanLemmas.{length-shifts}, TotalLemmas.{Gives, IsCandidate, candidate_agrees, same_choice, steady_agrees}}
use Rattle.zone_tail.specs.declared.last_year.Form as code
use Rattle.zone_tail.specs.declared.outcome.TailFault.TheVariants as fault

shift_offset : (shifts : List Shift) (i : ℕ) → list_all (λ (s : Shift). is_offset s.1) shifts ≡ true → i < length shifts → is_offset (shift_at shifts i).1 ≡ true
shift_offset [] i h l = absurd (omega arith)
shift_offset (s ∷ ss) zero h l = (and_parts (is_offset s.1) (list_all (λ (t : Shift). is_offset t.1) ss) h).0
shift_offset (s ∷ ss) (suc i) h l = shift_offset ss i (and_parts (is_offset s.1) (list_all (λ (t : Shift). is_offset t.1) ss) h).1 (omega arith)

-- ---- one total

pub total_of_span-is : (set : FixedTimespanSet) (k : ℕ) → k ≤ length set.others → total_of_span set k ≡ total (span_in set k)
total_of_span-is set zero l = refl
total_of_span-is set (suc i) l = ap (λ (s : Shift). s.1) (shift_is (pos 0, set.first) set.others i (omega arith))

allowed_fixed : (set : FixedTimespanSet) (v : ℤ) (k : ℕ) → k ≤ length (shifts_of set) → IsAllowed (Fixed v) (schedule_of set) k
allowed_fixed set v zero l = tt
allowed_fixed set v (suc i) l = (omega arith, tt)

module _ (set : FixedTimespanSet) (accepted : IsAccepted (schedule_of set)) (k : ℕ) (h : IsForm set (Steady k)) where
  abbrev v : ℤ
  v = total (span_in set k)

  within : k ≤ length set.others
  within = omega (arith, h.1.within, length-shifts set.others)

  steady_candidates : candidates set ≡ Fixed v ∷ []
  steady_candidates = ap (candidates_of (standard_of set)) h.0

  only : (last : ℤ) → IsCount (shifts_of set) last k → (j : ℕ) → j < 1
      → IsAllowed (candidate_at (Fixed v ∷ []) j) (schedule_of set) k × Agrees (candidate_at (Fixed v ∷ []) j) (schedule_of set) last k
  only last count zero l = (
    allowed_fixed set v k h.1.within,
    subst (λ t. Agrees (Fixed t) (schedule_of set) last k) (total_of_span-is set k within) (steady_agrees (schedule_of set) last k count accepted.times),
  )
  only last count (suc j) l = absurd (omega arith)

  -- by any second before which as many entries lie
  pub steady_ready : (last : ℤ) → IsCount (shifts_of set) last k → IsReady set last
  steady_ready last count = subst (IsReadyList set last) (sym steady_candidates) (record {
    some = omega arith;
    sound = All-cons IsSoundCandidate (Fixed v) [] tt (All-nil IsSoundCandidate);
    settle = All-cons (Settles set) (Fixed v) [] tt (All-nil (Settles set));
    ends = All-cons (λ candidate. IsLast candidate last) (Fixed v) [] tt (All-nil (λ candidate. IsLast candidate last));
    closes = All-cons (λ candidate. IsLast candidate (end_of_last_year set)) (Fixed v) [] tt (All-nil (λ candidate. IsLast candidate (end_of_last_year set)));
    agree = record { span = k; each = only last count };
    same = λ i m choice. same_choice (schedule_of set) v last (end_of_last_year set) k i m count h.2 choice;
  })

  -- as the time of the entry after the span
  pub ready_before_entry : (last : ℤ) → k < length set.others → last ≡ (shift_at (shifts_of set) k).0 → IsReady set last
  ready_before_entry last l is = steady_ready last (subst (λ s. IsCount (shifts_of set) s k) (sym is) (record {
    within = h.1.within;
    before = λ j m. lt_le _ _ _ (h.2.before j m) (h.2.after k (omega arith) (omega (arith, length-shifts set.others)));
    after = λ j m n. accepted.times k j m n;
  }))

  -- or far away, after the last span
  pub ready_far : length set.others ≤ k → IsReady set (pos 2199023255552)
  ready_far l = steady_ready (pos 2199023255552) (record {
    within = h.1.within;
    before = λ j m. let a = All-get_or (λ (s : Shift). IsSpanTime s.0) (shifts_of set) j (pos 0, pos 0) (omega (arith, h.1.within)) accepted.bound in omega (arith, ints, a.1);
    after = λ j m n. absurd (omega (arith, length-shifts set.others));
  })

-- ---- rules

-- what holds of each rule holds of all
all_rules : (P : Candidate → Type 0) (S E : Change → Type 0) (standard saving : ℤ) (starts ends : List Change)
    → ((s e : Change) → S s → E e → P (Ruled (rule_with standard saving s e))) → All S starts → All E ends → All P (rules_with standard saving starts ends)
all_rules P S E standard saving [] ends each all_s all_e = All-nil P
all_rules P S E standard saving (s ∷ ss) ends each all_s all_e =
    All-append P (map (λ (e : Change). Ruled (rule_with standard saving s e)) ends) (rules_with standard saving ss ends)
    (All-map P (λ (e : Change). Ruled (rule_with standard saving s e)) ends
    (All-weaker E (λ e. P (Ruled (rule_with standard saving s e))) (λ e holds. each s e (first all_s) holds) ends all_e))
    (all_rules P S E standard saving ss ends each (rest all_s) all_e)
  where
    first : All S (s ∷ ss) → S s
    first all = All-get_or S (s ∷ ss) 0 s (omega arith) all

    rest : All S (s ∷ ss) → All S ss
    rest all = All-tail S s ss all

some_rules : (standard saving : ℤ) (starts ends : List Change) → 0 < length starts → 0 < length ends → 0 < length (rules_with standard saving starts ends)
some_rules standard saving [] ends a b = absurd (omega arith)
some_rules standard saving (s ∷ ss) ends a b =
    omega (
      arith,
      length-append (map (λ (e : Change). Ruled (rule_with standard saving s e)) ends) (rules_with standard saving ss ends),
      length-map ends (λ (e : Change). Ruled (rule_with standard saving s e)),
    )

module _ (set : FixedTimespanSet) (accepted : IsAccepted (schedule_of set)) (start end : ℕ) (h : IsForm set (Yearly start end)) where
  abbrev off : ℤ
  off = standard_of set

  abbrev a : Entry
  a = entry_in set start

  abbrev b : Entry
  b = entry_in set end

  abbrev first : ℕ
  first = h.1.first

  -- one of the two
  record IsOne (n : ℕ) : Type 0 where
    pub from : first ≤ n
    pub to : n < suc (suc first)

  start_one : IsOne start
  start_one = ⊎_elim {C = IsOne start}
      (λ o. record { from = omega (arith, o.0); to = omega (arith, o.0) })
      (λ o. record { from = omega (arith, o.1); to = omega (arith, o.1) })
      h.1.order

  end_one : IsOne end
  end_one = ⊎_elim {C = IsOne end}
      (λ o. record { from = omega (arith, o.1); to = omega (arith, o.1) })
      (λ o. record { from = omega (arith, o.0); to = omega (arith, o.0) })
      h.1.order

  one_inside : (n : ℕ) → IsOne n → n < length (shifts_of set)
  one_inside n one = omega (arith, one.to, h.1.ends.within)

  pub start_inside : start < length set.others
  start_inside = omega (arith, one_inside start start_one, length-shifts set.others)

  pub end_inside : end < length set.others
  end_inside = omega (arith, one_inside end end_one, length-shifts set.others)

  pub start_bound : start < 18446744073709551615
  start_bound = omega (arith, start_one.to, h.1.bound)

  one_is : (n : ℕ) → IsOne n → shift_at (shifts_of set) n ≡ shift_of (entry_in set n)
  one_is n one = shift_is (pos 0, set.first) set.others n (omega (arith, one_inside n one, length-shifts set.others))

  one_begun : (n : ℕ) → IsOne n → (year_begin -ℤ off) ≤ℤ (entry_in set n).0
  one_begun n one = subst (λ (s : Shift). (year_begin -ℤ off) ≤ℤ s.0) (one_is n one) (h.1.begins.after n one.from (one_inside n one))

  one_not_over : (n : ℕ) → IsOne n → (entry_in set n).0 <ℤ (year_end -ℤ off)
  one_not_over n one = subst (λ (s : Shift). s.0 <ℤ (year_end -ℤ off)) (one_is n one) (h.1.ends.before n one.to)

  one_offset : (n : ℕ) → IsOne n → is_offset (total (entry_in set n).1) ≡ true
  one_offset n one =
      subst (λ (s : Shift). is_offset s.1 ≡ true) (one_is n one)
      (shift_offset (shifts_of set) n (and_parts (is_offset (total set.first)) _ accepted.range).1 (one_inside n one))

  both : (is_start off a.1 && is_end off b.1 ≡ true) × (int_lt (b.0 +ℤ total a.1) year_end ≡ true)
  both = and_parts (is_start off a.1 && is_end off b.1) (int_lt (b.0 +ℤ total a.1) year_end) h.1.are

  kinds : (is_start off a.1 ≡ true) × (is_end off b.1 ≡ true)
  kinds = and_parts (is_start off a.1) (is_end off b.1) both.0

  starts : (int_eq a.1.utc_offset off ≡ true) × (int_lt (pos 0) a.1.dst_offset ≡ true)
  starts = and_parts (int_eq a.1.utc_offset off) (int_lt (pos 0) a.1.dst_offset) kinds.0

  stops : (int_eq b.1.utc_offset off ≡ true) × (int_eq b.1.dst_offset (pos 0) ≡ true)
  stops = and_parts (int_eq b.1.utc_offset off) (int_eq b.1.dst_offset (pos 0)) kinds.1

  ahead : off <ℤ total a.1
  ahead = omega (arith, ints, eq_from_pass a.1.utc_offset off starts.0, lt_from_pass (pos 0) a.1.dst_offset starts.1)

  standard_is : total b.1 ≡ off
  standard_is = omega (arith, ints, eq_from_pass b.1.utc_offset off stops.0, eq_from_pass b.1.dst_offset (pos 0) stops.1)

  saving_small : IsOffset (total a.1)
  saving_small = one_offset start start_one

  pub standard_small : IsOffset off
  standard_small = subst IsOffset standard_is (one_offset end end_one)

  pub start_low : year_begin ≤ℤ (a.0 +ℤ off)
  start_low = omega (arith, ints, one_begun start start_one)

  pub start_high : (a.0 +ℤ off) <ℤ year_end
  start_high = omega (arith, ints, one_not_over start start_one)

  pub end_low : year_begin ≤ℤ (b.0 +ℤ total a.1)
  end_low = omega (arith, ints, one_begun end end_one, ahead)

  pub end_high : (b.0 +ℤ total a.1) <ℤ year_end
  end_high = lt_from_pass _ _ both.1

  pub yearly_list : candidates set ≡ rules_with off (total a.1) (changes_at (a.0 +ℤ off)) (changes_at (b.0 +ℤ total a.1))
  yearly_list = ap (candidates_of off) h.0

  -- what is known of each rule
  record IsGood (candidate : Candidate) : Type 0 where
    pub sound : IsSoundCandidate candidate
    pub ends : IsLast candidate (end_of_last_year set)
    pub settles : Settles set candidate
    pub allowed : IsAllowed candidate (schedule_of set) (suc first)
    pub agrees : Agrees candidate (schedule_of set) (end_of_last_year set) (suc first)

  back : (x o : ℤ) → x +ℤ o -ℤ o ≡ x
  back x o = omega (arith, ints)

  given : (s e : Change) → Comes (a.0 +ℤ off) s → Comes (b.0 +ℤ total a.1) e → IsCandidate (schedule_of set) first (rule_with off (total a.1) s e)
  given s e come_s come_e =
      let starts_at : Gives (shifts_of set) start (instant_in (pos 2099) off (time_of s)) (total a.1) = record {
        time = come_s.instant off ∙ back a.0 off ∙ sym (ap (λ (t : Shift). t.0) (one_is start start_one));
        total = ap (λ (t : Shift). t.1) (one_is start start_one);
      } in
      let ends_at : Gives (shifts_of set) end (instant_in (pos 2099) (total a.1) (time_of e)) off = record {
        time = come_e.instant (total a.1) ∙ back b.0 (total a.1) ∙ sym (ap (λ (t : Shift). t.0) (one_is end end_one));
        total = ap (λ (t : Shift). t.1) (one_is end end_one) ∙ standard_is;
      } in
      record {
        begins = h.1.begins;
        ends = h.1.ends;
        apart = apart;
        moments = ⊎_elim
            (λ o. inl (
              subst (λ n. Gives (shifts_of set) n (instant_in (pos 2099) off (time_of s)) (total a.1)) o.0 starts_at,
              subst (λ n. Gives (shifts_of set) n (instant_in (pos 2099) (total a.1) (time_of e)) off) o.1 ends_at,
            ))
            (λ o. inr (
              subst (λ n. Gives (shifts_of set) n (instant_in (pos 2099) (total a.1) (time_of e)) off) o.0 ends_at,
              subst (λ n. Gives (shifts_of set) n (instant_in (pos 2099) off (time_of s)) (total a.1)) o.1 starts_at,
            ))
            h.1.order;
      }
    where
      apart : (shift_at (shifts_of set) first).0 <ℤ (shift_at (shifts_of set) (suc first)).0
      apart =
          let one = one_is first (record { from = omega arith; to = omega arith }) in
          let two = one_is (suc first) (record { from = omega arith; to = omega arith }) in
          subst (λ (s : Shift). s.0 <ℤ (shift_at (shifts_of set) (suc first)).0) (sym one)
          (subst (λ (s : Shift). (entry_in set first).0 <ℤ s.0) (sym two) h.1.rising)

  -- the rule of the last year decides by itself, since the start is an entry and the end lies in the second week or later
  not_early : is_ending_early set ≡ false → second_week ≤ℤ (b.0 +ℤ total a.1)
  unfolding is_ending_early
  not_early e = lt_from_fail (b.0 +ℤ total a.1) second_week (sym (ap ends_early h.0) ∙ e)

  settles : (s e : Change) → Comes (a.0 +ℤ off) s → Comes (b.0 +ℤ total a.1) e → Settles set (Ruled (rule_with off (total a.1) s e))
  settles s e come_s come_e early t past =
      let begun = begun_entry (pos 0, set.first) set.others t start past.over start_inside in
      settled off (total a.1) s e t come_s.sound come_e.sound standard_small saving_small past.not_over
      (le_le _ _ _ (one_begun start start_one) begun)
      (le_same _ _ _ _ (come_s.instant off ∙ back a.0 off) refl begun)
      (come_e.late (not_early early))

  reaches : neg_ℤ (pos 5364662400) ≤ℤ (shift_at (shifts_of set) first).0
  reaches = omega (arith, ints, h.1.begins.after first (omega arith) (one_inside first (record { from = omega arith; to = omega arith })), offset_greatest off standard_small)

  good : (s e : Change) → Comes (a.0 +ℤ off) s → Comes (b.0 +ℤ total a.1) e → IsGood (Ruled (rule_with off (total a.1) s e))
  good s e come_s come_e = record {
    sound = record { standard = standard_small; saving = saving_small; start = come_s.sound; end = come_e.sound };
    ends = omega (arith, ints, offset_least off standard_small);
    settles = settles s e come_s come_e;
    allowed = (one_inside first (record { from = omega arith; to = omega arith }), reaches);
    agrees = candidate_agrees (rule_with off (total a.1) s e) (schedule_of set) first (given s e come_s come_e) accepted.times;
  }

  abbrev list : List Candidate
  list = rules_with off (total a.1) (changes_at (a.0 +ℤ off)) (changes_at (b.0 +ℤ total a.1))

  all_good : All IsGood list
  all_good = all_rules IsGood (Comes (a.0 +ℤ off)) (Comes (b.0 +ℤ total a.1)) off (total a.1) _ _ good
      (all_come (a.0 +ℤ off) start_low start_high) (all_come (b.0 +ℤ total a.1) end_low end_high)

  pub yearly_ready : IsReady set (end_of_last_year set)
  yearly_ready = subst (IsReadyList set (end_of_last_year set)) (sym yearly_list) (record {
    some = some_rules off (total a.1) _ _ (changes_some (a.0 +ℤ off) start_low start_high) (changes_some (b.0 +ℤ total a.1) end_low end_high);
    sound = All-weaker IsGood IsSoundCandidate (λ c g. g.sound) list all_good;
    settle = All-weaker IsGood (Settles set) (λ c g. g.settles) list all_good;
    ends = All-weaker IsGood (λ c. IsLast c (end_of_last_year set)) (λ c g. g.ends) list all_good;
    closes = All-weaker IsGood (λ c. IsLast c (end_of_last_year set)) (λ c g. g.ends) list all_good;
    agree = record {
      span = suc first;
      each = λ j l. let g = All-get_or IsGood list j (Fixed (pos 0)) l all_good in (g.allowed, g.agrees);
    };
    same = λ i k choice. choice;
  })

-- ---- what can be written

-- no fault of the range
if_named : (b n : Bool) → cond b (named_or n) (Some fault.OffsetRange) ≡ None → b ≡ true
if_named true n h = refl
if_named false n h = cc

all_unit : (xs : List Change) → All (λ (c : Change). Unit {0}) xs
all_unit [] = All-nil (λ c. Unit {0})
all_unit (x ∷ xs) = All-cons (λ c. Unit {0}) x xs tt (all_unit xs)

pub steady_written : (set : FixedTimespanSet) (k : ℕ) → IsForm set (Steady k) → tail_fault set ≡ None → All CanBeWritten (candidates set)
steady_written set k h none =
    let e = ap (candidates_of (standard_of set)) h.0 in
    let f = sym (ap (fault_of (standard_of set)) h.0) ∙ none in
    subst (All CanBeWritten) (sym e)
    (All-cons CanBeWritten (Fixed (total (span_in set k))) [] (if_named (can_be_written (total (span_in set k))) (is_name (span_in set k).name) f) (All-nil CanBeWritten))

pub yearly_written : (set : FixedTimespanSet) (start end : ℕ) → IsForm set (Yearly start end) → tail_fault set ≡ None → All CanBeWritten (candidates set)
yearly_written set start end h none =
    let a = entry_in set start in
    let b = entry_in set end in
    let off = standard_of set in
    let f = sym (ap (fault_of off) h.0) ∙ none in
    let both = and_parts (can_be_written off) (can_be_written (total a.1)) (if_named (can_be_written off && can_be_written (total a.1)) (is_name b.1.name && is_name a.1.name) f) in
    subst (All CanBeWritten) (sym (ap (candidates_of off) h.0))
    (all_rules CanBeWritten (λ c. Unit {0}) (λ c. Unit {0}) off (total a.1) (changes_at (a.0 +ℤ off)) (changes_at (b.0 +ℤ total a.1))
    (λ s e x y. record { standard = both.0; saving = both.1 }) (all_unit (changes_at (a.0 +ℤ off))) (all_unit (changes_at (b.0 +ℤ total a.1))))

-- ---- and the names

if_names : (b n : Bool) → cond b (named_or n) (Some fault.OffsetRange) ≡ None → n ≡ true
if_names true true h = refl
if_names true false h = cc
if_names false n h = cc

pub steady_named : (set : FixedTimespanSet) (k : ℕ) → IsForm set (Steady k) → tail_fault set ≡ None
    → All (λ c. IsNamedBy (names_of (form set)).0 (names_of (form set)).1 c) (candidates set)
steady_named set k h none =
    let span = span_in set k in
    let f = sym (ap (fault_of (standard_of set)) h.0) ∙ none in
    subst (λ (g : Form). All (IsNamedBy (names_of g).0 (names_of g).1) (candidates_of (standard_of set) g)) (sym h.0)
    (All-cons (IsNamedBy span.name []) (Fixed (total span)) [] (if_names (can_be_written (total span)) (is_name span.name) f) (All-nil (IsNamedBy span.name [])))

pub yearly_named : (set : FixedTimespanSet) (start end : ℕ) → IsForm set (Yearly start end) → tail_fault set ≡ None
    → All (λ c. IsNamedBy (names_of (form set)).0 (names_of (form set)).1 c) (candidates set)
yearly_named set start end h none =
    let a = entry_in set start in
    let b = entry_in set end in
    let off = standard_of set in
    let f = sym (ap (fault_of off) h.0) ∙ none in
    let both = and_parts (is_name b.1.name) (is_name a.1.name) (if_names (can_be_written off && can_be_written (total a.1)) (is_name b.1.name && is_name a.1.name) f) in
    subst (λ (g : Form). All (IsNamedBy (names_of g).0 (names_of g).1) (candidates_of off g)) (sym h.0)
    (all_rules (IsNamedBy b.1.name a.1.name) (λ c. Unit {0}) (λ c. Unit {0}) off (total a.1) (changes_at (a.0 +ℤ off)) (changes_at (b.0 +ℤ total a.1))
    (λ s e x y. both) (all_unit (changes_at (a.0 +ℤ off))) (all_unit (changes_at (b.0 +ℤ total a.1))))

pub written_of : (set : FixedTimespanSet) (found : code.Form) → IsForm set found → tail_fault set ≡ None → All CanBeWritten (candidates set)
written_of set (Steady k) h none = steady_written set k h none
written_of set (Yearly start end) h none = yearly_written set start end h none
written_of set Other h none = let f = sym (ap (fault_of (standard_of set)) h) ∙ none in cc

pub named_of : (set : FixedTimespanSet) (found : code.Form) → IsForm set found → tail_fault set ≡ None
    → All (λ c. IsNamedBy (names_of (form set)).0 (names_of (form set)).1 c) (candidates set)
named_of set (Steady k) h none = steady_named set k h none
named_of set (Yearly start end) h none = yearly_named set start end h none
named_of set Other h none = let f = sym (ap (fault_of (standard_of set)) h) ∙ none in cc

-- ---- what is chosen

within_others : (set : FixedTimespanSet) (c : Candidate) (k : ℕ) → IsAllowed c (schedule_of set) k → k ≤ length set.others
within_others set c zero h = omega arith
within_others set c (suc i) h = omega (arith, h.0, length-shifts set.others)

pub is_chosen : (set : FixedTimespanSet) (found : code.Form) → IsForm set found → tail_fault set ≡ None → (last : ℤ) → IsReady set last → (i k : ℕ)
    → IsChoice (candidates set) (schedule_of set) last i k → IsChosen set (candidate_at (candidates set) i) k
is_chosen set found h none last ready i k choice = record {
  index = i;
  choice = ready.same i k choice;
  is = refl;
  within = within_others set (candidate_at (candidates set) i) k choice.allowed;
  sound = All-get_or IsSoundCandidate (candidates set) i (Fixed (pos 0)) choice.within ready.sound;
  closes = All-get_or (λ c. IsLast c (end_of_last_year set)) (candidates set) i (Fixed (pos 0)) choice.within ready.closes;
  settles = All-get_or (Settles set) (candidates set) i (Fixed (pos 0)) choice.within ready.settle;
  written = All-get_or CanBeWritten (candidates set) i (Fixed (pos 0)) choice.within (written_of set found h none);
  named = All-get_or (λ c. IsNamedBy (names_of (form set)).0 (names_of (form set)).1 c) (candidates set) i (Fixed (pos 0)) choice.within (named_of set found h none);
}
