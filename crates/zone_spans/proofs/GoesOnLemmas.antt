-- What the tests of a zone that goes on come to, step by step.
use Rattle.std.proofs.Common.{◌≡◌, ℕ, zero, suc, ◌+◌, ◌-◌, ◌<◌, ◌≤◌, Bool, true, false, not, ◌&&◌, is_none, int_lt, map, List, [], ◌∷◌, ◌++◌, length, take, drop, get_or, reverse, Option, Some, None, ℤ, pos, All, IsTrue, refl, sym, ap, ◌∙◌, subst, append-nil, arith}
use Rattle.std.proofs.{Math.Seq.{drop-append_seam, take-append_seam}, lemmas.Bool.{and_parts}, lemmas.List.Elements.{All-drop}, lemmas.List.Sums.{AllPass-from_list_all, list_all-from_AllPass}}
use Rattle.std.proofs.lemmas.List.{length-append, length-drop, reverse-reverse, take_all}
use Rattle.std.specs.{List.{list_all}, Option.{option_map_or}}
use Rattle.basics.specs.Sorted.{stable_sort}
use Rattle.zone_table.specs.{LineBounds.{are_small_seconds}, declared.change.ChangeTime.{ChangeTime}, declared.rule.RuleInfo.{RuleInfo}}
use Rattle.zone_spans.specs.{Bounds.{IsSound, IsSoundOver, is_bounded_entry, is_bounded_firing}, Collapse.{kept_of}, Cuts.{IsCut}, Cycle.{seconds_on}, Entries.{Entry, entry_of, is_sooner, next_start_over, raw_entries_over, sorted_entries_over}}
use Rattle.zone_spans.specs.{Firings.{Firing, firings_of_years, years_over}, GoesOn.{are_cycle_later, dont_fall, ends_by_then, front_of, goes_on, has_settled_lines, is_cycle_later, is_in_order, kept_over, last_goes_on, last_of, some_leaves}}
use Rattle.zone_spans.specs.{Later.{first_fired, later_fired, start_after}, LaterLaws.{ends-by, firings_of_years-split, years_over-ended}, Lines.{Line}, Settled.{are_settled}, Stands.{StandsFor}}
use Rattle.zone_spans.proofs.{EntryLemmas.{bounded_map}, FoundLemmas.{from_here}, StepLemmas.{read_at, two_latest}}

-- ---- the lines but the last, and the last
pub parts_of : (lines : List Line) (line : Line) → (front_of (lines ++ (line ∷ [])) ≡ lines) × (last_of (lines ++ (line ∷ [])) ≡ Some line)
unfolding front_of last_of
parts_of [] line = (refl, refl)
parts_of (l ∷ []) line = (refl, refl)
parts_of (l ∷ m ∷ ls) line = let later = parts_of (m ∷ ls) line in (ap (λ xs. l ∷ xs) later.0, later.1)

-- ---- sound over more years
last_all : (P : Line → Type 0) (xs : List Line) (x : Line) → All P (xs ++ (x ∷ [])) → P x
last_all P [] x all = all zero x (omega arith)
last_all P (y ∷ xs) x all = last_all P xs x (λ j e m. all (suc j) e (omega (arith, m)))

later_line : (line : Line) → ends_by_then line.end ≡ true → IsSoundOver 300 line → IsSoundOver 700 line
later_line line ends sound = subst (λ n. IsSound n line) (sym (years_over-ended 700 line.end (omega arith) (ends-by line.end ends))) sound

later_lines : (front : List Line) (last : Line) → list_all (λ line. ends_by_then line.end) front ≡ true
    → All (IsSoundOver 300) (front ++ (last ∷ [])) → IsSoundOver 700 last → All (IsSoundOver 700) (front ++ (last ∷ []))
later_lines [] last ends all is zero d l = is
later_lines [] last ends all is (suc k) d l = absurd (omega (arith, l))
later_lines (line ∷ front) last ends all is zero d l =
    later_line line (and_parts (ends_by_then line.end) _ ends).0 (all zero d (omega arith))
later_lines (line ∷ front) last ends all is (suc k) d l =
    later_lines front last (and_parts (ends_by_then line.end) _ ends).1 (λ j e m. all (suc j) e (omega (arith, m))) is k d (omega (arith, l))

-- settled lines, which are sound over 300 years, are so over 700
pub record IsReady (front : List Line) (last : Line) : Type 0 where
  pub lines : All (IsSoundOver 700) (front ++ (last ∷ []))
  pub begun : IsSound 300 last
  pub cycle : IsSound 700 last
  pub end : last.end ≡ None

no_end : (end : Option ChangeTime) → is_none end ≡ true → end ≡ None
no_end None h = refl
no_end (Some end) h = absurd cc

no_test : (b : Bool) → not b ≡ true → b ≡ false
no_test true h = absurd cc
no_test false h = refl

endless : (n : ℕ) (line : Line) → line.end ≡ None → years_over n line.end ≡ n
unfolding years_over
endless n line none = ap (years_over n) none

pub last_sound : (front : List Line) (last : Line) → All (IsSoundOver 300) (front ++ (last ∷ [])) → IsSoundOver 300 last
last_sound front last all = last_all (IsSoundOver 300) front last all

pub ready_of : (front : List Line) (last : Line) → All (IsSoundOver 300) (front ++ (last ∷ [])) → has_settled_lines front last ≡ true
    → IsReady front last
ready_of front last all settled =
    let stays = and_parts _ (not (some_leaves last.rules)) settled in
    let rules = and_parts _ (are_settled last.rules) stays.0 in
    let info = and_parts _ (is_none last.info.end_time) rules.0 in
    let ends = and_parts (list_all (λ (line : Line). ends_by_then line.end) front) (is_none last.end) info.0 in
    let none = no_end last.end ends.1 in
    let here = last_sound front last all in
    let begun = subst (λ n. IsSound n last) (endless 300 last none) here in
    let last_is : IsSound 700 last =
    record { bounded = begun.bounded; year = begun.year; years = begun.years; end = begun.end; days = no_test (some_leaves last.rules) stays.1 } in
    record {
      lines = later_lines front last ends.0 all (subst (λ n. IsSound n last) (sym (endless 700 last none)) last_is);
      begun = begun;
      cycle = last_is;
      end = none;
    }

-- ---- the last line's start
pub start_is : (line : Line) (lines : List Line) (start : Option ℤ) → start_after start (lines ++ (line ∷ [])) ≡ next_start_over 300 line
unfolding start_after
start_is line [] start = refl
start_is line (l ∷ ls) start = start_is line ls (next_start_over 300 l)

-- ---- firings
pub none_fired : (offset : ℤ) (end : Option ChangeTime) (rules : List RuleInfo) (fired : List Firing) → fired ≡ []
    → StandsFor None fired (firings_of_years offset end rules 0).0
unfolding firings_of_years
none_fired offset end rules fired none =
    subst (λ (fs : List Firing). StandsFor None fs []) (sym none) (record { lists = λ more. refl; starts = λ line more. refl })

pub no_saving : (offset : ℤ) (end : Option ChangeTime) (rules : List RuleInfo) → pos 0 ≡ (firings_of_years offset end rules 0).1
unfolding firings_of_years
no_saving offset end rules = refl

same_firings : (fired due : List Firing) → StandsFor None fired due → fired ≡ due
same_firings fired due stands = sym (append-nil fired) ∙ stands.lists [] ∙ append-nil due

pub cut_of : (line : Line) (first all : List Firing) → line.end ≡ None
    → StandsFor None first (firings_of_years line.info.offset line.end line.rules 300).0
    → StandsFor None all (firings_of_years line.info.offset line.end line.rules 700).0 → IsCut line (length first) all
cut_of line first all none first_stands all_stands =
    let later = later_fired line 300 400 in
    let over = λ (n : ℕ) (end : Option ChangeTime). (firings_of_years line.info.offset end line.rules n).0 in
    let begun : first ≡ (first_fired line 300).0 = same_firings first _ first_stands ∙ ap (over 300) none in
    let whole : all ≡ first ++ later =
    same_firings all _ all_stands ∙ ap (over 700) none ∙ ap (λ f. f.0) (firings_of_years-split 300 400 line.info.offset line.rules)
    ∙ ap (λ (fs : List Firing). fs ++ later) (sym begun) in
    let long : length all ≡ length first + length later = ap length whole ∙ length-append first later in
    record {
      most = omega (arith, long);
      before = ap (take (length first)) whole ∙ take-append_seam first later ∙ begun;
      later = ap (drop (length first)) whole ∙ drop-append_seam first later;
    }

-- ---- times that don't fall
two_from : (es : List Entry) (i : ℕ) (x y : Entry) → i + 1 < length es → x ≡ get_or es i x → y ≡ get_or es (i + 1) y
    → drop i es ≡ x ∷ y ∷ drop (i + 1 + 1) es
two_from es i x y l x_is y_is = from_here es i x (omega (arith, l)) x_is ∙ ap (λ fs. x ∷ fs) (from_here es (i + 1) y l y_is)

pub falls_here : (es : List Entry) (i : ℕ) (x y : Entry) → i + 1 < length es → x ≡ get_or es i x → y ≡ get_or es (i + 1) y
    → dont_fall (drop i es) ≡ dont_fall es → is_sooner y x ≡ true → false ≡ dont_fall es
unfolding dont_fall
falls_here es i x y l x_is y_is before sooner =
    sym (sym before ∙ ap dont_fall (two_from es i x y l x_is y_is) ∙ ap (λ b. not b && dont_fall (y ∷ drop (i + 1 + 1) es)) sooner)

pub rises_here : (es : List Entry) (i : ℕ) (x y : Entry) → i + 1 < length es → x ≡ get_or es i x → y ≡ get_or es (i + 1) y
    → dont_fall (drop i es) ≡ dont_fall es → is_sooner y x ≡ false → dont_fall (drop (i + 1) es) ≡ dont_fall es
unfolding dont_fall
rises_here es i x y l x_is y_is before sooner =
    ap dont_fall (from_here es (i + 1) y l y_is) ∙ ap (λ b. not b && dont_fall (y ∷ drop (i + 1 + 1) es)) (sym sooner)
    ∙ ap dont_fall (sym (two_from es i x y l x_is y_is)) ∙ before

pub short_rises : (es : List Entry) → length es ≤ 1 → dont_fall es ≡ true
unfolding dont_fall
short_rises [] l = refl
short_rises (e ∷ []) l = refl
short_rises (e ∷ g ∷ es) l = absurd (omega (arith, l))

-- ---- the two latest
pub two_of : (xs : List Entry) (m l : Entry) → 2 ≤ length xs → m ≡ get_or xs (length xs - 2) m → l ≡ get_or xs (length xs - 1) l
    → reverse xs ≡ l ∷ m ∷ reverse (take (length xs - 2) xs)
two_of xs m l two m_is l_is =
    ap reverse (sym (take_all (length xs) xs (omega arith)))
    ∙ two_latest xs (length xs) (length xs - 1) (length xs - 2) m (omega arith) (omega arith) (omega arith)
    ∙ (λ t. read_at xs (length xs - 1) l m (omega arith) l_is t ∷ read_at xs (length xs - 2) m m (omega arith) m_is t ∷ reverse (take (length xs - 2) xs))

pub later_short : (xs ys : List Entry) → length xs < 2 → are_cycle_later (reverse xs) ys ≡ false
later_short [] ys l = refl
later_short (x ∷ []) ys l = refl
later_short (x ∷ y ∷ xs) ys l = absurd (omega (arith, l))

none_later : (xs : List Entry) → are_cycle_later xs [] ≡ false
none_later [] = refl
none_later (x ∷ []) = refl
none_later (x ∷ y ∷ xs) = refl

one_later : (xs : List Entry) (e : Entry) → are_cycle_later xs (e ∷ []) ≡ false
one_later [] e = refl
one_later (x ∷ []) e = refl
one_later (x ∷ y ∷ xs) e = refl

pub kept_short : (xs ys : List Entry) → length ys < 2 → are_cycle_later xs (reverse ys) ≡ false
kept_short xs [] l = none_later xs
kept_short xs (y ∷ []) l = one_later xs y
kept_short xs (y ∷ z ∷ ys) l = absurd (omega (arith, l))

pub later_is : (there here : List Entry) (m l j k : Entry) → 2 ≤ length there → 2 ≤ length here
    → m ≡ get_or there (length there - 2) m → l ≡ get_or there (length there - 1) l
    → j ≡ get_or here (length here - 2) j → k ≡ get_or here (length here - 1) k
    → is_cycle_later l k && is_cycle_later m j ≡ are_cycle_later (reverse there) (reverse here)
later_is there here m l j k more most m_is l_is j_is k_is =
    λ t. are_cycle_later (sym (two_of there m l more m_is l_is) t) (sym (two_of here j k most j_is k_is) t)

-- ---- the order of the cycle
pub no_order : (start : Option ℤ) (before cycle : List Entry) → length cycle < 1 → false ≡ is_in_order start before cycle
unfolding is_in_order
no_order start before [] l = refl
no_order start before (e ∷ es) l = absurd (omega (arith, l))

pub order_is : (start : Option ℤ) (before cycle : List Entry) (first : Entry) (a b c d : Bool) → 1 ≤ length cycle → first ≡ get_or cycle 0 first
    → a ≡ dont_fall cycle → b ≡ list_all (λ e. not (int_lt (seconds_on first.0) e.0)) cycle → c ≡ option_map_or (λ s. int_lt s first.0) start true
    → d ≡ list_all (λ e. not (int_lt first.0 e.0)) before → (a && b && c && d) ≡ is_in_order start before cycle
unfolding is_in_order
order_is start before [] first a b c d some is a_is b_is c_is d_is = absurd (omega (arith, some))
order_is start before (e ∷ es) first a b c d some is a_is b_is c_is d_is =
    (λ i. a_is i && b_is i && c_is i && d_is i)
    ∙ ap (λ (f : Entry). dont_fall (e ∷ es) && list_all (λ g. not (int_lt (seconds_on f.0) g.0)) (e ∷ es)
    && option_map_or (λ s. int_lt s f.0) start true && list_all (λ g. not (int_lt f.0 g.0)) before) is

-- ---- what is kept
pub kept_is : (n : ℕ) (lines : List Line) (raw es : List Entry) → raw ≡ raw_entries_over n lines
    → es ≡ reverse (kept_of [] (stable_sort is_sooner raw)) → reverse es ≡ kept_over n lines
unfolding sorted_entries_over
kept_is n lines raw es raw_is is =
    ap reverse is ∙ reverse-reverse (kept_of [] (stable_sort is_sooner raw)) ∙ ap (λ xs. kept_of [] (stable_sort is_sooner xs)) raw_is

pub bounded_cycle : (line : Line) (es before : List Entry) (fired part : List Firing) (count : ℕ) → before ≡ [] → part ≡ fired
    → es ≡ before ++ map (entry_of line) (take (length part - count) (drop count part)) → IsTrue (are_small_seconds line.info.offset)
    → IsTrue (list_all is_bounded_firing fired) → IsTrue (list_all is_bounded_entry es)
bounded_cycle line es before fired part count none same is offset bounded =
    let long = length-drop count part in
    let whole = take_all (length part - count) (drop count part) (omega (arith, long)) ∙ ap (drop count) same in
    subst (λ xs. IsTrue (list_all is_bounded_entry xs)) (sym (is ∙ (λ i. none i ++ map (entry_of line) (whole i))))
    (bounded_map line (drop count fired) offset (list_all-from_AllPass is_bounded_firing (drop count fired)
    (All-drop (λ f. is_bounded_firing f ≡ true) count fired (AllPass-from_list_all is_bounded_firing fired bounded))))

pub goes_on-is : (front : List Line) (last : Line) → goes_on (front ++ (last ∷ [])) ≡ last_goes_on front last
unfolding goes_on
goes_on-is front last =
    let parts = parts_of front last in (λ i. option_map_or (last_goes_on (parts.0 i)) (parts.1 i) false)

pub none_goes_on : (lines : List Line) → length lines ≡ 0 → false ≡ goes_on lines
unfolding goes_on last_of
none_goes_on [] none = refl
none_goes_on (line ∷ lines) none = absurd cc

pub no_start : (lines : List Line) → length lines ≡ 0 → None ≡ start_after None lines
unfolding start_after
no_start [] none = refl
no_start (line ∷ lines) none = absurd cc
