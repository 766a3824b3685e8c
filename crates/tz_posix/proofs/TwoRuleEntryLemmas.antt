-- The entries of a line of two yearly rules: each firing has one, and neither sorting nor the collapse changes them.
use Rattle.std.proofs.{Common.{◌≡◌, ℕ, zero, suc, ◌<◌, ◌≤◌, Bool, true, false, cond, ◌&&◌, List, [], ◌∷◌, ◌++◌, map, reverse, Some, None, ℤ, ◌+ℤ◌, ◌-ℤ◌, ◌<ℤ◌, ◌≤ℤ◌, int_le, refl, sym, ap, ◌∙◌, subst, arith, append-nil}, lemmas.Int.{ints}}
use Rattle.std.proofs.lemmas.List.{reverse-append, map-append}
use Rattle.basics.specs.{ComparisonLaws.{lt_fail}, Sorted.{put_in, stable_sort}}
use Rattle.zone_table.specs.declared.rule.RuleInfo.{RuleInfo}
use Rattle.zone_spans.specs.Collapse.{is_same_span, is_no_later, kept_with, kept_of, EntryTimesDontFall}
use Rattle.zone_spans.specs.{Entries.{Entry, entry_of, entries_of, entries_of_over, entries_from_over, fixed_span, at_start, is_sooner, raw_entries, sorted_entries, sorted_entries_over, start_entry}, Firings.{Firing, firings}, Lines.{Line}}
use Rattle.zone_spans.specs.Listing.{listed_firings}
use Rattle.tz_posix.{specs.TwoRules.{HasTwoRules, AreInTurn, first_at, second_at, year_from, written}, proofs.TwoRuleFiringLemmas.{latest, two_rules_fire, wall_moment}}

pub map-reverse : (line : Line) (fs : List Firing) → map (entry_of line) (reverse fs) ≡ reverse (map (entry_of line) fs)
map-reverse line [] = refl
map-reverse line (x ∷ fs) =
    ap (map (entry_of line)) (reverse-append (x ∷ []) fs)
    ∙ map-append (entry_of line) (reverse fs) (x ∷ [])
    ∙ ap (λ (es : List Entry). es ++ entry_of line x ∷ []) (map-reverse line fs)
    ∙ sym (reverse-append (entry_of line x ∷ []) (map (entry_of line) fs))

-- ---- sorting

-- entries whose times don't fall stay as they are
sorted_stays : (es : List Entry) → EntryTimesDontFall es → stable_sort is_sooner es ≡ es
sorted_stays [] r = refl
sorted_stays (e ∷ []) r = refl
sorted_stays (e ∷ a ∷ es) r =
    ap (put_in is_sooner e) (sorted_stays (a ∷ es) r.1)
    ∙ ap (λ b. cond b (a ∷ put_in is_sooner e es) (e ∷ a ∷ es)) (lt_fail a.0 e.0 r.0)

-- the same of entries with the latest first
abbrev TimesFall : List Entry → Type 0
TimesFall [] = Unit {0}
TimesFall (b ∷ []) = Unit {0}
TimesFall (b ∷ a ∷ es) = (a.0 ≤ℤ b.0) × TimesFall (a ∷ es)

one_later : (es : List Entry) (a b : Entry) → EntryTimesDontFall (es ++ a ∷ []) → a.0 ≤ℤ b.0 → EntryTimesDontFall ((es ++ a ∷ []) ++ b ∷ [])
one_later [] a b r h = (h, tt)
one_later (x ∷ []) a b r h = (r.0, (h, tt))
one_later (x ∷ y ∷ es) a b r h = (r.0, one_later (y ∷ es) a b r.1 h)

rise_reversed : (es : List Entry) → TimesFall es → EntryTimesDontFall (reverse es)
rise_reversed [] f = tt
rise_reversed (b ∷ []) f = tt
rise_reversed (b ∷ a ∷ es) f =
    let before : reverse (a ∷ es) ≡ reverse es ++ a ∷ [] = reverse-append (a ∷ []) es in
    let rises = subst EntryTimesDontFall before (rise_reversed (a ∷ es) f.1) in
    let all : reverse (b ∷ a ∷ es) ≡ (reverse es ++ a ∷ []) ++ b ∷ [] =
    reverse-append (b ∷ []) (a ∷ es) ∙ ap (λ (xs : List Entry). xs ++ b ∷ []) before in
    subst EntryTimesDontFall (sym all) (one_later (reverse es) a b rises f.0)

-- ---- the collapse

kept_of-append : (xs ks ys : List Entry) → kept_of ks (xs ++ ys) ≡ kept_of (kept_of ks xs) ys
unfolding kept_of
kept_of-append [] ks ys = refl
kept_of-append (x ∷ xs) ks ys = kept_of-append xs (kept_with ks x) ys

-- an entry that is later than the local end before it, and says something else, is kept
keeps_two : (e k j : Entry) (ks : List Entry) → is_no_later e k j ≡ false → is_same_span e.1 k.1 ≡ false
    → kept_with (k ∷ j ∷ ks) e ≡ e ∷ k ∷ j ∷ ks
unfolding kept_with
keeps_two e k j ks late other = λ i. cond (late i) ((k.0, e.1) ∷ j ∷ ks) (cond (other i) (k ∷ j ∷ ks) (e ∷ k ∷ j ∷ ks))

other_saving : (a b c : Bool) → b ≡ false → (a && b && c) ≡ false
other_saving true b c h = ap (λ x. x && c) h
other_saving false b c h = refl

-- with the savings cancelled, an entry is later than the local end before it where what its rule writes is later
later : (a b o s t x y : ℤ) → x ≡ a -ℤ (o +ℤ t) → y ≡ b -ℤ (o +ℤ s) → a <ℤ b → int_le (y +ℤ (o +ℤ s)) (x +ℤ (o +ℤ t)) ≡ false
later a b o s t x y e f h = grind (arith, ints)

module _ (line : Line) (f g : RuleInfo) (m : ℕ) where
  abbrev pub first_entry : ℕ → Entry
  first_entry i = entry_of line (first_at line.info.offset f g m i)

  abbrev pub second_entry : ℕ → Entry
  second_entry i = entry_of line (second_at line.info.offset f g m i)

  -- the entries of the first k years from 1800 + m on, the latest first
  abbrev pub entries : ℕ → List Entry
  entries k = map (entry_of line) (latest line.info.offset f g m k)

module _ (line : Line) (f g : RuleInfo) (m n : ℕ) (has : HasTwoRules line f g m n) (turns : AreInTurn line.info.offset f g m n) where
  abbrev offset : ℤ
  offset = line.info.offset

  second_differs : (i : ℕ) → is_same_span (second_entry line f g m i).1 (first_entry line f g m i).1 ≡ false
  second_differs i = other_saving _ _ _ turns.g_differs

  first_differs : (i j : ℕ) → is_same_span (first_entry line f g m j).1 (second_entry line f g m i).1 ≡ false
  first_differs i j = other_saving _ _ _ turns.f_differs

  second_late : (i : ℕ) → suc i < n
      → is_no_later (second_entry line f g m (suc i)) (first_entry line f g m (suc i)) (second_entry line f g m i) ≡ false
  second_late i l =
      later (written f (year_from m (suc i))) (written g (year_from m (suc i))) offset f.time_to_add g.time_to_add _ _
      (wall_moment f _ offset g.time_to_add has.f_wall) (wall_moment g _ offset f.time_to_add has.g_wall)
      (turns.order (suc i) l)

  first_late : (i : ℕ) → suc i < n → is_no_later (first_entry line f g m (suc i)) (second_entry line f g m i) (first_entry line f g m i) ≡ false
  first_late i l =
      later (written g (year_from m i)) (written f (year_from m (suc i))) offset g.time_to_add f.time_to_add _ _
      (wall_moment g _ offset f.time_to_add has.g_wall) (wall_moment f _ offset g.time_to_add has.f_wall)
      (turns.next i l)

  keeps_each : (k : ℕ) → k ≤ n → kept_of [] (reverse (entries line f g m k)) ≡ entries line f g m k
  unfolding kept_of kept_with
  keeps_each zero l = refl
  keeps_each (suc zero) l =
      ap (λ b. cond b (first_entry line f g m 0 ∷ []) (second_entry line f g m 0 ∷ first_entry line f g m 0 ∷ [])) (second_differs 0)
  keeps_each (suc (suc i)) l =
      let before = entries line f g m (suc i) in
      let first = first_entry line f g m (suc i) in
      let second = second_entry line f g m (suc i) in
      ap (kept_of []) (reverse-append (second ∷ first ∷ []) before)
      ∙ kept_of-append (reverse before) [] (first ∷ second ∷ [])
      ∙ ap (λ ks. kept_with (kept_with ks first) second) (keeps_each (suc i) (omega arith))
      ∙ ap (λ ks. kept_with ks second)
      (keeps_two first (second_entry line f g m i) (first_entry line f g m i) (entries line f g m i) (first_late i (omega arith)) (first_differs i (suc i)))
      ∙ keeps_two second first (second_entry line f g m i) (first_entry line f g m i ∷ entries line f g m i)
      (second_late i (omega arith)) (second_differs (suc i))

  times_fall : (k : ℕ) → k ≤ n → TimesFall (entries line f g m k)
  times_fall zero l = tt
  times_fall (suc zero) l = (turns.rise 0 (omega arith), tt)
  times_fall (suc (suc i)) l =
      (turns.rise (suc i) (omega arith), (turns.rise_next i (omega arith), times_fall (suc i) (omega arith)))

  raw_is : raw_entries (line ∷ []) ≡ map (entry_of line) (reverse (latest offset f g m n))
  unfolding entries_from_over entries_of_over
  raw_is =
      append-nil (entries_of line None)
      ∙ ap (λ b. cond b (map (entry_of line) (listed_firings None (firings line)) ++ start_entry line None (firings line)) (at_start None (Some (fixed_span line)))) has.ruled
      ∙ append-nil (map (entry_of line) (firings line))
      ∙ ap (map (entry_of line)) (two_rules_fire line f g m n has turns)

  pub raw_is_entries : raw_entries (line ∷ []) ≡ reverse (entries line f g m n)
  raw_is_entries = raw_is ∙ map-reverse line (latest offset f g m n)

  -- the entries are those of the firings, in order
  pub sorted_is : sorted_entries (line ∷ []) ≡ reverse (entries line f g m n)
  unfolding sorted_entries_over
  sorted_is =
      ap (stable_sort is_sooner) raw_is_entries
      ∙ sorted_stays (reverse (entries line f g m n)) (rise_reversed (entries line f g m n) (times_fall n (omega arith)))

  -- and the collapse keeps each
  pub all_kept : kept_of [] (reverse (entries line f g m n)) ≡ entries line f g m n
  all_kept = keeps_each n (omega arith)
