-- A set's file is refused neither for an offset nor for the footer.
use Rattle.std.proofs.{Common.{◌≡◌, ◌≢◌, ℕ, ℤ, pos, negsuc, Bool, true, false, cond, nat_le, length, List, [], ◌∷◌, ◌++◌, map, Some, None, refl, ◌∙◌, arith}, lemmas.Bool.{and_from, and_parts}, lemmas.Bool.Decides.{nat_tests}}
use Rattle.std.proofs.lemmas.List.Folds.{list_all-append}
use Rattle.std.specs.List.{list_all, list_any}
use Rattle.civil_base.specs.Ranges.{is_offset}
use Rattle.zone_spans.specs.Entries.{Entry, total}
use Rattle.tz_lookup.specs.{Sets.{IsAccepted, schedule_of, shift_of}, declared.set.FixedTimespanSet.{FixedTimespanSet}}
use Rattle.zone_tail.specs.{Found.{found_text}, Tails.{tail_fault}}
use Rattle.zone_tzif_core.specs.{Format.{is_one_line}, Tzif.{added, are_names, are_times, each_once, first_fault, is_same, kinds_of, names_of, write_fault}, Zones.{KindValue, ZoneValue, is_small}}
use Rattle.zone_tzif_core.specs.declared.values.WriteFault.TheVariants as write
use Rattle.zone_tzif.specs.{Files.{consistent_footer, consistent_zone, file_fault, footer_of}, Values.{change_by, kind_by, value_by}, declared.convert.Saves.{Saves}, declared.convert.Saves.TheVariants.{Above}}
use Rattle.zone_tzif.proofs.{FooterLemmas.{consistent_clean, footer_clean}, TotalLemmas.{entries_small}}

-- what holds of all holds of each once
all_once : {A : Type 0} (test : A → Bool) (same : A → A → Bool) (items rest : List A) → list_all test items ≡ true → list_all test rest ≡ true
    → list_all test (each_once same items rest) ≡ true
all_once test same items [] before after = before
all_once test same items (x ∷ rest) before after =
    let parts = and_parts (test x) (list_all test rest) after in
    all_once test same (added same items x) rest (by_test (list_any (same x) items) parts.0) parts.1
  where
    by_test : (t : Bool) → test x ≡ true → list_all test (cond t items (items ++ x ∷ [])) ≡ true
    by_test true here = before
    by_test false here = list_all-append test items (x ∷ []) ∙ and_from _ _ before (and_from _ _ here refl)

small : (x : ℤ) → is_offset x ≡ true → is_small x ≡ true
small (pos n) is = grind (arith, nat_tests, is)
small (negsuc n) is = grind (arith, nat_tests, is)

abbrev has_small : KindValue → Bool
has_small kind = is_small kind.utoff

changes_small : (saves : Saves) (entries : List Entry) → list_all (λ (entry : Entry). is_offset (total entry.1)) entries ≡ true
    → list_all has_small (map (λ (shift : ℤ × KindValue). shift.1) (map (change_by saves) entries)) ≡ true
changes_small saves [] all = refl
changes_small saves (entry ∷ entries) all =
    let parts = and_parts (is_offset (total entry.1)) (list_all (λ (entry : Entry). is_offset (total entry.1)) entries) all in
    and_from _ _ (small (total entry.1) parts.0) (changes_small saves entries parts.1)

kinds_small : (saves : Saves) (set : FixedTimespanSet) (footer : List ℕ) → IsAccepted (schedule_of set)
    → list_all has_small (kinds_of (value_by saves set footer)) ≡ true
unfolding kinds_of value_by
kinds_small saves set footer accepted =
    let parts = and_parts (is_offset (total set.first)) (list_all (λ (shift : ℤ × ℤ). is_offset shift.1) (map shift_of set.others)) accepted.range in
    all_once has_small is_same [] (kind_by saves set.first ∷ map (λ (shift : ℤ × KindValue). shift.1) (map (change_by saves) set.others)) refl
    (and_from _ _ (small (total set.first) parts.0) (changes_small saves set.others (entries_small set.others parts.1)))

-- the last two tests hold
abbrev pub IsNeither : ZoneValue → Type 0
IsNeither zone = (write_fault zone ≢ Some write.Offset) × (write_fault zone ≢ Some write.Footer)

neither : (zone : ZoneValue) → list_all has_small (kinds_of zone) ≡ true → is_one_line zone.footer ≡ true → IsNeither zone
unfolding write_fault
neither zone offsets footer =
    rw (offsets, footer) (by_tests (are_times zone.rest) (nat_le (length (kinds_of zone)) 256) (are_names (names_of (kinds_of zone))))
  where
    by_tests : (a b c : Bool) → (first_fault a b c true true ≢ Some write.Offset) × (first_fault a b c true true ≢ Some write.Footer)
    by_tests true true true = (λ e. absurd (cc), λ e. absurd (cc))
    by_tests true true false = (λ e. absurd (cc), λ e. absurd (cc))
    by_tests true false c = (λ e. absurd (cc), λ e. absurd (cc))
    by_tests false b c = (λ e. absurd (cc), λ e. absurd (cc))

pub never_by : (saves : Saves) (set : FixedTimespanSet) (footer : List ℕ) → IsAccepted (schedule_of set) → is_one_line footer ≡ true
    → IsNeither (value_by saves set footer)
unfolding value_by
never_by saves set footer accepted clean = neither (value_by saves set footer) (kinds_small saves set footer accepted) clean

pub never : (set : FixedTimespanSet) → IsAccepted (schedule_of set) → (tail_fault set ≡ None → is_one_line (found_text set) ≡ true)
    → (file_fault set ≢ Some write.Offset) × (file_fault set ≢ Some write.Footer)
never set accepted clean = never_by Above set (footer_of set) accepted (footer_clean set clean)

pub never_consistent : (set : FixedTimespanSet) → IsAccepted (schedule_of set) → (tail_fault set ≡ None → is_one_line (found_text set) ≡ true)
    → IsNeither (consistent_zone set)
never_consistent set accepted clean = never_by Above set (consistent_footer set) accepted (consistent_clean set clean)
