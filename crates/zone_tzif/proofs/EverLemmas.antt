-- The file of a zone for ever shows what the zone does.
use Rattle.std.proofs.{Common.{◌≡◌, ℕ, zero, suc, ◌<◌, Bool, true, false, cond, ◌&&◌, List, [], ◌∷◌, length, map, filter, Option, Some, None, Result, Ok, Err, IfOk, ℤ, pos, ◌*ℤ◌, ◌≤ℤ◌, ◌<ℤ◌, int_le, inl, inr, refl, sym, ap, subst, ◌∙◌, arith}, lemmas.Bool.{and_parts}}
use Rattle.std.proofs.lemmas.Int.{ints}
use Rattle.std.specs.{List.{list_all}, Prelude.{MatchResult}}
use Rattle.basics.specs.ComparisonLaws.{le_pass, le_fail, le_from_pass, le_from_fail, lt_pass}
use Rattle.civil_base.specs.Instants.{seconds_of}
use Rattle.zone_spans.specs.Entries.{Entry}
use Rattle.tz_ever.specs.{Seam.{next_seam}, SeamLaws.{back_is}}
use Rattle.tz_tzif.specs.{FooterLaws.{no_text}, FooterForce.{FooterZone, held_at}, Spells.{SpellsFooter}, Standing.{stands_for}, Values.{FooterValue}, Faults.{SaysInFooter}, InForce.{are_over, changed_kind, kind_at, kind_in}}
use Rattle.tz_lookup.specs.{SecondLaws.{same_test}, Sets.{shift_of, shifts_of}, Spans.{shift_at}, declared.set.FixedTimespanSet.{FixedTimespanSet}}
use Rattle.zone_tzif.specs.{Agreement.{IsCovered, cycle_begin, ever_kind}, Tails.{IsTailForEver, beginning_of}, Tells.{Tells}, EverFiles.{entries_until, ever_zone, until, version_for, IsEverFile, IsFooterFor, IsInReach, IsNoEverFile}, Files.{IsFileFault}, Walked.{come}}
use Rattle.zone_tzif.specs.{Values.{change_by, kind_by, value_by}, declared.convert.Saves.TheVariants.{Any}, declared.file.FileFault.{FileFault}}
use Rattle.zone_tzif.proofs.{KindLemmas.{ever_is}, LineLemmas.{tried_clean}}
use Rattle.zone_tzif_core.specs.{Format.{is_one_line}, Totals.{last_kind}, Tzif.{IsTzifBy, write_fault}, Zones.{KindValue, ZoneValue}, declared.values.Version.{Version}}

abbrev pub up_to : ℤ → List Entry → List Entry
up_to second es = filter (λ (e : Entry). int_le e.0 second) es

abbrev have_come : ℤ → List Entry → Bool
have_come s es = list_all (λ (change : ℤ × KindValue). int_le change.0 s) (map (change_by Any) es)

-- an entry up to a second has come, where all these have
begun_at : (es : List Entry) (second s : ℤ) (i : ℕ) → i < length (map shift_of es) → (shift_at (map shift_of es) i).0 ≤ℤ second
    → have_come s (up_to second es) ≡ true → (shift_at (map shift_of es) i).0 ≤ℤ s
begun_at [] second s i l at all = absurd (omega (arith, l))
begun_at (e ∷ es) second s zero l at all =
    let here : have_come s (e ∷ up_to second es) ≡ true =
    subst (λ b. have_come s (cond b (e ∷ up_to second es) (up_to second es)) ≡ true) (le_pass e.0 second at) all in
    le_from_pass e.0 s (and_parts (int_le e.0 s) _ here).0
begun_at (e ∷ es) second s (suc i) l at all = begun_at es second s i (omega (arith, l)) at (by_test (int_le e.0 second) all)
  where
    by_test : (b : Bool) → have_come s (cond b (e ∷ up_to second es) (up_to second es)) ≡ true → have_come s (up_to second es) ≡ true
    by_test true h = (and_parts (int_le e.0 s) _ h).1
    by_test false h = h

-- where not all have, the second isn't over
not_over : (es : List Entry) (second s : ℤ) → have_come s (up_to second es) ≡ false → s <ℤ second
not_over [] second s none = absurd cc
not_over (e ∷ es) second s none = by_test (not_over es second s) (int_le e.0 second) refl none
  where
    by_second : (have_come s (up_to second es) ≡ false → s <ℤ second) → (b : Bool) → int_le e.0 s ≡ b → e.0 ≤ℤ second
        → (b && have_come s (up_to second es)) ≡ false → s <ℤ second
    by_second rest true is l h = rest h
    by_second rest false is l h =
        let late : s <ℤ e.0 = le_from_fail e.0 s is in
        omega (arith, ints, late, l)

    by_test : (have_come s (up_to second es) ≡ false → s <ℤ second) → (b : Bool) → int_le e.0 second ≡ b
        → have_come s (cond b (e ∷ up_to second es) (up_to second es)) ≡ false → s <ℤ second
    by_test rest true is h = by_second rest (int_le e.0 s) refl (le_from_pass e.0 second is) h
    by_test rest false is h = rest h

-- up to a second before that one the entries after it say nothing
front_come : (es : List Entry) (second s : ℤ) → s <ℤ second → come s (up_to second es) ≡ come s es
front_come [] second s h = refl
front_come (e ∷ es) second s h = by_test (front_come es second s h) (int_le e.0 second) refl
  where
    with : List (ℤ × KindValue) → List (ℤ × KindValue)
    with changes = cond (int_le e.0 s) (change_by Any e ∷ changes) changes

    by_test : come s (up_to second es) ≡ come s es → (b : Bool) → int_le e.0 second ≡ b
        → come s (cond b (e ∷ up_to second es) (up_to second es)) ≡ with (come s es)
    by_test rest true is = ap with rest
    by_test rest false is =
        let late : second <ℤ e.0 = le_from_fail e.0 second is in
        rest ∙ sym (ap (λ b. cond b (change_by Any e ∷ come s es) (come s es)) (le_fail e.0 s (omega (arith, ints, h, late))))

-- before then the changes up to then say what the set shows for ever
pub early_is : (set : FixedTimespanSet) (t : ℤ) → seconds_of t <ℤ cycle_begin
    → last_kind (kind_by Any set.first) (come (seconds_of t) (up_to cycle_begin set.others)) ≡ ever_kind set t
early_is set t early =
    let s = seconds_of t in
    let h : t <ℤ (cycle_begin *ℤ pos 1000000000) = le_from_fail _ _ (same_test cycle_begin t ∙ le_fail cycle_begin s early) in
    let here : t <ℤ next_seam = omega (arith, ints, h) in
    ap (last_kind (kind_by Any set.first)) (front_come set.others cycle_begin s early)
    ∙ sym (ever_is set t s (ap seconds_of (back_is t (lt_pass t next_seam here))))

-- where a change up to then is to come
before_last : (set : FixedTimespanSet) (text : List ℕ) (footer : FooterZone) (t : ℤ) → are_over (ever_zone set text).rest (seconds_of t) ≡ false
    → kind_at (ever_zone set text) (Some footer) t ≡ ever_kind set t
unfolding value_by entries_until kind_at kind_in
before_last set text footer t over =
    let s = seconds_of t in
    ap (λ b. cond b (held_at footer s) (last_kind (kind_by Any set.first) (come s (up_to cycle_begin set.others)))) over
    ∙ early_is set t (not_over set.others cycle_begin s over)

-- where all have come the footer has begun
from_begun : (set : FixedTimespanSet) (text : List ℕ) (s : ℤ) (i : ℕ) → i < length (shifts_of set)
    → (shift_at (shifts_of set) i).0 ≤ℤ cycle_begin → are_over (ever_zone set text).rest s ≡ true → (shift_at (shifts_of set) i).0 ≤ℤ s
unfolding value_by entries_until
from_begun set text s i l last over = begun_at set.others cycle_begin s i l last over

pub footer_of : (set : FixedTimespanSet) (text : List ℕ) → (ever_zone set text).footer ≡ text
unfolding value_by
footer_of set text = refl

-- by its changes, and by its footer from the last one on
from_last : (zone : ZoneValue) (footer : FooterZone) (t : ℤ) → are_over zone.rest (seconds_of t) ≡ true
    → kind_at zone (Some footer) t ≡ held_at footer (seconds_of t)
unfolding kind_at kind_in
from_last zone footer t over = ap (λ b. cond b (held_at footer (seconds_of t)) (changed_kind zone (seconds_of t))) over

begun : (set : FixedTimespanSet) (from : Option ℤ) (text : List ℕ) (footer : FooterZone) (t : ℤ) → Tells footer set (beginning_of from)
    → IsCovered footer None t → are_over (ever_zone set text).rest (seconds_of t) ≡ true
    → kind_at (ever_zone set text) (Some footer) t ≡ ever_kind set t
begun set None text footer t tells reach over = from_last (ever_zone set text) footer t over ∙ tells.agrees t reach
begun set (Some second) text footer t tells reach over =
    let may = tells.0.may in
    let here = from_begun set text (seconds_of t) tells.0.entry may.within may.last over in
    from_last (ever_zone set text) footer t over
    ∙ tells.0.agrees t (record { begun = subst (λ x. x ≤ℤ seconds_of t) (sym tells.0.at) here; not_over = reach.not_over })

by_tail : (set : FixedTimespanSet) (from : Option ℤ) (text : List ℕ) (footer : FooterZone) (t : ℤ) → Tells footer set (beginning_of from)
    → IsCovered footer None t → kind_at (ever_zone set text) (Some footer) t ≡ ever_kind set t
by_tail set from text footer t tells reach = by_over (are_over (ever_zone set text).rest (seconds_of t)) refl
  where
    by_over : (b : Bool) → are_over (ever_zone set text).rest (seconds_of t) ≡ b
        → kind_at (ever_zone set text) (Some footer) t ≡ ever_kind set t
    by_over false over = before_last set text footer t over
    by_over true over = begun set from text footer t tells reach over

pub shows : (set : FixedTimespanSet) (from : Option ℤ) (text : List ℕ) (footer : Option FooterZone) (t : ℤ)
    → ((x y : FooterValue) → SpellsFooter text x → SpellsFooter text y → x ≡ y)
    → IsTailForEver set from text → SaysInFooter (ever_zone set text).footer footer → IsInReach footer t
    → kind_at (ever_zone set text) footer t ≡ ever_kind set t
shows set from text None t one tail says reach = absurd (no_text tail.carries.stands (sym (footer_of set text) ∙ says))
shows set from text (Some footer) t one tail says reach =
    let there = subst (λ x. SaysInFooter x (Some footer)) (footer_of set text) says in
    let same : tail.carries.zone ≡ footer =
    sym tail.carries.stands.stands ∙ ap stands_for (one tail.carries.stands.value there.value tail.carries.stands.is.spelled there.is.spelled) ∙ there.stands in
    by_tail set from text footer t (subst (λ z. Tells z set (beginning_of from)) same tail.carries.tells) reach

-- what is said of each file of a set is said of the file that is told
pub told_by : {V F : Type 0} (bytes : V → List ℕ) (Says : List ℕ → Type 0) (Fault : F → Type 0) (set : FixedTimespanSet) (result : Result V F)
    → ((file : List ℕ) → IsEverFile set file → Says file) → MatchResult result (λ file. IsEverFile set (bytes file)) Fault
    → IfOk result (λ file. Says (bytes file))
told_by bytes Says Fault set (Ok file) each told = each (bytes file) told
told_by bytes Says Fault set (Err fault) each told = tt

-- ---- what is written

-- the footer is one line
pub clean_tail : (set : FixedTimespanSet) (from : Option ℤ) (text : List ℕ) → IsTailForEver set from text → is_one_line text ≡ true
clean_tail set from text tail = subst (λ t. is_one_line t ≡ true) (sym tail.is) (tried_clean set tail.number tail.none)

-- a tail is a footer of its version
pub carried_by : (set : FixedTimespanSet) (from : Option ℤ) (text footer : List ℕ) (version : Version) → footer ≡ text → IsTailForEver set from text
    → ((value : FooterValue) → SpellsFooter footer value → version ≡ version_for value) → IsFooterFor set version footer
carried_by set from text footer version is tail told =
    let here : IsTailForEver set from footer = subst (IsTailForEver set from) (sym is) tail in
    inl (record { from = from; tail = here; is = told here.carries.stands.value here.carries.stands.is.spelled })

-- and so is none
pub clean_due : (set : FixedTimespanSet) (version : Version) (text : List ℕ) → IsFooterFor set version text → is_one_line text ≡ true
clean_due set version text (inl carried) = clean_tail set carried.from text carried.tail
clean_due set version text (inr saved) = ap is_one_line saved.none

module _ (set front : FixedTimespanSet) (version : Version) (footer : List ℕ) (due : IsFooterFor set version footer)
    (front_is : front ≡ until cycle_begin set) where
  zone_is : value_by Any front footer ≡ ever_zone set footer
  zone_is = ap (λ f. value_by Any f footer) front_is

  pub file_is : (bytes : List ℕ) → IsTzifBy version bytes (value_by Any front footer) → IsEverFile set bytes
  file_is bytes is = record { version = version; footer = footer; due = due; is = subst (IsTzifBy version bytes) zone_is is }

  pub fault_is : (fault : FileFault) → IsFileFault fault (write_fault (value_by Any front footer)) → IsNoEverFile set fault
  fault_is fault is = record { version = version; footer = footer; due = due; is = subst (λ z. IsFileFault fault (write_fault z)) zone_is is }
