-- What a name finds, by what is seen of the zone that is opened.
use Rattle.std.{proofs.Common.{◌≡◌, ℕ, List, Bool, Option, Some, None, option_map, Ok, Err, true, false, refl, sym, ap, ◌∙◌, if◌then◌else◌, IsTrue, inl, inr}, specs.Prelude.{IfSome}, specs.FinMap.{get}}
use Rattle.sefunjaro.specs.{Replies.{reply_view}, Zones.{GoesOnAs, IsOpened, all_in, ever_in, kept_as, origin_in, recurrence_in, recurrence_with, set_in, IsKept}, declared.zone.OpenZone.{OpenZone}, declared.zone.Origin.TheVariants.{Source}}
use Rattle.tz_ever.specs.{Ever.{ever_total}, Recurrences.{turned, zone_total}, ZoneShown.{zone_set_of}, declared.recurrence.Recurrence.TheVariants.{Never, Later}, ForEver.{ever_years}, Opens.{DoesNotGoOn, IsFoundForEver, IsTooFarLater}, declared.zone_set.ZoneSet.{ZoneSet}}
use Rattle.tz_lookup.specs.{Compiles.{IsTooFar, IsZoneFault, compiled_in, spans_of}, Sets.{IsAccepted, schedule_of}, declared.compile.ZoneFault.{ZoneFault}, declared.set.FixedTimespanSet.{FixedTimespanSet}}
use Rattle.tz_lookup.specs.declared.compile.ZoneFault.TheVariants as zone_fault
use Rattle.zone_spans.specs.{Compiled.{compiled, compiled_over}, GoesOn.{goes_on}, Lines.{Rulesets, zone_lines}, Schedules.{is_in_offset_range, totals_of}, declared.fault.SpanFault.{SpanFault}}
use Rattle.zone_spans.specs.declared.span.FixedTimespanSet as spans
use Rattle.zone_table.specs.{Resolved.{resolved_in}, declared.table.Table.{Table}, declared.zone.ZoneInfo.{ZoneInfo}}
use Rattle.zone_command.specs.Views.{ever_by, ever_found, ever_set, found_in, if_in_range, named_set, range_words, schedule_words, unknown_words, view_by, view_in, view_of, IsToldAs}

if_true : {A : Type 0} (b : Bool) (x y : A) → b ≡ true → (if b then x else y) ≡ x
if_true true x y is = refl
if_true false x y is = absurd cc

if_false : {A : Type 0} (b : Bool) (x y : A) → b ≡ false → (if b then x else y) ≡ y
if_false true x y is = absurd cc
if_false false x y is = refl

-- a set is its spans under its name
renamed : (set : FixedTimespanSet) (name : List ℕ) → set.name ≡ name → named_set name (spans_of set) ≡ set
renamed set name is = ap (λ n. record { name = n; first = set.first; others = set.others }) (sym is)

-- ---- for ever
ending : (rulesets : Rulesets) (name : List ℕ) (infos : List ZoneInfo) → goes_on (zone_lines rulesets infos) ≡ false
    → ever_set rulesets name infos ≡ None
ending rulesets name infos ends =
    if_false (goes_on (zone_lines rulesets infos)) (if_in_range name (compiled_over ever_years rulesets infos)) None ends

going : (rulesets : Rulesets) (name : List ℕ) (infos : List ZoneInfo) (over : spans.FixedTimespanSet) → goes_on (zone_lines rulesets infos) ≡ true
    → compiled_over ever_years rulesets infos ≡ Ok over
    → ever_set rulesets name infos ≡ (if is_in_offset_range (totals_of over) then Some (named_set name over) else None)
going rulesets name infos over goes compiles =
    if_true (goes_on (zone_lines rulesets infos)) (if_in_range name (compiled_over ever_years rulesets infos)) None goes
    ∙ ap (if_in_range name) compiles

same_some : {A : Type 0} (a b : A) → Some a ≡ Some b → a ≡ b
same_some a b e = cc

with_lines : {A : Type 0} (f : List ZoneInfo → A) (found : Option (List ZoneInfo)) (x : A) → option_map f found ≡ Some x
    → (infos : List ZoneInfo) × (found ≡ Some infos) × (f infos ≡ x)
with_lines f None x is = absurd cc
with_lines f (Some infos) x is = (infos, refl, same_some (f infos) x is)

mapped : {A : Type 0} (f : List ZoneInfo → A) (found : Option (List ZoneInfo)) (infos : List ZoneInfo) (x : A) → found ≡ Some infos
    → option_map f found ≡ Some x → f infos ≡ x
mapped f found infos x is h = same_some (f infos) x (ap (option_map f) (sym is) ∙ h)

ever_ends : (table : Table) (name : List ℕ) → DoesNotGoOn table name → ever_by (get table.rulesets) name (resolved_in table name) ≡ None
ever_ends table name is =
    ap (ever_by (get table.rulesets) name) is.zone.is_found ∙ ending (get table.rulesets) name is.zone.infos is.ends

ever_far : (table : Table) (name : List ℕ) → IsTooFarLater table name → ever_by (get table.rulesets) name (resolved_in table name) ≡ None
ever_far table name is =
    let rulesets = get table.rulesets in
    let infos = is.zone.zone.infos in
    let over = is.far.set in
    let compiles = mapped (compiled_over ever_years rulesets) (resolved_in table name) infos (Ok over) is.zone.zone.is_found is.far.is_found in
    ap (ever_by rulesets name) is.zone.zone.is_found
    ∙ going rulesets name infos over is.zone.goes_on compiles
    ∙ if_false (is_in_offset_range (totals_of over)) (Some (named_set name over)) None is.far.far

ever_goes : (table : Table) (name : List ℕ) (set : FixedTimespanSet) → IsFoundForEver table name set → IsTrue (is_in_offset_range (schedule_of set))
    → ever_by (get table.rulesets) name (resolved_in table name) ≡ Some set
unfolding totals_of
ever_goes table name set is range =
    let rulesets = get table.rulesets in
    ap (ever_by rulesets name) is.is_found
    ∙ going rulesets name is.infos (spans_of set) is.zone.goes_on is.zone.set_is
    ∙ if_true (is_in_offset_range (totals_of (spans_of set))) (Some (named_set name (spans_of set))) None range
    ∙ ap Some (renamed set name is.named)

ever_as : (table : Table) (name : List ℕ) (found : Option ZoneSet) → GoesOnAs table name found
    → IfSome found (λ ever. IsAccepted (schedule_of (zone_set_of ever)))
    → ever_by (get table.rulesets) name (resolved_in table name) ≡ option_map zone_set_of found
ever_as table name None goes accepted = elim goes [
  | inl is ↦ ever_ends table name is
  | inr is ↦ ever_far table name is
]
ever_as table name (Some ever) goes accepted = ever_goes table name (zone_set_of ever) goes accepted.range

pub ever_is : (table : Table) (name : List ℕ) (found : Option ZoneSet) → GoesOnAs table name found
    → IfSome found (λ ever. IsAccepted (schedule_of (zone_set_of ever))) → ever_found table name ≡ option_map zone_set_of found
unfolding ever_found
ever_is table name found goes accepted = ever_as table name found goes accepted

-- ---- the zone
seen_never : (set : FixedTimespanSet) → view_of set None ≡ reply_view Source Never set
unfolding zone_total turned
seen_never set = refl

seen_later : (set ever : FixedTimespanSet) → view_of set (Some ever) ≡ reply_view Source Later ever
unfolding zone_total turned ever_total
seen_later set ever = refl

seen_as : (set all : FixedTimespanSet) (found : Option ZoneSet) → IsKept set all found
    → view_of set (option_map zone_set_of found) ≡ reply_view Source (recurrence_with found) all
seen_as set all None kept = seen_never set ∙ ap (reply_view Source Never) kept
seen_as set all (Some ever) kept = seen_later set (zone_set_of ever) ∙ ap (reply_view Source Later) kept

viewed : (rulesets : Rulesets) (name : List ℕ) (infos : List ZoneInfo) (set : FixedTimespanSet) (ever : Option FixedTimespanSet)
    → compiled rulesets infos ≡ Ok (spans_of set) → IsTrue (is_in_offset_range (schedule_of set)) → set.name ≡ name
    → ever_set rulesets name infos ≡ ever → (unknown : List ℕ) → view_in unknown rulesets name (Some infos) ≡ Ok (view_of set ever)
unfolding totals_of
viewed rulesets name infos set ever compiles range named is unknown =
    ap (view_by rulesets name infos) compiles
    ∙ if_true (is_in_offset_range (totals_of (spans_of set))) (Ok (view_of (named_set name (spans_of set)) (ever_set rulesets name infos))) (Err range_words) range
    ∙ ap (λ s. Ok (view_of s (ever_set rulesets name infos))) (renamed set name named)
    ∙ ap (λ e. Ok (view_of set e)) is

pub found_as : (table : Table) (name : List ℕ) (zone : OpenZone) → IsOpened name (compiled_in table name) zone
    → IsAccepted (schedule_of (set_in zone)) → GoesOnAs table name (ever_in zone) → recurrence_in zone ≡ recurrence_with (ever_in zone) → origin_in zone ≡ Source
    → IfSome (ever_in zone) (λ ever. IsAccepted (schedule_of (zone_set_of ever)))
    → found_in table name ≡ Ok (reply_view (origin_in zone) (recurrence_in zone) (all_in zone))
unfolding found_in
found_as table name zone opened accepted goes recurs origin ever_accepted =
    let rulesets = get table.rulesets in
    let lines = with_lines (compiled rulesets) (resolved_in table name) (Ok (spans_of (set_in zone))) opened.1 in
    let infos = lines.0 in
    let ever = sym (ap (ever_by rulesets name) lines.1) ∙ ever_as table name (ever_in zone) goes ever_accepted in
    ap (view_in (unknown_words table name) rulesets name) lines.1
    ∙ viewed rulesets name infos (set_in zone) (option_map zone_set_of (ever_in zone)) lines.2 accepted.range opened.0 ever (unknown_words table name)
    ∙ ap Ok (seen_as (set_in zone) (all_in zone) (ever_in zone) (kept_as zone) ∙ (λ i. reply_view (sym origin i) (sym recurs i) (all_in zone)))

-- ---- no zone
none_mapped : {A : Type 0} (f : List ZoneInfo → A) (found : Option (List ZoneInfo)) → option_map f found ≡ None → found ≡ None
none_mapped f None is = refl
none_mapped f (Some infos) is = absurd cc

pub unknown_as : (table : Table) (name : List ℕ) → compiled_in table name ≡ None → found_in table name ≡ Err (unknown_words table name)
unfolding found_in
unknown_as table name is =
    ap (view_in (unknown_words table name) (get table.rulesets) name) (none_mapped (compiled (get table.rulesets)) (resolved_in table name) is)

pub schedule_as : (table : Table) (name : List ℕ) (fault : SpanFault) → compiled_in table name ≡ Some (Err fault)
    → found_in table name ≡ Err (schedule_words fault)
unfolding found_in
schedule_as table name fault is =
    let rulesets = get table.rulesets in
    let lines = with_lines (compiled rulesets) (resolved_in table name) (Err fault) is in
    ap (view_in (unknown_words table name) rulesets name) lines.1 ∙ ap (view_by rulesets name lines.0) lines.2

pub far_as : (table : Table) (name : List ℕ) → IsTooFar (compiled_in table name) → found_in table name ≡ Err range_words
unfolding found_in
far_as table name far =
    let rulesets = get table.rulesets in
    let lines = with_lines (compiled rulesets) (resolved_in table name) (Ok far.set) far.is_found in
    ap (view_in (unknown_words table name) rulesets name) lines.1
    ∙ ap (view_by rulesets name lines.0) lines.2
    ∙ if_false (is_in_offset_range (totals_of far.set)) (Ok (view_of (named_set name far.set) (ever_set rulesets name lines.0))) (Err range_words) far.far

pub told_as : (table : Table) (name : List ℕ) (fault : ZoneFault) → IsZoneFault (compiled_in table name) fault → IsToldAs table name fault
told_as table name zone_fault.UnknownZone is = unknown_as table name is
told_as table name (zone_fault.Schedule fault) is = schedule_as table name fault is.0
told_as table name zone_fault.OffsetRange is = far_as table name is
told_as table name zone_fault.NoMemory is = record {}
