-- A file without a footer shows daylight saving time that holds for good.
use Rattle.std.proofs.{Common.{◌≡◌, ℕ, zero, suc, ◌*◌, ◌<◌, ◌≤◌, length, Bool, true, false, cond, List, [], ◌∷◌, Option, Some, None, ℤ, pos, ◌+ℤ◌, ◌≤ℤ◌, ◌<ℤ◌, int_le, inl, inr, refl, sym, ap, subst, ◌∙◌, arith}, lemmas.Int.{by_lt_z}}
use Rattle.basics.specs.ComparisonLaws.{le_from_pass, le_le, le_pass}
use Rattle.civil_base.specs.Instants.{seconds_of}
use Rattle.zone_spans.specs.Entries.{Entry, total}
use Rattle.tz_tzif.specs.{Faults.{SaysInFooter}, FooterForce.{FooterZone, fixed, held_at}, FooterLaws.{no_text}, InForce.{kind_at, kind_in as kind_of_file}, Spells.{SpellsFooter}, Values.{FooterValue}}
use Rattle.tz_lookup.specs.{Sets.{shifts_of, span_in, total_of_span}, declared.set.FixedTimespanSet.{FixedTimespanSet}}
use Rattle.zone_tail.specs.Carried.{IsFrom}
use Rattle.zone_tzif.specs.{Agreement.{AgreesForEver, cycle_begin, cycle_end, ever_kind}, EverFiles.{entries_until, ever_zone, IsFooterFor, IsInReach}, Tails.{beginning_of, last_of, IsSavedFrom}, Tells.{Tells}, Values.{change_by, kind_by, value_by}, Walked.{Agrees, come, kind_from}}
use Rattle.zone_tzif.specs.{declared.agreeing.Agreement.{Agreement, TheVariants.{Nowhere, From, Always}}, declared.convert.Saves.TheVariants.{Any}}
use Rattle.zone_tzif.proofs.{EverLemmas.{early_is, footer_of, shows, up_to}, KindLemmas.{ever_is}, PlaceLemmas.{by_place}, TailEverLemmas.{Repeats, none_later, second_of_back, until_end}}
use Rattle.zone_tzif_core.specs.{Totals.{last_kind}, Zones.{KindValue}, declared.values.Version.{Version, TheVariants.{Two}}}

-- from a second on all changes up to it have come
come_all : (es : List Entry) (second s : ℤ) → second ≤ℤ s → come s (up_to second es) ≡ come second es
come_all [] second s h = refl
come_all (e ∷ es) second s h = by_test (come_all es second s h) (int_le e.0 second) refl
  where
    by_test : come s (up_to second es) ≡ come second es → (b : Bool) → int_le e.0 second ≡ b
        → come s (cond b (e ∷ up_to second es) (up_to second es)) ≡ cond b (change_by Any e ∷ come second es) (come second es)
    by_test rest true is =
        ap (λ b. cond b (change_by Any e ∷ come s (up_to second es)) (come s (up_to second es)))
        (le_pass e.0 s (le_le _ _ _ (le_from_pass e.0 second is) h))
        ∙ ap (λ l. change_by Any e ∷ l) rest
    by_test rest false is = rest

-- where it is told, and that this is by the beginning of 2102
record Begins (set : FixedTimespanSet) (from : Option ℤ) : Type 0 where
  agrees : AgreesForEver (fixed (last_of set)) set from
  early : (s : ℤ) → cycle_begin ≤ℤ s → IsFrom from s

begins : (set : FixedTimespanSet) (from : Option ℤ) → Tells (fixed (last_of set)) set (beginning_of from) → Begins set from
begins set None tells = record { agrees = tells.agrees; early = λ s h. tt }
begins set (Some second) tells = record {
  agrees = tells.0.agrees;
  early = λ s h. le_le _ _ _ (subst (λ x. x ≤ℤ cycle_begin) (sym tells.0.at) tells.0.may.last) h;
}

past : (k : ℕ) (second s : ℤ) → s ≡ second +ℤ pos (k * 12622780800) → (0 < k → cycle_begin ≤ℤ second) → cycle_begin ≤ℤ s → cycle_begin ≤ℤ second
past zero second s is later le = subst (λ x. cycle_begin ≤ℤ x) (is ∙ none_later second) le
past (suc k) second s is later le = later (omega arith)

pub shows_saved : Repeats → (set : FixedTimespanSet) (from : Option ℤ) (t : ℤ) → IsSavedFrom set from
    → kind_at (ever_zone set []) None t ≡ ever_kind set t
unfolding value_by entries_until kind_at kind_of_file held_at
shows_saved repeats set from t saved =
    let start = begins set from saved.tells in
    let agrees : Agrees (fixed (last_of set)) set from = until_end repeats (fixed (last_of set)) saved.offset set from start.early start.agrees in
    let back = second_of_back t in
    let s = seconds_of t in
    by_lt_z {P = last_kind (kind_by Any set.first) (come s (up_to cycle_begin set.others)) ≡ ever_kind set t} s cycle_begin
    (λ lt. early_is set t lt)
    (λ le. ap (last_kind (kind_by Any set.first)) (come_all set.others cycle_begin s le)
    ∙ agrees.alike back.second (start.early back.second (past back.cycles back.second s back.is back.later_begin le)) back.before
    ∙ sym (ever_is set t back.second back.back))

-- the total of a span that is in force
pub total_is : (set : FixedTimespanSet) (k : ℕ) → k ≤ length set.others → total_of_span set k ≡ total (span_in set k)
total_is set zero l = refl
total_is set (suc i) l = ap (λ s. s.1) (by_place Any set.others i _ l).1

-- what is told is told from somewhere on
pub somewhere : (zone : FooterZone) (set : FixedTimespanSet) (answer : Agreement) → (answer ≡ Nowhere → ⊥) → Tells zone set answer
    → (from : Option ℤ) × Tells zone set (beginning_of from)
somewhere zone set Nowhere some tells = absurd (some refl)
somewhere zone set (From second) some tells = (Some second, tells)
somewhere zone set Always some tells = (None, tells)

-- where daylight saving time holds for good no footer is due
pub saved_by : (set same : FixedTimespanSet) (footer : List ℕ) → same ≡ set → footer ≡ [] → (from : Option ℤ) × IsSavedFrom same from → IsFooterFor set Two footer
saved_by set same footer is none (from, saved) = inr (record { from = from; saved = subst (λ s. IsSavedFrom s from) is saved; is = refl; none = none })

-- a kind by its offset, and by a kind of any offset
pub kind_of_parts : (offset : ℤ) (is_dst : Bool) (name : List ℕ) (kind : KindValue) → offset ≡ kind.utoff → {o : ℤ}
    → record { utoff = o; is_dst = is_dst; name = name } ≡ kind → record { utoff = offset; is_dst = is_dst; name = name } ≡ kind
kind_of_parts offset is_dst name kind e is =
    λ i. record { utoff = e i; is_dst = ap (λ k. k.is_dst) is i; name = ap (λ k. k.name) is i }

-- so does each file of the set
pub shows_due : Repeats → (set : FixedTimespanSet) (version : Version) (text : List ℕ) (footer : Option FooterZone) (t : ℤ)
    → ((x y : FooterValue) → SpellsFooter text x → SpellsFooter text y → x ≡ y) → IsFooterFor set version text
    → SaysInFooter (ever_zone set text).footer footer → IsInReach footer t → kind_at (ever_zone set text) footer t ≡ ever_kind set t
shows_due repeats set version text footer t one (inl carried) says reach = shows set carried.from text footer t one carried.tail says reach
shows_due repeats set version text footer t one (inr saved) says reach = by_footer footer says
  where
    by_footer : (footer : Option FooterZone) → SaysInFooter (ever_zone set text).footer footer → kind_at (ever_zone set text) footer t ≡ ever_kind set t
    by_footer None says = ap (λ x. kind_at (ever_zone set x) None t) saved.none ∙ shows_saved repeats set saved.from t saved.saved
    by_footer (Some zone) says = absurd (no_text says (footer_of set text ∙ saved.none))
