-- A string in its ranges that stands for a zone by itself is a footer, and gives the same totals.
use Rattle.std.proofs.{Common.{◌≡◌, ℕ, ◌≤◌, Bool, true, false, cond, not, ◌&&◌, List, [], ◌∷◌, Option, Some, None, option_map, option_and_then, Result, Ok, Err, ℤ, pos, ◌+ℤ◌, ◌-ℤ◌, ◌++◌, subst, refl, sym, ap, ◌∙◌, arith, nat_le}, lemmas.Bool.{and_parts, and_from}}
use Rattle.std.proofs.lemmas.{Bool.Decides.{nat_tests}, Int.{ints}}
use Rattle.std.specs.Option.{option_map_or}
use Rattle.civil_base.specs.Instants.{seconds_of}
use Rattle.tz_posix.specs.{InForce.{instant_in, is_saving, moment_of, moments_in, posix_total, year_at, is_within, yearly_time}, PosixZones.{PosixZone, fixed, ruled, GivesTotal, Named, either}, RangeLaws.{none_first}}
use Rattle.tz_posix.specs.{Ranges.{posix_range, date_miss, first_miss, first_some, offset_miss, time_miss, rule_range, rule_time_miss, is_time}, Resolved.{resolved}, Seconds.{offset_seconds, east_of, part}}
use Rattle.tz_posix.specs.{Spells.{Optional, absent, present, SpellsName, SpellsOffset, SpellsMoment, date, timed, bare, SpellsRule, rule}, Spells.{dst, Spells, short_form, full_form, day_times, signed_times}, Values.{TzValue}, declared.date.Date.{Date}}
use Rattle.tz_posix.specs.declared.{error.RangeError.{RangeError}, time.Offset.{Offset}, time.Time.{Time}, values.Rule.{Rule}}
use Rattle.tz_posix.specs.declared.error.RangeError.TheVariants as miss
use Rattle.zone_tzif_core.specs.Zones.{KindValue}
use Rattle.tz_lookup.specs.declared.set.FixedTimespanSet.{FixedTimespanSet}
use Rattle.tz_tzif.specs.{FooterForce.{held_at, yearly, is_footer_saving, is_of_one_year, is_saved, is_saved_by, has_begun}, Ranges.{IsFooterOf}, Standing.{stands_for}, Values.{FooterValue}}
use Rattle.zone_tail.specs.Settled.{IsOfLastYear, IsSettled}

-- a time without a sign
abbrev signed : Time → Offset
signed t = record { positive = true; time = t }

abbrev lifted : Date × Option Time → Date × Option Offset
lifted m = (m.0, option_map signed m.1)

abbrev lifted_rule : Rule Time → Rule Offset
lifted_rule r = record { start = lifted r.start; end = lifted r.end }

moment_lifted : {a : List ℕ} {v : Date × Option Time} → SpellsMoment day_times a v → SpellsMoment signed_times a (lifted v)
moment_lifted (date d) = date d
moment_lifted (timed d t) = timed d (bare t)

rule_lifted : {a : List ℕ} {r : Rule Time} → SpellsRule day_times a r → SpellsRule signed_times a (lifted_rule r)
rule_lifted (rule s e) = rule (moment_lifted s) (moment_lifted e)

-- ---- the ranges

miss_of : (b : Bool) (m : RangeError) → cond b None (Some m) ≡ None → b ≡ true
miss_of true m e = refl
miss_of false m e = absurd cc

time_in : (hours : ℕ) (t : Time) → time_miss hours t ≡ None → is_time hours t ≡ true
time_in hours t e = miss_of (is_time hours t) _ e

more_hours : (h m n : ℕ) → m ≤ n → nat_le h m ≡ true → nat_le h n ≡ true
more_hours h m n l e = grind (arith, nat_tests)

-- a time of 23 hours at most has 167 hours at most
longer : (t : Time) → is_time 23 t ≡ true → is_time 167 t ≡ true
longer t h =
    let minutes = and_parts (nat_le t.hh 23 && nat_le (part t.mm) 59) (nat_le (part t.ss) 59) h in
    let hours = and_parts (nat_le t.hh 23) (nat_le (part t.mm) 59) minutes.0 in
    and_from _ _ (and_from _ _ (more_hours t.hh 23 167 (omega arith) hours.0) hours.1) minutes.1

time_lifted : (t : Option Time) → rule_time_miss day_times t ≡ None → rule_time_miss signed_times (option_map signed t) ≡ None
time_lifted None e = refl
time_lifted (Some t) e = ap (λ b. cond b None (Some miss.Time)) (longer t (time_in 23 t e))

rule_in_range : (r : Rule Time) → rule_range day_times r ≡ None → rule_range signed_times (lifted_rule r) ≡ None
rule_in_range r e =
    let start = rule_time_miss day_times r.start.1 in
    let end = rule_time_miss day_times r.end.1 in
    let first = none_first (date_miss r.start.0) (date_miss r.end.0 ∷ start ∷ end ∷ []) e in
    let second = none_first (date_miss r.end.0) (start ∷ end ∷ []) first.1 in
    let third = none_first start (end ∷ []) second.1 in
    let fourth = none_first end [] third.1 in
    λ i. first_some (first.0 i ∷ second.0 i ∷ time_lifted r.start.1 third.0 i ∷ time_lifted r.end.1 fourth.0 i ∷ [])

-- ---- the totals

moment_same : (m : Date × Option Time) → moment_of signed_times (lifted m) ≡ yearly_time m
unfolding offset_seconds
moment_same (d, None) = refl
moment_same (d, Some t) = refl

either_total : (b : Bool) (a c : KindValue) → (cond b a c).utoff ≡ cond b a.utoff c.utoff
either_total true a c = refl
either_total false a c = refl

-- a value of a footer that gives what a zone of a string gives, where the year of an instant decides by itself
pub record Both (text : List ℕ) (tz : PosixZone) : Type 0 where
  pub value : FooterValue
  pub is : IsFooterOf text value
  pub own : (s : ℤ) → IsSettled tz s → is_of_one_year (stands_for value) s ≡ true
  pub gives : (t : ℤ) → is_of_one_year (stands_for value) (seconds_of t) ≡ true → GivesTotal tz t (held_at (stands_for value) (seconds_of t)).utoff

alone : {a b name : List ℕ} {o : Offset} (tz : PosixZone) → SpellsName a name → SpellsOffset b o → offset_miss o ≡ None
    → fixed (record { name = name; total = east_of o }) ≡ tz → Both (a ++ b ++ []) tz
unfolding first_miss stands_for held_at is_of_one_year
alone {a} {b} {name} {o} tz is_name is_offset fits same = record {
  value = record { standard = record { name = name; offset = o }; saving = None };
  is = record { spelled = full_form is_name is_offset absent; range = fits };
  own = λ s settled. refl;
  gives = λ t own. subst (λ z. GivesTotal z t (east_of o)) same
      (record { given = record { total = east_of o; name = name; saving = false }; gives = ((refl, refl), refl); is = refl });
}

not_from : (b : Bool) → not b ≡ true → b ≡ false
not_from true h = absurd cc
not_from false h = refl

-- a year that has begun is read as one standard year is
within_begun : (start end s : ℤ) → has_begun (start, end) s ≡ true → is_saved (start, end) s ≡ is_within start end s
within_begun start end s begun = grind (arith, ints, begun)

by_here : (after here before earlier : ℤ × ℤ) (s : ℤ) → has_begun after s ≡ false → has_begun here s ≡ true
    → is_saved_by after here before earlier s ≡ is_saved here s
unfolding is_saved_by
by_here after here before earlier s later begun = rw (later, begun) refl

own_year : (standard ahead s : ℤ) (start end : Date × ℤ)
    → (has_begun (moments_in standard ahead start end (year_at standard s)) s && not (has_begun (moments_in standard ahead start end (year_at standard s +ℤ pos 1)) s)) ≡ true
    → is_footer_saving standard ahead start end s
    ≡ is_within (instant_in (year_at standard s) standard start) (instant_in (year_at standard s) ahead end) s
unfolding is_footer_saving
own_year standard ahead s start end own =
    let y = year_at standard s in
    let moments = moments_in standard ahead start end in
    let both = and_parts (has_begun (moments y) s) (not (has_begun (moments (y +ℤ pos 1)) s)) own in
    by_here (moments (y +ℤ pos 1)) (moments y) (moments (y -ℤ pos 1)) (moments (y -ℤ pos 2)) s
    (not_from (has_begun (moments (y +ℤ pos 1)) s) both.1) both.0
    ∙ within_begun (instant_in y standard start) (instant_in y ahead end) s both.0

totals_same : (standard saved : KindValue) (start end : Date × Option Time) (s : ℤ)
    → is_of_one_year (yearly standard saved (moment_of signed_times (lifted start)) (moment_of signed_times (lifted end))) s ≡ true
    → (held_at (yearly standard saved (moment_of signed_times (lifted start)) (moment_of signed_times (lifted end))) s).utoff
    ≡ posix_total standard.utoff saved.utoff (yearly_time start) (yearly_time end) s
unfolding held_at is_of_one_year posix_total is_saving
totals_same standard saved start end s own =
    let y = year_at standard.utoff s in
    either_total _ saved standard
    ∙ ap (λ b. cond b saved.utoff standard.utoff) (own_year standard.utoff saved.utoff s (moment_of signed_times (lifted start)) (moment_of signed_times (lifted end)) own)
    ∙ (λ i. cond (is_within (instant_in y standard.utoff (moment_same start i)) (instant_in y saved.utoff (moment_same end i)) s) saved.utoff standard.utoff)

-- a second of the last year, whose rule decides by itself
own_of_last : (standard saved : KindValue) (start end : Date × Option Time) (s : ℤ)
    → IsOfLastYear standard.utoff saved.utoff (yearly_time start) (yearly_time end) s
    → is_of_one_year (yearly standard saved (moment_of signed_times (lifted start)) (moment_of signed_times (lifted end))) s ≡ true
unfolding is_of_one_year
own_of_last standard saved start end s last =
    ap (λ y. has_begun (moments_in standard.utoff saved.utoff (moment_of signed_times (lifted start)) (moment_of signed_times (lifted end)) y) s
    && not (has_begun (moments_in standard.utoff saved.utoff (moment_of signed_times (lifted start)) (moment_of signed_times (lifted end)) (y +ℤ pos 1)) s)) last.year
    ∙ and_from _ _
    ((λ i. has_begun (instant_in (pos 2099) standard.utoff (moment_same start i), instant_in (pos 2099) saved.utoff (moment_same end i)) s) ∙ last.begun)
    (ap not ((λ i. has_begun (instant_in (pos 2100) standard.utoff (moment_same start i), instant_in (pos 2100) saved.utoff (moment_same end i)) s) ∙ last.next))

changing : {a b c d e name other : List ℕ} {o : Offset} {p : Option Offset} {r : Rule Time} (tz : PosixZone) → SpellsName a name
    → SpellsOffset b o → SpellsName c other → Optional SpellsOffset d p → SpellsRule day_times e r → offset_miss o ≡ None
    → option_and_then offset_miss p ≡ None → rule_range day_times r ≡ None
    → ruled (record { name = name; total = east_of o }) (record { name = other; total = option_map_or east_of p (east_of o +ℤ pos 3600) })
    (yearly_time r.start) (yearly_time r.end) ≡ tz
    → Both (a ++ b ++ (c ++ d ++ e)) tz
unfolding first_miss stands_for
changing {a} {b} {c} {d} {e} {name} {other} {o} {p} {r} tz is_name is_offset is_other is_own is_rule_text fits own_fits rule_fits same =
    let standard : KindValue = record { utoff = east_of o; is_dst = false; name = name } in
    let saved : KindValue = record { utoff = option_map_or east_of p (east_of o +ℤ pos 3600); is_dst = true; name = other } in
    let st : Named = record { name = name; total = standard.utoff } in
    let sv : Named = record { name = other; total = saved.utoff } in
    record {
      value = record {
        standard = record { name = name; offset = o };
        saving = Some (record { name = other; offset = p; rule = lifted_rule r });
      };
      is = record {
        spelled = full_form is_name is_offset (present (dst is_other is_own (present (rule_lifted is_rule_text))));
        range = λ i. first_some (fits i ∷ own_fits i ∷ rule_in_range r rule_fits i ∷ []);
      };
      own = λ s settled. own_of_last standard saved r.start r.end s (subst (λ z. IsSettled z s) (sym same) settled);
      gives = λ t own.
          let s = seconds_of t in
          let holds = is_saving st.total sv.total (yearly_time r.start) (yearly_time r.end) s in
          subst (λ z. GivesTotal z t (held_at (yearly standard saved (moment_of signed_times (lifted r.start)) (moment_of signed_times (lifted r.end))) s).utoff) same (record {
            given = record {
              total = posix_total st.total sv.total (yearly_time r.start) (yearly_time r.end) s;
              name = (either st sv holds).name;
              saving = holds;
            };
            gives = record { total = refl; saves = refl; named = refl };
            is = sym (totals_same standard saved r.start r.end s own);
          });
    }

abbrev from_ok : PosixZone → Result PosixZone (List ℕ) → PosixZone
from_ok tz (Ok other) = other
from_ok tz (Err name) = tz

same_ok : (x y : PosixZone) → ◌≡◌ {A = Result PosixZone (List ℕ)} (Ok x) (Ok y) → x ≡ y
same_ok x y e = ap (from_ok x) e

pub both : {text : List ℕ} {value : TzValue} (tz : PosixZone) → Spells text value → posix_range value ≡ None
    → ((zones : List FixedTimespanSet) → resolved zones value ≡ Ok tz) → Both text tz
unfolding resolved first_miss
both tz (short_form name) e h = let no = h [] in absurd cc
both tz (full_form n o absent) e h = alone tz n o e (same_ok _ tz (h []))
both tz (full_form n o (present (dst other own absent))) e h = let no = h [] in absurd cc
both tz (full_form {o = standard} n o (present (dst {o = p} {r = r} other own (present {value = rule_value} is_rule_text)))) e h =
    let first = none_first (offset_miss standard) (option_and_then offset_miss p ∷ rule_range day_times rule_value ∷ []) e in
    let second = none_first (option_and_then offset_miss p) (rule_range day_times rule_value ∷ []) first.1 in
    let third = none_first (rule_range day_times rule_value) [] second.1 in
    changing tz n o other own is_rule_text first.0 second.0 third.0 (same_ok _ tz (h []))
