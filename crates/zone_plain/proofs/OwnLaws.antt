-- What is written of a source is its own plain form.
use Rattle.std.proofs.{Common.{◌≡◌, ℕ, ◌<◌, ◌≤◌, List, [], ◌∷◌, ◌++◌, All, Bool, true, false, cond, not, filter, flat_map, map, length, Option, Some, None, Result, Ok, Err, refl, sym, ap, ◌∙◌, subst, arith, rules}, lemmas.Bool.{both_ways, or_left, or_right}}
use Rattle.std.proofs.lemmas.{List.{length-append}, List.Elements.{All-nil, All-cons, All-head, All-tail, All-append, All-weaker}, List.Folds.{list_any-append}, List.Sums.{sum_by-cons}, Slice.Eq.{bytes_eq-Decides}}
use Rattle.std.specs.{Prelude.{bytes_eq, ◌||◌, option_to_list, slice_get, option_and_then}, List.{sum_by}, Option.{option_map_or}, Str.{is_utf8}}
use Rattle.zone_outside.specs.Limit.{text_limit}
use Rattle.zone_source.specs.{ReleaseLaws.{named_line}, Releases.{line_naming, named_by, release_of}, Lines.{lines_of}}
use Rattle.zone_table.specs.{Results.{◌>>=◌}, Seconds.{seconds_of}, Values.{SavingValue, no_saving, one_off, multiple, InfoValue, RuleValue, LineValue, space, zone, continuation, rule, link}}
use Rattle.zone_plain_lines.specs.{declared.cause.PlainCause.{PlainCause}, LineFaults.{LineFault, numbered, onto}, Meant.{line_meaning}, Said.{is_said}, SaidLaws.{name_said, no_text}, PlainTexts.{plain_text}}
use Rattle.zone_plain_lines.specs.declared.cause.PlainCause.TheVariants as cause
use Rattle.zone_plain.proofs.{Clean.{new_name, names_by, has, AreFresh, IsSound, AreClean}, CleanLaws.{declares_is, names_append, clean_stays, clean_from, are_settled, rulesets_stay}, SettledLaws.{no_ok, zones_stay}, KeptLaws.{names_stay, kept_by}}
use Rattle.zone_plain.proofs.{MeansLaws.{heading_means}, PartLemmas.{parts_give}, PartLaws.{parts_zones, parts_links, parts_rules, out_zones, out_links, out_rules}, ReadBackLaws.{IsPlaced, read_as_meant}, PlacedLaws.{parts_followed}, RebuiltLaws.{headed}}
use Rattle.zone_plain.proofs.WrittenLinesLaws.{written_is as written_in_parts, in_all_parts}
use Rattle.zone_plain.specs.{Declares.{zone_name, ruleset_name, has_zone, has_ruleset}, Settled.{lacks_rules, link_size, settled}, AbbreviationLaws.{among_stays}, Formats.{Around, around_mark}}
use Rattle.zone_plain.specs.{Made.{made_rule, rules_named, rules_for, changed_by, changed, name_in, made_for, made}, MadeLaws.{written_is}, NoneLeftLaws.{none_left}, PairLaws.{same_pair, among_with}}
use Rattle.zone_plain.specs.{Pairs.{Pair, Asked, nothing, total, under, asked_under, asked_by, asked, is_same, is_among, joined_by, pairs_from, pairs_of}, WrittenOut.{written_out}, Heads.{head_of, head_with, head_values}, Kept.{HasNoOffsets}}
use Rattle.zone_plain.specs.{LineValues.{is_open_after, values_from, mark_in, named, values_in}, Named.{IsSaid, IsSaidAsMeant, named_lines}, Plain.{plain_of}, Written.{Part, Rules, Zones, Links, is_in, written}, WrittenLines.{in_parts}}

-- ---- rulesets that are made are there

-- the names of a list, and of one that follows
has_append : (xs ys : List (List ℕ)) (name : List ℕ) → has (xs ++ ys) name ≡ (has xs name || has ys name)
has_append xs ys name = list_any-append (λ other. bytes_eq other name) xs ys

named_rules : (name : List ℕ) (pair : Pair) (rules : List RuleValue) → 0 < length rules
    → has (names_by ruleset_name (map (λ r. rule (made_rule name pair.offset r)) rules)) name ≡ true
named_rules name pair [] some = absurd (omega (arith, some))
named_rules name pair (r ∷ rules) some = or_left (bytes_eq name name) _ ((bytes_eq-Decides name name).1 refl)

some_rules : (values : List LineValue) (name : List ℕ) → has_ruleset values name ≡ true → 0 < length (rules_named values name)
unfolding rules_named
some_rules [] name h = absurd (both_ways false refl h)
some_rules (rule r ∷ values) name h = by (bytes_eq r.name name) h (some_rules values name)
  where
    by : (b : Bool) → (b || has_ruleset values name) ≡ true → (has_ruleset values name ≡ true → 0 < length (rules_named values name))
        → 0 < length (cond b (r ∷ rules_named values name) (rules_named values name))
    by true h more = omega arith
    by false h more = more h
some_rules (_ ∷ values) name h = some_rules values name h

made_has : (values : List LineValue) (pair : Pair) (pairs : List Pair) → has_ruleset values pair.rules ≡ true → is_among pair pairs ≡ true
    → has (names_by ruleset_name (made_for values pairs)) (name_in values pair) ≡ true
made_has values pair [] there among = absurd (both_ways false refl among)
made_has values pair (other ∷ pairs) there among = by (is_same pair other) refl among (made_has values pair pairs there)
  where
    parted : has (names_by ruleset_name (made_for values (other ∷ pairs))) (name_in values pair)
        ≡ (has (names_by ruleset_name (rules_for values (name_in values other) other)) (name_in values pair)
        || has (names_by ruleset_name (made_for values pairs)) (name_in values pair))
    parted =
        ap (λ names. has names (name_in values pair)) (names_append ruleset_name (rules_for values (name_in values other) other) (made_for values pairs))
        ∙ has_append (names_by ruleset_name (rules_for values (name_in values other) other)) (names_by ruleset_name (made_for values pairs)) (name_in values pair)

    itself : is_same pair other ≡ true → has (names_by ruleset_name (rules_for values (name_in values other) other)) (name_in values pair) ≡ true
    itself same =
        subst (λ p. has (names_by ruleset_name (rules_for values (name_in values p) p)) (name_in values pair) ≡ true) (same_pair pair other same)
        (named_rules (name_in values pair) pair (rules_named values pair.rules) (some_rules values pair.rules there))

    by : (b : Bool) → is_same pair other ≡ b → (b || is_among pair pairs) ≡ true
        → (is_among pair pairs ≡ true → has (names_by ruleset_name (made_for values pairs)) (name_in values pair) ≡ true)
        → has (names_by ruleset_name (made_for values (other ∷ pairs))) (name_in values pair) ≡ true
    by true same h more = parted ∙ or_left _ _ (itself same)
    by false same h more = parted ∙ or_right _ _ (more h)

-- ---- each line that is written out is sound among those that are written

not_false : (b : Bool) → not b ≡ false → b ≡ true
not_false true h = refl
not_false false h = absurd (both_ways true h refl)

-- the lines that are written have the zones of a source, its rulesets, and those that are made for it
record HasAll (source linked all : List LineValue) : Type 0 where
  zones : (name : List ℕ) → has_zone all name ≡ has_zone source name
  rulesets : (name : List ℕ) → has_ruleset source name ≡ true → has_ruleset all name ≡ true
  made_too : (pair : Pair) → has_ruleset source pair.rules ≡ true → is_among pair (pairs_of linked) ≡ true → has_ruleset all (name_in linked pair) ≡ true

still_there : (source linked all : List LineValue) → HasAll source linked all → (saving : SavingValue) → lacks_rules source saving ≡ false
    → lacks_rules all saving ≡ false
still_there source linked all there (multiple name) h = ap not (there.rulesets name (not_false (has_ruleset source name) h))
still_there source linked all there _ h = refl

-- the ruleset of the pair that a line asks for
rules_in : Asked → List ℕ
rules_in (under parts pair) = pair.rules
rules_in _ = []

no_pair : {X : Type 0} (parts : Around) (pair : Pair) → ◌≡◌ {A = Asked} nothing (under parts pair) → X
no_pair parts pair e = search rules

no_total : {X : Type 0} (some parts : Around) (t : _) (pair : Pair) → total some t ≡ under parts pair → X
no_total some parts t pair e = search rules

asked_there : (source : List LineValue) (info : InfoValue) (parts : Around) (pair : Pair) → lacks_rules source info.saving ≡ false
    → asked_by info ≡ under parts pair → has_ruleset source pair.rules ≡ true
unfolding asked_by rules_in
asked_there source info parts pair h e = by (around_mark info.format) e
  where
    saved : (some : Around) (s : SavingValue) → lacks_rules source s ≡ false → asked_under s (seconds_of info.utc_offset) some ≡ under parts pair
        → has_ruleset source pair.rules ≡ true
    saved some no_saving h e = no_total some parts _ pair e
    saved some (one_off amount) h e = no_total some parts _ pair e
    saved some (multiple name) h e = ap (has_ruleset source) (sym (ap rules_in e)) ∙ not_false (has_ruleset source name) h

    by : (o : Option Around) → option_map_or (asked_under info.saving (seconds_of info.utc_offset)) o nothing ≡ under parts pair
        → has_ruleset source pair.rules ≡ true
    by None e = no_pair parts pair e
    by (Some some) e = saved some info.saving h e

-- each pair that a line asks for is one of those that lines ask for
abbrev AsksAmong : List Pair → LineValue → Type 0
AsksAmong pairs v = (parts : Around) (pair : Pair) → asked v ≡ under parts pair → is_among pair pairs ≡ true

all_ask : (pairs : List Pair) (values : List LineValue) → All (AsksAmong (pairs_from pairs values)) values
unfolding pairs_from
all_ask pairs [] = All-nil (AsksAmong pairs)
all_ask pairs (v ∷ values) =
    All-cons (AsksAmong (pairs_from (joined_by (asked v) pairs) values)) v values
    (λ parts pair e. among_stays pair values (joined_by (asked v) pairs) (ap (λ a. is_among pair (joined_by a pairs)) e ∙ among_with pairs pair))
    (all_ask (joined_by (asked v) pairs) values)

line_sound : (source linked all : List LineValue) → HasAll source linked all → (v : LineValue) → IsSound source v → AsksAmong (pairs_of linked) v
    → IsSound all (changed (name_in linked) v)
line_sound source linked all there (link existing new) sound asks =
    record { to_zone = there.zones existing ∙ sound.to_zone; no_zone = there.zones new ∙ sound.no_zone; said = sound.said }
line_sound source linked all there (zone name info) sound asks = by (asked_by info) refl
  where
    by : (a : Asked) → asked_by info ≡ a → IsSound all (changed_by (name_in linked) a (zone name info))
    by nothing e = still_there source linked all there info.saving sound
    by (total parts t) e = still_there source linked all there info.saving sound
    by (under parts pair) e = ap not (there.made_too pair (asked_there source info parts pair sound e) (asks parts pair e))
line_sound source linked all there (continuation info) sound asks = by (asked_by info) refl
  where
    by : (a : Asked) → asked_by info ≡ a → IsSound all (changed_by (name_in linked) a (continuation info))
    by nothing e = still_there source linked all there info.saving sound
    by (total parts t) e = still_there source linked all there info.saving sound
    by (under parts pair) e = ap not (there.made_too pair (asked_there source info parts pair sound e) (asks parts pair e))
line_sound source linked all there _ sound asks = tt

lines_sound : (source linked all : List LineValue) → HasAll source linked all → (values : List LineValue) → All (IsSound source) values
    → All (AsksAmong (pairs_of linked)) values → All (IsSound all) (map (changed (name_in linked)) values)
lines_sound source linked all there [] sound asks = All-nil (IsSound all)
lines_sound source linked all there (v ∷ values) sound asks =
    All-cons (IsSound all) (changed (name_in linked) v) (map (changed (name_in linked)) values)
    (line_sound source linked all there v (All-head (IsSound source) v values sound) (All-head (AsksAmong (pairs_of linked)) v values asks))
    (lines_sound source linked all there values (All-tail (IsSound source) v values sound) (All-tail (AsksAmong (pairs_of linked)) v values asks))

rules_sound : (all : List LineValue) (name : List ℕ) (pair : Pair) (rules : List RuleValue)
    → All (IsSound all) (map (λ r. rule (made_rule name pair.offset r)) rules)
rules_sound all name pair [] = All-nil (IsSound all)
rules_sound all name pair (r ∷ rules) = All-cons (IsSound all) (rule (made_rule name pair.offset r)) _ tt (rules_sound all name pair rules)

made_sound : (all linked : List LineValue) (pairs : List Pair) → All (IsSound all) (made_for linked pairs)
made_sound all linked [] = All-nil (IsSound all)
made_sound all linked (pair ∷ pairs) =
    All-append (IsSound all) (rules_for linked (name_in linked pair) pair) (made_for linked pairs)
    (rules_sound all (name_in linked pair) pair (rules_named linked pair.rules)) (made_sound all linked pairs)

-- ---- the lines that are written, in their parts

-- behind a blank line, or none
abbrev behind : Option (List ℕ) → List LineValue → List LineValue
behind release out = head_values release ++ in_parts out

same_behind : (naming : LineValue → Option (List ℕ)) → naming space ≡ None → (release : Option (List ℕ)) (out : List LineValue)
    → names_by naming (behind release out) ≡ names_by naming (in_parts out)
same_behind naming none None out = refl
same_behind naming none (Some release) out = ap (λ o. option_to_list o ++ names_by naming (in_parts out)) none

record AreStages (source linked out : List LineValue) : Type 0 where
  led : settled source ≡ Ok linked
  spelled : written_out linked ≡ Ok out

has_all : (source linked out : List LineValue) (release : Option (List ℕ)) → AreStages source linked out → HasAll source linked (behind release out)
unfolding made
has_all source linked out release s = record {
  zones = λ name. declares_is zone_name all name ∙ ap (λ names. has names name) zones ∙ sym (declares_is zone_name linked name)
      ∙ zones_stay source linked s.led name;
  rulesets = λ name h. declares_is ruleset_name all name ∙ ap (λ names. has names name) rulesets
      ∙ has_append (names_by ruleset_name linked) (names_by ruleset_name (made linked)) name
      ∙ or_left _ _ (kept name h);
  made_too = λ pair h among. declares_is ruleset_name all (name_in linked pair) ∙ ap (λ names. has names (name_in linked pair)) rulesets
      ∙ has_append (names_by ruleset_name linked) (names_by ruleset_name (made linked)) (name_in linked pair)
      ∙ or_right _ _ (made_has linked pair (pairs_of linked) (declares_is ruleset_name linked pair.rules ∙ kept pair.rules h) among);
}
  where
    all : List LineValue
    all = behind release out

    zones : names_by zone_name all ≡ names_by zone_name linked
    zones = same_behind zone_name refl release out ∙ parts_zones out ∙ out_zones linked out s.spelled

    rulesets : names_by ruleset_name all ≡ names_by ruleset_name linked ++ names_by ruleset_name (made linked)
    rulesets = same_behind ruleset_name refl release out ∙ parts_rules out ∙ out_rules linked out s.spelled

    kept : (name : List ℕ) → has_ruleset source name ≡ true → has (names_by ruleset_name linked) name ≡ true
    kept name h = ap (λ names. has names name) (rulesets_stay source linked s.led) ∙ sym (declares_is ruleset_name source name) ∙ h

behind_all : (P : LineValue → Type 0) (release : Option (List ℕ)) → ((name : List ℕ) → release ≡ Some name → P space) → (out : List LineValue) → All P out
    → All P (behind release out)
behind_all P None blank out all = in_all_parts P out all
behind_all P (Some release) blank out all = All-cons P space (in_parts out) (blank release refl) (in_all_parts P out all)

all_clean : (source linked out : List LineValue) (release : Option (List ℕ)) → AreStages source linked out
    → AreClean (behind release out) [] (behind release out)
unfolding made
all_clean source linked out release s =
    let is = are_settled source linked s.led in
    let all = behind release out in
    let there = has_all source linked out release s in
    clean_from all [] all
    (behind_all (IsSound all) release (λ name e. tt) out (subst (All (IsSound all)) (sym (written_is linked out s.spelled))
    (All-append (IsSound all) (map (changed (name_in linked)) linked) (made linked)
    (lines_sound source linked all there linked is.sound (all_ask [] linked)) (made_sound all linked (pairs_of linked)))))
    (subst (AreFresh []) (sym (same_behind zone_name refl release out ∙ parts_zones out ∙ out_zones linked out s.spelled)) is.zones)
    (subst (AreFresh []) (sym (same_behind new_name refl release out ∙ parts_links out ∙ out_links linked out s.spelled)) is.links)

-- ---- how long its links are

link_within : (v : LineValue) → link_size v ≤ length (plain_text v ++ 10 ∷ [])
link_within (link existing new) = omega (arith, length-append (plain_text (link existing new)) (10 ∷ []))
link_within _ = omega arith

links_within : (values : List LineValue) → sum_by link_size values ≤ length (flat_map (λ v. plain_text v ++ 10 ∷ []) values)
links_within [] = omega arith
links_within (v ∷ values) =
    omega (
      arith,
      sum_by-cons link_size v values,
      link_within v,
      links_within values,
      length-append (plain_text v ++ 10 ∷ []) (flat_map (λ v. plain_text v ++ 10 ∷ []) values),
    )

links_behind : (release : Option (List ℕ)) (out : List LineValue) → sum_by link_size (behind release out) ≡ sum_by link_size (in_parts out)
links_behind None out = refl
links_behind (Some release) out = refl

links_short : (release : Option (List ℕ)) (head : List ℕ) (out : List LineValue) → length (head ++ written out) ≤ text_limit
    → sum_by link_size (behind release out) ≤ text_limit
links_short release head out short =
    let sized = ap length (written_in_parts out) in
    omega (arith, links_behind release out, links_within (in_parts out), sized, length-append head (written out), short)

-- ---- it asks for nothing, and is written as it stands

all_none : (values : List LineValue) → All (λ v. asked v ≡ nothing) values → HasNoOffsets values
all_none [] none = tt
all_none (v ∷ values) none =
    (All-head (λ v. asked v ≡ nothing) v values none, all_none values (All-tail (λ v. asked v ≡ nothing) v values none))

part_is : (part : Part) (values : List LineValue) → filter (is_in part) values ≡ flat_map (λ v. cond (is_in part v) (v ∷ []) []) values
part_is part [] = refl
part_is part (v ∷ values) = by (is_in part v) (part_is part values)
  where
    by : (b : Bool) → filter (is_in part) values ≡ flat_map (λ v. cond (is_in part v) (v ∷ []) []) values
        → cond b (v ∷ filter (is_in part) values) (filter (is_in part) values) ≡ cond b (v ∷ []) [] ++ flat_map (λ v. cond (is_in part v) (v ∷ []) []) values
    by true e = ap (λ vs. v ∷ vs) e
    by false e = e

-- the parts of what stands in parts are its parts
parts_again : (values : List LineValue) → in_parts (in_parts values) ≡ in_parts values
parts_again values = λ i. (one Rules i ++ one Zones i) ++ one Links i
  where
    one : (part : Part) → filter (is_in part) (in_parts values) ≡ filter (is_in part) values
    one part =
        part_is part (in_parts values)
        ∙ parts_give (λ v. cond (is_in part v) (v ∷ []) []) part (λ v e. ap (λ b. cond b (v ∷ []) []) e) values ∙ sym (part_is part values)

written_again : (release : Option (List ℕ)) (out : List LineValue) → written (behind release out) ≡ written out
written_again release out =
    written_in_parts (behind release out) ∙ ap (flat_map (λ v. plain_text v ++ 10 ∷ [])) (by release ∙ parts_again out) ∙ sym (written_in_parts out)
  where
    by : (release : Option (List ℕ)) → in_parts (behind release out) ≡ in_parts (in_parts out)
    by None = refl
    by (Some release) = refl

-- ---- a blank line can be said where a release was named

blank_said : (source release : List ℕ) (values : List LineValue) → values_in source ≡ Ok values → release_of source ≡ Some release → is_said space ≡ true
unfolding values_in release_of values_from
blank_said source release values meant names = by (lines_of source) names meant
  where
    mark : List ℕ
    mark = mark_in source

    tested : (b : Bool) (more : Result (List LineValue) LineFault) → is_said space ≡ b
        → ◌>>=◌ (numbered 1 (cond b (Ok space) (Err cause.Unsayable))) (λ w. onto w more) ≡ Ok values → is_said space ≡ true
    tested true more e h = e
    tested false more e h = no_ok h

    rest : List (List ℕ) → LineValue → Result (List LineValue) LineFault
    rest lines v = ◌>>=◌ (numbered 1 (named mark v)) (λ w. onto w (values_from (named mark) (is_open_after false v) 2 lines))

    begun : (line : List ℕ) (lines : List (List ℕ)) (r : Result LineValue PlainCause) → line_meaning false line ≡ r
        → values_from (named mark) false 1 (line ∷ lines) ≡ ◌>>=◌ (numbered 1 r) (rest lines)
    begun line lines r e = ap (λ r. ◌>>=◌ (numbered 1 r) (rest lines)) e

    read : (line : List ℕ) (lines : List (List ℕ)) → line ≡ line_naming release → (b : Bool) → is_utf8 line ≡ b
        → values_from (named mark) false 1 (line ∷ lines) ≡ Ok values → is_said space ≡ true
    read line lines same true text h =
        let means = ap (line_meaning false) same ∙ heading_means release (ap is_utf8 (sym same) ∙ text) in
        tested (is_said space) _ refl (sym (begun line lines (Ok space) means) ∙ h)
    read line lines same false text h = no_ok (sym (begun line lines (Err cause.NotText) (no_text false line text)) ∙ h)

    by : (lines : List (List ℕ)) → option_and_then named_by (slice_get lines 0) ≡ Some release → values_from (named mark) false 1 lines ≡ Ok values
        → is_said space ≡ true
    by [] names h = search rules
    by (line ∷ lines) names h = read line lines (named_line line release names) (is_utf8 line) refl h

-- ---- the law

own : (source bytes : List ℕ) → IsPlaced source bytes → plain_of bytes ≡ Ok bytes
unfolding head_of
own source bytes is =
    let back = is.back in
    let release = release_of source in
    let in_front = headed source back.head back.out back.heads back.read (in_all_parts IsSaid back.out is.said) (parts_followed back.out is.followed) in
    let stages : AreStages (named_lines back.meant) back.linked back.out = record { led = back.led; spelled = back.spelled } in
    let again = written_again release back.out in
    let short = subst (λ b. length b ≤ text_limit) back.wrote is.short in
    let named_well = behind_all IsSaidAsMeant release
    (λ name e. record { name = refl; said = blank_said source name (named_lines back.meant) is.values e })
    back.out (All-weaker IsSaid IsSaidAsMeant (λ v said. record { name = name_said v said; said = said }) back.out is.said) in
    let none = all_none (behind release back.out) (behind_all (λ v. asked v ≡ nothing) release (λ name e. refl) back.out
    (none_left back.linked back.out is.linked_said back.spelled)) in
    let kept = kept_by (back.head ++ written back.out) back.head (behind release back.out)
    (ap head_with in_front.release ∙ back.heads)
    (names_stay (back.head ++ written back.out) (behind release back.out) in_front.means named_well)
    (clean_stays (behind release back.out) (all_clean (named_lines back.meant) back.linked back.out release stages)
    (links_short release back.head back.out short))
    none (subst (λ w. length (back.head ++ w) ≤ text_limit) (sym again) short) in
    subst (λ b. plain_of b ≡ Ok b) (sym back.wrote) (kept ∙ ap (λ w. Ok (back.head ++ w)) again)

-- a plain form is its own plain form
pub its_own : (source bytes : List ℕ) → plain_of source ≡ Ok bytes → plain_of bytes ≡ Ok bytes
its_own source bytes h = own source bytes (read_as_meant source bytes h)
