-- The lines of zones that are written stand in their places, each where one has to follow.
use Rattle.std.{proofs.Common.{◌≡◌, ℕ, suc, ◌+◌, List, [], ◌∷◌, ◌++◌, map, filter, Bool, true, false, cond, not, Option, Some, None, Result, Ok, Err, IfOk, refl, nat_lt}, specs.Prelude.{is_some}, proofs.lemmas.Bool.{both_ways, and_parts, and_from}}
use Rattle.zone_outside.specs.Limit.{text_limit}
use Rattle.zone_table.specs.{Values.{RuleValue, LineValue, space, zone, continuation, rule, link}, Results.{◌>>=◌}}
use Rattle.zone_source.specs.Lines.{lines_of}
use Rattle.zone_plain_lines.specs.{declared.cause.PlainCause.{PlainCause}, LineFaults.{LineFault, Refusal, too_long, numbered, by_line, onto}, MeantLaws.{holds, either}, Said.{is_said, if_said}, Renamed.{renamed}}
use Rattle.zone_plain_lines.specs.declared.cause.PlainCause.TheVariants as cause
use Rattle.zone_plain.specs.{Declares.{has_zone, target_of}, Leads.{zone_behind}, Settled.{lacks_rules, link_to, link_after, settled_link, settled_line, link_size, settled_from, settled}}
use Rattle.zone_plain.specs.{Made.{changed_by, changed, made_rule, name_in, rules_named, made_for, made}, Pairs.{Pair, Asked, nothing, total, under, asked, pairs_of}, WrittenOut.{refused_from, written_unless, written_out}}
use Rattle.zone_plain.specs.{LineValues.{line_meaning, is_open_after, values_from, mark_in, named, values_in}, Written.{Rules, Zones, Links, is_in}, WrittenLines.{in_parts}}
use Rattle.zone_plain.proofs.{Followed.{are_followed}, Placed.{are_placed}}

-- lines that follow where they have to follow a line of a zone
placed_more : (b : Bool) (values : List LineValue) → are_placed false values ≡ true → are_placed b values ≡ true
placed_more b [] h = refl
placed_more b (space ∷ values) h = placed_more b values h
placed_more b (continuation info ∷ values) h = absurd (both_ways false refl h)
placed_more b (_ ∷ values) h = h

placed_behind : (b : Bool) (values : List LineValue) → are_placed b values ≡ true → are_placed true values ≡ true
placed_behind true values h = h
placed_behind false values h = placed_more true values h

pub followed_placed : (b : Bool) (values : List LineValue) → are_followed b values ≡ true → are_placed b values ≡ true
followed_placed b [] h = refl
followed_placed b (space ∷ values) h = followed_placed b values h
followed_placed b (zone name info ∷ values) h =
    let both = and_parts (not b) (are_followed (is_some info.time) values) h in
    placed_behind (is_some info.time) values (followed_placed (is_some info.time) values both.1)
followed_placed b (continuation info ∷ values) h =
    let both = and_parts b (are_followed (is_some info.time) values) h in
    and_from b _ both.0 (placed_behind (is_some info.time) values (followed_placed (is_some info.time) values both.1))
followed_placed b (_ ∷ values) h = followed_placed false values (and_parts (not b) (are_followed false values) h).1

-- ---- what a source means

-- no line of a zone is read as one where none has to follow
abbrev IsFirst : LineValue → Type 0
IsFirst (continuation info) = ⊥
IsFirst v = Unit {0}

-- where one has to follow, only a line of a zone is read
abbrev IsNext : LineValue → Type 0
IsNext space = Unit {0}
IsNext (continuation info) = Unit {0}
IsNext _ = ⊥

abbrev StandsIn : Bool → LineValue → Type 0
StandsIn true v = IsNext v
StandsIn false v = IsFirst v

stands_meant : (is_open : Bool) (line : List ℕ) → IfOk (line_meaning is_open line) (StandsIn is_open)
stands_meant true line = holds IsNext true (record {
  blank = tt;
  next = λ info e good. tt;
  first = λ name info e good. absurd (both_ways true e refl);
  rules = λ r e. absurd (both_ways true e refl);
  links = λ existing new e. absurd (both_ways true e refl);
}) line
stands_meant false line = holds IsFirst false (record {
  blank = tt;
  next = λ info e good. absurd (both_ways false refl e);
  first = λ name info e good. tt;
  rules = λ r e. tt;
  links = λ existing new e. tt;
}) line

followed_on : (mark : List ℕ) (is_open : Bool) (v : LineValue) (values : List LineValue) → StandsIn is_open v
    → are_followed (is_open_after is_open v) values ≡ true → are_followed is_open (renamed mark v ∷ values) ≡ true
followed_on mark true (zone name info) values kind h = absurd kind
followed_on mark false (continuation info) values kind h = absurd kind
followed_on mark true (rule r) values kind h = absurd kind
followed_on mark true (link existing new) values kind h = absurd kind
followed_on mark _ _ values kind h = h

followed_from : (mark : List ℕ) (is_open : Bool) (n : ℕ) (lines : List (List ℕ))
    → IfOk (values_from (named mark) is_open n lines) (λ values. are_followed is_open values ≡ true)
unfolding values_from
followed_from mark true n [] = tt
followed_from mark false n [] = refl
followed_from mark is_open n (line ∷ lines) =
    by (line_meaning is_open line) (stands_meant is_open line) (λ v. followed_from mark (is_open_after is_open v) (suc n) lines)
  where
    rest : (v : LineValue) (r : Result (List LineValue) LineFault) → StandsIn is_open v
        → IfOk r (λ values. are_followed (is_open_after is_open v) values ≡ true)
        → IfOk (onto (renamed mark v) r) (λ values. are_followed is_open values ≡ true)
    rest v (Err e) kind more = tt
    rest v (Ok values) kind more = followed_on mark is_open v values kind more

    test : (v : LineValue) (b : Bool) → StandsIn is_open v
        → IfOk (values_from (named mark) (is_open_after is_open v) (suc n) lines) (λ values. are_followed (is_open_after is_open v) values ≡ true)
        → IfOk (◌>>=◌ (numbered n (cond b (Ok (renamed mark v)) (Err cause.Unsayable)))
        (λ w. onto w (values_from (named mark) (is_open_after is_open v) (suc n) lines))) (λ values. are_followed is_open values ≡ true)
    test v false kind more = tt
    test v true kind more = rest v (values_from (named mark) (is_open_after is_open v) (suc n) lines) kind more

    by : (r : Result LineValue PlainCause) → IfOk r (StandsIn is_open)
        → ((v : LineValue) → IfOk (values_from (named mark) (is_open_after is_open v) (suc n) lines)
        (λ values. are_followed (is_open_after is_open v) values ≡ true))
        → IfOk (◌>>=◌ (numbered n r) (λ v. ◌>>=◌ (numbered n (named mark v)) (λ w. onto w (values_from (named mark) (is_open_after is_open v) (suc n) lines))))
        (λ values. are_followed is_open values ≡ true)
    by (Err e) kind more = tt
    by (Ok v) kind more = test v (is_said (renamed mark v)) kind (more v)

-- in a source each line of a zone has its place
pub source_followed : (source : List ℕ) → IfOk (values_in source) (λ values. are_followed false values ≡ true)
unfolding values_in
source_followed source = followed_from (mark_in source) false 1 (lines_of source)

-- ---- what becomes of it

-- lines of zones that are followed stay so
abbrev pub StaysFollowed : List LineValue → List LineValue → Type 0
StaysFollowed vs ws = (b : Bool) → are_followed b vs ≡ true → are_followed b ws ≡ true

-- a line becomes this one, before others that stay so
abbrev Stays : LineValue → LineValue → Type 0
Stays v w = (vs ws : List LineValue) → StaysFollowed vs ws → StaysFollowed (v ∷ vs) (w ∷ ws)

same_stays : (v : LineValue) → Stays v v
same_stays space vs ws rest b h = rest b h
same_stays (zone name info) vs ws rest false h = rest (is_some info.time) h
same_stays (continuation info) vs ws rest true h = rest (is_some info.time) h
same_stays (rule r) vs ws rest false h = rest false h
same_stays (link existing new) vs ws rest false h = rest false h
same_stays _ vs ws rest _ h = absurd (both_ways false refl h)

link_stays : (existing new other more : List ℕ) → Stays (link existing new) (link other more)
link_stays existing new other more vs ws rest true h = absurd (both_ways false refl h)
link_stays existing new other more vs ws rest false h = rest false h

link_goes : (existing new : List ℕ) → Stays (link existing new) space
link_goes existing new vs ws rest true h = absurd (both_ways false refl h)
link_goes existing new vs ws rest false h = rest false h

link_said : (existing new : List ℕ) (w : LineValue) → Stays (link existing new) w → IfOk (if_said w) (Stays (link existing new))
link_said existing new w kind = either (Stays (link existing new)) (is_said w) (Ok w) (Err cause.Unsayable) (λ _. kind) (λ _. tt)

link_kind : (values before : List LineValue) (existing new : List ℕ) → IfOk (settled_link values before existing new) (Stays (link existing new))
unfolding settled_link
link_kind values before existing new = by (has_zone values new) (target_of before new) (zone_behind values existing)
  where
    again : (earlier : List ℕ) (b : Bool) → IfOk (◌>>=◌ (cond b (Ok space) (Err cause.DuplicateLink)) if_said) (Stays (link existing new))
    again earlier true = link_said existing new space (link_goes existing new)
    again earlier false = tt

    led : (behind : Option (List ℕ)) → IfOk (◌>>=◌ (link_to behind new) if_said) (Stays (link existing new))
    led None = tt
    led (Some name) = link_said existing new (link name new) (link_stays existing new name new)

    by : (b : Bool) (o behind : Option (List ℕ))
        → IfOk (cond b (Err cause.LinkIsZone) (◌>>=◌ (link_after values o existing new) if_said)) (Stays (link existing new))
    by true o behind = tt
    by false None behind = led (zone_behind values existing)
    by false (Some earlier) behind = again earlier _

line_kind : (values before : List LineValue) (v : LineValue) → IfOk (settled_line values before v) (Stays v)
unfolding settled_line
line_kind values before (continuation info) =
    either (Stays (continuation info)) (lacks_rules values info.saving) _ _ (λ _. tt) (λ _. same_stays (continuation info))
line_kind values before (zone name info) =
    either (Stays (zone name info)) (lacks_rules values info.saving) _ _ (λ _. tt)
    (λ _. either (Stays (zone name info)) (has_zone before name) _ _ (λ _. tt) (λ _. same_stays (zone name info)))
line_kind values before (link existing new) = link_kind values before existing new
line_kind values before v = same_stays v

settled_on : (values before : List LineValue) (n size : ℕ) (vs : List LineValue) → IfOk (settled_from values before n size vs) (StaysFollowed vs)
unfolding settled_from
settled_on values before n size [] = λ b h. h
settled_on values before n size (v ∷ vs) =
    by (settled_line values before v) (line_kind values before v) (λ w. settled_on values (before ++ v ∷ []) (suc n) (size + link_size w) vs)
  where
    rest : (w : LineValue) (r : Result (List LineValue) Refusal) → Stays v w → IfOk r (StaysFollowed vs) → IfOk (onto w r) (StaysFollowed (v ∷ vs))
    rest w (Err e) kind more = tt
    rest w (Ok ws) kind more = kind vs ws more

    by : (r : Result LineValue PlainCause) → IfOk r (Stays v)
        → ((w : LineValue) → IfOk (settled_from values (before ++ v ∷ []) (suc n) (size + link_size w) vs) (StaysFollowed vs))
        → IfOk (◌>>=◌ (by_line (numbered n r)) (λ w. cond (nat_lt text_limit (size + link_size w)) (Err too_long)
        (onto w (settled_from values (before ++ v ∷ []) (suc n) (size + link_size w) vs)))) (StaysFollowed (v ∷ vs))
    by (Err e) kind more = tt
    by (Ok w) kind more = small (nat_lt text_limit (size + link_size w))
      where
        small : (b : Bool) → IfOk (cond b (Err too_long) (onto w (settled_from values (before ++ v ∷ []) (suc n) (size + link_size w) vs))) (StaysFollowed (v ∷ vs))
        small true = tt
        small false = rest w (settled_from values (before ++ v ∷ []) (suc n) (size + link_size w) vs) kind (more w)

-- links that are led keep the places
pub settled_followed : (values : List LineValue) → IfOk (settled values) (StaysFollowed values)
unfolding settled
settled_followed values = settled_on values [] 1 0 values

changed_stays : (name_of : Pair → List ℕ) (a : Asked) (v : LineValue) → Stays v (changed_by name_of a v)
changed_stays name_of nothing v = same_stays v
changed_stays name_of (total parts t) space = same_stays space
changed_stays name_of (under parts pair) space = same_stays space
changed_stays name_of _ v = same_stays v

-- lines that are followed, and behind them others
followed_more : (b : Bool) (vs more : List LineValue) → are_followed b vs ≡ true → are_followed false more ≡ true → are_followed b (vs ++ more) ≡ true
followed_more false [] more h m = m
followed_more b (space ∷ vs) more h m = followed_more b vs more h m
followed_more false (zone name info ∷ vs) more h m = followed_more (is_some info.time) vs more h m
followed_more true (continuation info ∷ vs) more h m = followed_more (is_some info.time) vs more h m
followed_more false (rule r ∷ vs) more h m = followed_more false vs more h m
followed_more false (link existing new ∷ vs) more h m = followed_more false vs more h m
followed_more _ _ more h m = absurd (both_ways false refl h)

changed_followed : (name_of : Pair → List ℕ) (vs : List LineValue) → StaysFollowed vs (map (changed name_of) vs)
changed_followed name_of [] = λ b h. h
changed_followed name_of (v ∷ vs) = changed_stays name_of (asked v) v vs (map (changed name_of) vs) (changed_followed name_of vs)

rules_followed : (name : List ℕ) (pair : Pair) (rules : List RuleValue) (more : List LineValue) → are_followed false more ≡ true
    → are_followed false (map (λ r. rule (made_rule name pair.offset r)) rules ++ more) ≡ true
rules_followed name pair [] more m = m
rules_followed name pair (r ∷ rules) more m = rules_followed name pair rules more m

made_followed : (all : List LineValue) (pairs : List Pair) → are_followed false (made_for all pairs) ≡ true
made_followed all [] = refl
made_followed all (pair ∷ pairs) =
    rules_followed (name_in all pair) pair (rules_named all pair.rules) (made_for all pairs) (made_followed all pairs)

-- and so do lines with `%z` written out
pub out_followed : (values : List LineValue) → IfOk (written_out values) (StaysFollowed values)
unfolding written_out made
out_followed values = by (refused_from text_limit values 1 [] values)
  where
    by : (o : Option Refusal) → IfOk (written_unless values o) (StaysFollowed values)
    by (Some refusal) = tt
    by None = λ b h.
        followed_more b (map (changed (name_in values)) values) (made_for values (pairs_of values)) (changed_followed (name_in values) values b h)
        (made_followed values (pairs_of values))

-- ---- by their parts

zones_followed : (b : Bool) (vs : List LineValue) → are_followed b vs ≡ true → are_followed b (filter (is_in Zones) vs) ≡ true
zones_followed b [] h = h
zones_followed b (space ∷ vs) h = zones_followed b vs h
zones_followed false (zone name info ∷ vs) h = zones_followed (is_some info.time) vs h
zones_followed true (continuation info ∷ vs) h = zones_followed (is_some info.time) vs h
zones_followed false (rule r ∷ vs) h = zones_followed false vs h
zones_followed false (link existing new ∷ vs) h = zones_followed false vs h
zones_followed _ (_ ∷ vs) h = absurd (both_ways false refl h)

rules_before : (vs more : List LineValue) → are_followed false more ≡ true → are_followed false (filter (is_in Rules) vs ++ more) ≡ true
rules_before [] more m = m
rules_before (space ∷ vs) more m = rules_before vs more m
rules_before (_ ∷ vs) more m = rules_before vs more m

links_followed : (vs : List LineValue) → are_followed false (filter (is_in Links) vs) ≡ true
links_followed [] = refl
links_followed (space ∷ vs) = links_followed vs
links_followed (_ ∷ vs) = links_followed vs

-- the parts of lines that are followed are followed
pub parts_followed : (vs : List LineValue) → are_followed false vs ≡ true → are_followed false (in_parts vs) ≡ true
parts_followed vs h =
    followed_more false (filter (is_in Rules) vs ++ filter (is_in Zones) vs) (filter (is_in Links) vs)
    (rules_before vs (filter (is_in Zones) vs) (zones_followed false vs h)) (links_followed vs)
