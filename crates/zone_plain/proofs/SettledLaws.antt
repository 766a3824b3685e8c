-- What becomes of a source as a whole: each link leads to a zone, and what needs nothing stays.
use Rattle.std.proofs.Common.{◌≡◌, ℕ, suc, ◌+◌, List, [], ◌∷◌, ◌++◌, Bool, true, false, cond, Option, Some, None, Result, Ok, Err, refl, sym, ap, ◌∙◌, subst, nat_lt, rules}
use Rattle.std.specs.{Prelude.{bytes_eq, ◌&&◌, ◌||◌, is_some, option_and_then}, Result.{result_unwrap_or}, Cmp.Lexicographic.{bytes_decides}, List.{list_all}, Option.{option_or}}
use Rattle.zone_outside.specs.Limit.{text_limit}
use Rattle.zone_table.specs.{Values.{LineValue, InfoValue, space, zone, continuation, link}, Results.{◌>>=◌}}
use Rattle.zone_plain_lines.specs.{declared.cause.PlainCause.{PlainCause}, LineFaults.{Refusal, too_long, numbered, by_line, onto}, Said.{is_said, if_said}}
use Rattle.zone_plain_lines.specs.declared.cause.PlainCause.TheVariants as cause
use Rattle.zone_plain.specs.{Declares.{zone_name, is_that, has_zone, target_by, target_of}, Leads.{zone_behind}, Needs.{is_to_zone, has_zones_as_targets, NeedsNothing}}
use Rattle.zone_plain.specs.Settled.{lacks_rules, link_to, link_after, settled_link, settled_line, link_size, settled_from, settled}
use Rattle.zone_plain.proofs.{TargetLaws.{target-more, or_none}, LeadsLaws.{is_zone_behind, behind_itself}}

pub ok_is : {A E : Type 0} {a b : A} → ◌≡◌ {A = Result A E} (Ok a) (Ok b) → a ≡ b
ok_is {a = a} e = ap (λ r. result_unwrap_or r a) e

pub no_ok : {X A E : Type 0} {e : E} {a : A} → Err e ≡ Ok a → X
no_ok h = search rules

-- what a link that isn't refused becomes: the first of its name a link to the zone behind its target, and a later one nothing
pub data Becomes (values before : List LineValue) (existing new : List ℕ) (w : LineValue) : Type 0 where
  as_link : (z : List ℕ) → target_of before new ≡ None → zone_behind values existing ≡ Some z → link z new ≡ w → Becomes values before existing new w
  as_nothing : (t : List ℕ) → target_of before new ≡ Some t → space ≡ w → Becomes values before existing new w

said_is : (found w : LineValue) → if_said found ≡ Ok w → found ≡ w
said_is found w h = by (is_said found) h
  where
    by : (b : Bool) → cond b (Ok found) (Err cause.Unsayable) ≡ Ok w → found ≡ w
    by true h = ok_is h
    by false h = no_ok h

pub becomes : (values before : List LineValue) (existing new : List ℕ) (w : LineValue) → settled_link values before existing new ≡ Ok w
    → Becomes values before existing new w
unfolding settled_link
becomes values before existing new w h = by (has_zone values new) h
  where
    linked : (o : Option (List ℕ)) → target_of before new ≡ None → zone_behind values existing ≡ o → ◌>>=◌ (link_to o new) if_said ≡ Ok w
        → Becomes values before existing new w
    linked None first e h = no_ok h
    linked (Some z) first e h = as_link z first e (said_is (link z new) w h)

    same : (t : List ℕ) (b : Bool) → target_of before new ≡ Some t → ◌>>=◌ (cond b (Ok space) (Err cause.DuplicateLink)) if_said ≡ Ok w
        → Becomes values before existing new w
    same t true later h = as_nothing t later (said_is space w h)
    same t false later h = no_ok h

    after : (o : Option (List ℕ)) → target_of before new ≡ o → ◌>>=◌ (link_after values o existing new) if_said ≡ Ok w
        → Becomes values before existing new w
    after None first h = linked (zone_behind values existing) first refl h
    after (Some earlier) later h = same earlier (bytes_eq earlier existing) later h

    by : (b : Bool) → cond b (Err cause.LinkIsZone) (◌>>=◌ (link_after values (target_of before new) existing new) if_said) ≡ Ok w
        → Becomes values before existing new w
    by true h = no_ok h
    by false h = after (target_of before new) refl h

-- what is known of a line that isn't refused: it has the zone that it had, and is no link or a link to a zone
record IsLed (values : List LineValue) (v w : LineValue) : Type 0 where
  pub zone_stays : zone_name w ≡ zone_name v
  pub to_zone : is_to_zone (has_zone values) w ≡ true

no_link_led : (values : List LineValue) (v w : LineValue) → is_to_zone (has_zone values) v ≡ true → v ≡ w → IsLed values v w
no_link_led values v w is e = record { zone_stays = ap zone_name (sym e); to_zone = ap (is_to_zone (has_zone values)) (sym e) ∙ is }

link_led : (values before : List LineValue) (existing new : List ℕ) (w : LineValue) → Becomes values before existing new w
    → IsLed values (link existing new) w
link_led values before existing new w (as_link z first behind e) = record {
  zone_stays = ap zone_name (sym e);
  to_zone = ap (is_to_zone (has_zone values)) (sym e) ∙ is_zone_behind values existing z behind;
}
link_led values before existing new w (as_nothing t later e) = record { zone_stays = ap zone_name (sym e); to_zone = ap (is_to_zone (has_zone values)) (sym e) }

pub continuation_is : (values before : List LineValue) (info : InfoValue) (w : LineValue) → settled_line values before (continuation info) ≡ Ok w
    → continuation info ≡ w
unfolding settled_line
continuation_is values before info w h = by (lacks_rules values info.saving) h
  where
    by : (b : Bool) → cond b (Err cause.UnknownRuleset) (Ok (continuation info)) ≡ Ok w → continuation info ≡ w
    by true h = no_ok h
    by false h = ok_is h

pub zone_is : (values before : List LineValue) (name : List ℕ) (info : InfoValue) (w : LineValue) → settled_line values before (zone name info) ≡ Ok w
    → zone name info ≡ w
unfolding settled_line
zone_is values before name info w h = by (lacks_rules values info.saving) (has_zone before name) h
  where
    by : (b c : Bool) → cond b (Err cause.UnknownRuleset) (cond c (Err cause.DuplicateZone) (Ok (zone name info))) ≡ Ok w → zone name info ≡ w
    by true c h = no_ok h
    by false true h = no_ok h
    by false false h = ok_is h

led : (values before : List LineValue) (v w : LineValue) → settled_line values before v ≡ Ok w → IsLed values v w
unfolding settled_line
led values before (continuation info) w h = no_link_led values (continuation info) w refl (continuation_is values before info w h)
led values before (zone name info) w h = no_link_led values (zone name info) w refl (zone_is values before name info w h)
led values before (link existing new) w h = link_led values before existing new w (becomes values before existing new w h)
led values before v w h = no_link_led values v w refl (ok_is h)

-- the first line that isn't refused, and what becomes of the others
pub record Steps (values before : List LineValue) (n size : ℕ) (v : LineValue) (vs ws : List LineValue) : Type 0 where
  pub line : LineValue
  pub lines : List LineValue
  pub here : settled_line values before v ≡ Ok line
  pub on : settled_from values (before ++ v ∷ []) (suc n) (size + link_size line) vs ≡ Ok lines
  pub is : ws ≡ line ∷ lines

pub steps : (values before : List LineValue) (n size : ℕ) (v : LineValue) (vs ws : List LineValue)
    → settled_from values before n size (v ∷ vs) ≡ Ok ws → Steps values before n size v vs ws
unfolding settled_from
steps values before n size v vs ws h = by (settled_line values before v) refl h
  where
    kept : (w : LineValue) (r : Result (List LineValue) Refusal) → settled_line values before v ≡ Ok w
        → settled_from values (before ++ v ∷ []) (suc n) (size + link_size w) vs ≡ r → onto w r ≡ Ok ws → Steps values before n size v vs ws
    kept w (Ok lines) here on h = record { line = w; lines = lines; here = here; on = on; is = sym (ok_is h) }
    kept w (Err e) here on h = no_ok h

    small : (w : LineValue) (b : Bool) → settled_line values before v ≡ Ok w
        → cond b (Err too_long) (onto w (settled_from values (before ++ v ∷ []) (suc n) (size + link_size w) vs)) ≡ Ok ws
        → Steps values before n size v vs ws
    small w true here h = no_ok h
    small w false here h = kept w (settled_from values (before ++ v ∷ []) (suc n) (size + link_size w) vs) here refl h

    by : (r : Result LineValue PlainCause) → settled_line values before v ≡ r
        → ◌>>=◌ (by_line (numbered n r)) (λ w. cond (nat_lt text_limit (size + link_size w)) (Err too_long)
        (onto w (settled_from values (before ++ v ∷ []) (suc n) (size + link_size w) vs))) ≡ Ok ws
        → Steps values before n size v vs ws
    by (Ok w) here h = small w (nat_lt text_limit (size + link_size w)) here h
    by (Err c) here h = no_ok h

-- the zones that the lines have are those that they had
zones_from : (values before : List LineValue) (n size : ℕ) (vs ws : List LineValue) → settled_from values before n size vs ≡ Ok ws
    → (name : List ℕ) → has_zone ws name ≡ has_zone vs name
unfolding settled_from
zones_from values before n size [] ws h name = ap (λ l. has_zone l name) (sym (ok_is h))
zones_from values before n size (v ∷ vs) ws h name =
    by (steps values before n size v vs ws h) (λ w lines. zones_from values (before ++ v ∷ []) (suc n) (size + link_size w) vs lines)
  where
    by : Steps values before n size v vs ws
        → ((w : LineValue) (lines : List LineValue) → settled_from values (before ++ v ∷ []) (suc n) (size + link_size w) vs ≡ Ok lines
        → (q : List ℕ) → has_zone lines q ≡ has_zone vs q)
        → has_zone ws name ≡ has_zone (v ∷ vs) name
    by s more =
        ap (λ l. has_zone l name) s.is
        ∙ ap (λ o. is_that o name || has_zone s.lines name) (led values before v s.line s.here).zone_stays
        ∙ ap (λ b. is_that (zone_name v) name || b) (more s.line s.lines s.on name)

-- and each link's target is a zone of the source
targets_from : (values before : List LineValue) (n size : ℕ) (vs ws : List LineValue) → settled_from values before n size vs ≡ Ok ws
    → list_all (is_to_zone (has_zone values)) ws ≡ true
unfolding settled_from
targets_from values before n size [] ws h = ap (list_all (is_to_zone (has_zone values))) (sym (ok_is h))
targets_from values before n size (v ∷ vs) ws h =
    by (steps values before n size v vs ws h) (λ w lines. targets_from values (before ++ v ∷ []) (suc n) (size + link_size w) vs lines)
  where
    by : Steps values before n size v vs ws
        → ((w : LineValue) (lines : List LineValue) → settled_from values (before ++ v ∷ []) (suc n) (size + link_size w) vs ≡ Ok lines
        → list_all (is_to_zone (has_zone values)) lines ≡ true)
        → list_all (is_to_zone (has_zone values)) ws ≡ true
    by s more =
        ap (list_all (is_to_zone (has_zone values))) s.is
        ∙ ap (λ b. b && list_all (is_to_zone (has_zone values)) s.lines) (led values before v s.line s.here).to_zone
        ∙ more s.line s.lines s.on

to_same : (p q : List ℕ → Bool) → ((name : List ℕ) → p name ≡ q name) → (v : LineValue) → is_to_zone p v ≡ is_to_zone q v
to_same p q same (link existing new) = same existing
to_same p q same _ = refl

all_to_same : (p q : List ℕ → Bool) → ((name : List ℕ) → p name ≡ q name) → (vs : List LineValue)
    → list_all (is_to_zone p) vs ≡ list_all (is_to_zone q) vs
all_to_same p q same [] = refl
all_to_same p q same (v ∷ vs) =
    ap (λ b. b && list_all (is_to_zone p) vs) (to_same p q same v) ∙ ap (λ b. is_to_zone q v && b) (all_to_same p q same vs)

-- a source has the zones that it had
pub zones_stay : (values out : List LineValue) → settled values ≡ Ok out → (name : List ℕ) → has_zone out name ≡ has_zone values name
unfolding settled
zones_stay values out h = zones_from values [] 1 0 values out h

-- each link that is written has a zone of the source as its target
pub targets_are_zones : (values out : List LineValue) → settled values ≡ Ok out → has_zones_as_targets out ≡ true
unfolding settled
targets_are_zones values out h =
    all_to_same (has_zone out) (has_zone values) (zones_stay values out h) out ∙ targets_from values [] 1 0 values out h

-- the target of a name by a line, by what it was and by what links before it say
abbrev IsTarget : (List ℕ → Option (List ℕ)) → Option (List ℕ) → Option (List ℕ) → Option (List ℕ) → Type 0
IsTarget behind earlier None now = now ≡ None
IsTarget behind None (Some t) now = now ≡ behind t
IsTarget behind (Some s) (Some t) now = now ≡ None

link_target : (values before : List LineValue) (existing new : List ℕ) (w : LineValue) (name : List ℕ) (same : Bool) → bytes_eq new name ≡ same
    → Becomes values before existing new w → IsTarget (zone_behind values) (target_of before name) (cond same (Some existing) None) (target_by w name)
link_target values before existing new w name false apart (as_link z first behind e) =
    ap (λ v. target_by v name) (sym e) ∙ ap (λ b. cond b (Some z) None) apart
link_target values before existing new w name false apart (as_nothing t later e) = ap (λ v. target_by v name) (sym e)
link_target values before existing new w name true same (as_link z first behind e) =
    subst (λ earlier. IsTarget (zone_behind values) earlier (Some existing) (target_by w name))
    (sym (ap (target_of before) (sym ((bytes_decides new name).0 same)) ∙ first))
    (ap (λ v. target_by v name) (sym e) ∙ ap (λ b. cond b (Some z) None) same ∙ sym behind)
link_target values before existing new w name true same (as_nothing t later e) =
    subst (λ earlier. IsTarget (zone_behind values) earlier (Some existing) (target_by w name))
    (sym (ap (target_of before) (sym ((bytes_decides new name).0 same)) ∙ later)) (ap (λ v. target_by v name) (sym e))

line_target : (values before : List LineValue) (v w : LineValue) (name : List ℕ) → settled_line values before v ≡ Ok w
    → IsTarget (zone_behind values) (target_of before name) (target_by v name) (target_by w name)
unfolding settled_line
line_target values before (continuation info) w name h = ap (λ u. target_by u name) (sym (continuation_is values before info w h))
line_target values before (zone z info) w name h = ap (λ u. target_by u name) (sym (zone_is values before z info w h))
line_target values before (link existing new) w name h =
    link_target values before existing new w name (bytes_eq new name) refl (becomes values before existing new w h)
line_target values before _ w name h = ap (λ u. target_by u name) (sym (ok_is h))

target_on : (behind : List ℕ → Option (List ℕ)) (earlier was now rest : Option (List ℕ)) → IsTarget behind earlier was now
    → option_or now (cond (is_some (option_or earlier was)) None (option_and_then behind rest))
    ≡ cond (is_some earlier) None (option_and_then behind (option_or was rest))
target_on behind None None now rest e = ap (λ o. option_or o (option_and_then behind rest)) e
target_on behind None (Some t) now rest e = or_none now ∙ e
target_on behind (Some s) None now rest e = ap (λ o. option_or o None) e
target_on behind (Some s) (Some t) now rest e = ap (λ o. option_or o None) e

either_way : (b : Bool) (o : Option (List ℕ)) → o ≡ cond b o o
either_way true o = refl
either_way false o = refl

names_from : (values before : List LineValue) (n size : ℕ) (vs ws : List LineValue) → settled_from values before n size vs ≡ Ok ws
    → (name : List ℕ) → target_of ws name ≡ cond (is_some (target_of before name)) None (option_and_then (zone_behind values) (target_of vs name))
unfolding settled_from
names_from values before n size [] ws h name = ap (λ l. target_of l name) (sym (ok_is h)) ∙ either_way (is_some (target_of before name)) None
names_from values before n size (v ∷ vs) ws h name =
    by (steps values before n size v vs ws h) (λ w lines. names_from values (before ++ v ∷ []) (suc n) (size + link_size w) vs lines)
  where
    by : Steps values before n size v vs ws
        → ((w : LineValue) (lines : List LineValue) → settled_from values (before ++ v ∷ []) (suc n) (size + link_size w) vs ≡ Ok lines
        → (q : List ℕ) → target_of lines q ≡ cond (is_some (target_of (before ++ v ∷ []) q)) None (option_and_then (zone_behind values) (target_of vs q)))
        → target_of ws name ≡ cond (is_some (target_of before name)) None (option_and_then (zone_behind values) (target_of (v ∷ vs) name))
    by s more =
        ap (λ l. target_of l name) s.is ∙ ap (option_or (target_by s.line name)) (more s.line s.lines s.on name)
        ∙ ap (λ o. option_or (target_by s.line name) (cond (is_some o) None (option_and_then (zone_behind values) (target_of vs name))))
        (target-more before v name)
        ∙ target_on (zone_behind values) (target_of before name) (target_by v name) (target_by s.line name) (target_of vs name)
        (line_target values before v s.line name s.here)

-- each name of a link has the zone behind its target as target
pub names_lead : (values out : List LineValue) → settled values ≡ Ok out → (name : List ℕ)
    → target_of out name ≡ option_and_then (zone_behind values) (target_of values name)
unfolding settled
names_lead values out h name = names_from values [] 1 0 values out h name

-- a line that needs nothing stays
pub line_stays : (values before : List LineValue) (v : LineValue) → NeedsNothing values before v → settled_line values before v ≡ Ok v
unfolding settled_line settled_link
line_stays values before (continuation info) needs = rw needs refl
line_stays values before (zone name info) needs = rw (needs.0, needs.1) refl
line_stays values before (link existing new) needs =
    rw (needs.no_zone, needs.first, behind_itself values existing needs.to_zone, needs.said) refl
line_stays values before _ needs = refl

pub step_stays : (values before : List LineValue) (n size : ℕ) (v : LineValue) (vs : List LineValue) → settled_line values before v ≡ Ok v
    → nat_lt text_limit (size + link_size v) ≡ false
    → settled_from values before n size (v ∷ vs) ≡ onto v (settled_from values (before ++ v ∷ []) (suc n) (size + link_size v) vs)
unfolding settled_from
step_stays values before n size v vs is small = rw (is, small) refl
