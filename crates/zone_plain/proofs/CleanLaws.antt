-- A source that needs nothing stays as it is, and the lines of a source that isn't refused need nothing of it.
use Rattle.std.proofs.{Common.{◌≡◌, ℕ, suc, ◌+◌, ◌≤◌, List, [], ◌∷◌, ◌++◌, All, Bool, true, false, cond, Option, Some, None, Result, Ok, Err, IfOk, refl, sym, ap, ◌∙◌, subst, append_assoc, append-nil, nat_lt, arith, rules}, lemmas.Grind.{flat_map-append}}
use Rattle.std.proofs.lemmas.{Bool.{le-ltb, or_parts}, List.Elements.{All-nil, All-cons, All-head, All-tail}, List.Folds.{list_any-append}, List.Sums.{sum_by-cons}}
use Rattle.std.specs.{Prelude.{bytes_eq, option_to_list, unwrap_or, ◌||◌}, List.{sum_by}, Option.{option_or}}
use Rattle.zone_outside.specs.Limit.{text_limit}
use Rattle.zone_table.specs.{Values.{InfoValue, LineValue, zone, continuation, link}, Results.{◌>>=◌}}
use Rattle.zone_plain_lines.specs.{declared.cause.PlainCause.{PlainCause}, LineFaults.{onto}, Said.{is_said, if_said}}
use Rattle.zone_plain_lines.specs.declared.cause.PlainCause.TheVariants as cause
use Rattle.zone_plain.proofs.{Clean.{new_name, names_by, has, AreFresh, IsSound, AreClean}, LeadsLaws.{is_zone_behind}, SettledSaidLaws.{if_said_is}}
use Rattle.zone_plain.proofs.SettledLaws.{ok_is, no_ok, Becomes, as_link, as_nothing, becomes, continuation_is, zone_is, Steps, steps, line_stays, step_stays}
use Rattle.zone_plain.specs.{Declares.{zone_name, ruleset_name, is_that, declares, has_zone, target_of}, Needs.{NeedsNothing, IsPlain}, Settled.{lacks_rules, link_after, settled_link, settled_line, link_size, settled_from, settled}}

-- ---- names

no_some : {X : Type 0} (name : List ℕ) → ◌≡◌ {A = Option (List ℕ)} None (Some name) → X
no_some name e = search rules

some_same : (a b : List ℕ) → Some a ≡ Some b → a ≡ b
some_same a b e = ap (λ o. unwrap_or o a) e

-- some line declares a name exactly where it is among those that the lines give
pub declares_is : (name_of : LineValue → Option (List ℕ)) (values : List LineValue) (name : List ℕ)
    → declares name_of values name ≡ has (names_by name_of values) name
declares_is name_of [] name = refl
declares_is name_of (v ∷ values) name = by (name_of v) (declares_is name_of values name)
  where
    by : (o : Option (List ℕ)) → declares name_of values name ≡ has (names_by name_of values) name
        → (is_that o name || declares name_of values name) ≡ has (option_to_list o ++ names_by name_of values) name
    by None e = e
    by (Some other) e = ap (λ b. bytes_eq other name || b) e

pub names_append : (name_of : LineValue → Option (List ℕ)) (xs ys : List LineValue) → names_by name_of (xs ++ ys) ≡ names_by name_of xs ++ names_by name_of ys
names_append name_of xs ys = flat_map-append (λ v. option_to_list (name_of v)) xs ys

target_absent : (values : List LineValue) (name : List ℕ) → has (names_by new_name values) name ≡ false → target_of values name ≡ None
target_absent [] name h = refl
target_absent (link existing new ∷ values) name h =
    let both = or_parts (bytes_eq new name) (has (names_by new_name values) name) h in
    ap (λ b. option_or (cond b (Some existing) None) (target_of values name)) both.0 ∙ target_absent values name both.1
target_absent (_ ∷ values) name h = target_absent values name h

absent_target : (values : List LineValue) (name : List ℕ) → target_of values name ≡ None → has (names_by new_name values) name ≡ false
absent_target [] name h = refl
absent_target (link existing new ∷ values) name h = by (bytes_eq new name) h (absent_target values name)
  where
    by : (b : Bool) → option_or (cond b (Some existing) None) (target_of values name) ≡ None
        → (target_of values name ≡ None → has (names_by new_name values) name ≡ false) → (b || has (names_by new_name values) name) ≡ false
    by true h more = search rules
    by false h more = more h
absent_target (_ ∷ values) name h = absent_target values name h

-- ---- clean lines stay

stay_from : (values before : List LineValue) (n size : ℕ) (vs : List LineValue) → AreClean values before vs
    → size + sum_by link_size vs ≤ text_limit → settled_from values before n size vs ≡ Ok vs
unfolding settled_from
stay_from values before n size [] clean short = refl
stay_from values before n size (v ∷ vs) clean short =
    let short_on = subst (λ m. size + m ≤ text_limit) (sum_by-cons link_size v vs) short in
    step_stays values before n size v vs (line_stays values before v clean.0) (few size (link_size v) (sum_by link_size vs) short_on)
    ∙ ap (onto v) (stay_from values (before ++ v ∷ []) (suc n) (size + link_size v) vs clean.1 (later size (link_size v) (sum_by link_size vs) short_on))
  where
    few : (a b c : ℕ) → a + (b + c) ≤ text_limit → nat_lt text_limit (a + b) ≡ false
    few a b c short = le-ltb text_limit (a + b) (omega (arith, short))

    later : (a b c : ℕ) → a + (b + c) ≤ text_limit → (a + b) + c ≤ text_limit
    later a b c short = omega (arith, short)

pub clean_stays : (values : List LineValue) → AreClean values [] values → sum_by link_size values ≤ text_limit → settled values ≡ Ok values
unfolding settled
clean_stays values clean short = stay_from values [] 1 0 values clean (from_nothing (sum_by link_size values) short)
  where
    from_nothing : (m : ℕ) → m ≤ text_limit → 0 + m ≤ text_limit
    from_nothing m short = omega (arith, short)

-- lines that need nothing behind those before them are clean
clean_behind : (values before vs : List LineValue)
    → ((earlier after : List LineValue) (v : LineValue) → values ≡ earlier ++ v ∷ after → NeedsNothing values earlier v)
    → values ≡ before ++ vs → AreClean values before vs
clean_behind values before [] needs whole = tt
clean_behind values before (v ∷ vs) needs whole =
    (needs before vs v whole, clean_behind values (before ++ v ∷ []) vs needs (whole ∙ sym (append_assoc before (v ∷ []) vs)))

-- a source that needs nothing stays as it is
pub plain_stays : (values : List LineValue) → IsPlain values → settled values ≡ Ok values
plain_stays values plain = clean_stays values (clean_behind values [] values plain.lines refl) plain.short

-- ---- sound lines of fresh names are clean

-- behind one line more
more : (name_of : LineValue → Option (List ℕ)) (before : List LineValue) (v : LineValue) (names : List (List ℕ))
    → AreFresh (names_by name_of before ++ option_to_list (name_of v)) names → AreFresh (names_by name_of (before ++ v ∷ [])) names
more name_of before v names fresh =
    subst (λ ns. AreFresh ns names)
    (sym (names_append name_of before (v ∷ []) ∙ ap (λ ns. names_by name_of before ++ ns) (append-nil (option_to_list (name_of v))))) fresh

-- a name that may be there before fresh names is fresh
fresh_off : (o : Option (List ℕ)) (before names : List (List ℕ)) → AreFresh before (option_to_list o ++ names)
    → ((name : List ℕ) → o ≡ Some name → has before name ≡ false) × AreFresh (before ++ option_to_list o) names
fresh_off None before names fresh = (λ name e. no_some name e, subst (λ ns. AreFresh ns names) (sym (append-nil before)) fresh)
fresh_off (Some x) before names fresh = (λ name e. ap (has before) (sym (some_same x name e)) ∙ fresh.0, fresh.1)

needs : (all before : List LineValue) (v : LineValue) → IsSound all v → ((name : List ℕ) → zone_name v ≡ Some name → has_zone before name ≡ false)
    → ((name : List ℕ) → new_name v ≡ Some name → target_of before name ≡ None) → NeedsNothing all before v
needs all before (continuation info) sound zones links = sound
needs all before (zone name info) sound zones links = (sound, zones name refl)
needs all before (link existing new) sound zones links =
    record { to_zone = sound.to_zone; no_zone = sound.no_zone; first = links new refl; said = sound.said }
needs all before _ sound zones links = tt

pub clean_from : (all before values : List LineValue) → All (IsSound all) values → AreFresh (names_by zone_name before) (names_by zone_name values)
    → AreFresh (names_by new_name before) (names_by new_name values) → AreClean all before values
clean_from all before [] sound zones links = tt
clean_from all before (v ∷ values) sound zones links =
    let of_zone = fresh_off (zone_name v) (names_by zone_name before) (names_by zone_name values) zones in
    let of_link = fresh_off (new_name v) (names_by new_name before) (names_by new_name values) links in (
      needs all before v (All-head (IsSound all) v values sound) (λ name e. declares_is zone_name before name ∙ of_zone.0 name e)
          (λ name e. target_absent before name (of_link.0 name e)),
      clean_from all (before ++ v ∷ []) values (All-tail (IsSound all) v values sound)
          (more zone_name before v (names_by zone_name values) of_zone.1) (more new_name before v (names_by new_name values) of_link.1),
    )

-- ---- what became of a source's lines is sound, and its names are fresh

-- a line, and what became of it behind those before it
record IsKept (values before : List LineValue) (v w : LineValue) : Type 0 where
  pub sound : IsSound values w
  pub zone_stays : zone_name w ≡ zone_name v
  pub rules_stay : ruleset_name w ≡ ruleset_name v
  pub new_zone : (name : List ℕ) → zone_name w ≡ Some name → has_zone before name ≡ false
  pub new_link : (name : List ℕ) → new_name w ≡ Some name → target_of before name ≡ None
  pub no_more : (name : List ℕ) → has (names_by new_name (v ∷ [])) name ≡ false → has (names_by new_name (w ∷ [])) name ≡ false

-- a line that gives no name to a zone or by a link
plain_kept : (values before : List LineValue) (v w : LineValue) → v ≡ w → IsSound values v → zone_name v ≡ None → new_name v ≡ None → IsKept values before v w
plain_kept values before v w e sound no_zone no_link = record {
  sound = subst (IsSound values) e sound;
  zone_stays = ap zone_name (sym e);
  rules_stay = ap ruleset_name (sym e);
  new_zone = λ name is. no_some name (sym no_zone ∙ ap zone_name e ∙ is);
  new_link = λ name is. no_some name (sym no_link ∙ ap new_name e ∙ is);
  no_more = λ name h. ap (λ u. has (names_by new_name (u ∷ [])) name) (sym e) ∙ h;
}

continuation_kept : (values before : List LineValue) (info : InfoValue) (w : LineValue) → settled_line values before (continuation info) ≡ Ok w
    → IsKept values before (continuation info) w
unfolding settled_line
continuation_kept values before info w h =
    plain_kept values before (continuation info) w (continuation_is values before info w h) (by (lacks_rules values info.saving) refl h) refl refl
  where
    by : (b : Bool) → lacks_rules values info.saving ≡ b → cond b (Err cause.UnknownRuleset) (Ok (continuation info)) ≡ Ok w
        → lacks_rules values info.saving ≡ false
    by true e h = no_ok h
    by false e h = e

zone_needs : (values before : List LineValue) (name : List ℕ) (info : InfoValue) (w : LineValue) → settled_line values before (zone name info) ≡ Ok w
    → (lacks_rules values info.saving ≡ false) × (has_zone before name ≡ false)
unfolding settled_line
zone_needs values before name info w h = by (lacks_rules values info.saving) (has_zone before name) refl refl h
  where
    by : (b c : Bool) → lacks_rules values info.saving ≡ b → has_zone before name ≡ c
        → cond b (Err cause.UnknownRuleset) (cond c (Err cause.DuplicateZone) (Ok (zone name info))) ≡ Ok w
        → (lacks_rules values info.saving ≡ false) × (has_zone before name ≡ false)
    by true c p q h = no_ok h
    by false true p q h = no_ok h
    by false false p q h = (p, q)

zone_kept : (values before : List LineValue) (name : List ℕ) (info : InfoValue) (w : LineValue) → settled_line values before (zone name info) ≡ Ok w
    → IsKept values before (zone name info) w
zone_kept values before name info w h =
    let needs = zone_needs values before name info w h in
    let e = zone_is values before name info w h in record {
      sound = subst (IsSound values) e needs.0;
      zone_stays = ap zone_name (sym e);
      rules_stay = ap ruleset_name (sym e);
      new_zone = λ other is. ap (has_zone before) (sym (some_same name other (ap zone_name e ∙ is))) ∙ needs.1;
      new_link = λ other is. no_some other (ap new_name e ∙ is);
      no_more = λ other g. ap (λ u. has (names_by new_name (u ∷ [])) other) (sym e) ∙ g;
    }

-- a link of a name that no zone has
link_needs : (values before : List LineValue) (existing new : List ℕ) (w : LineValue) → settled_link values before existing new ≡ Ok w
    → (has_zone values new ≡ false) × (is_said w ≡ true)
unfolding settled_link
link_needs values before existing new w h = by (has_zone values new) (link_after values (target_of before new) existing new) refl h
  where
    tested : (found : LineValue) → if_said found ≡ Ok w → is_said w ≡ true
    tested found h = subst (λ r. IfOk r (λ v. is_said v ≡ true)) h (if_said_is found)

    by : (b : Bool) (r : Result LineValue PlainCause) → has_zone values new ≡ b → cond b (Err cause.LinkIsZone) (◌>>=◌ r if_said) ≡ Ok w
        → (has_zone values new ≡ false) × (is_said w ≡ true)
    by false (Ok found) e h = (e, tested found h)
    by _ _ e h = no_ok h

link_kept : (values before : List LineValue) (existing new : List ℕ) (w : LineValue) → (has_zone values new ≡ false) × (is_said w ≡ true)
    → Becomes values before existing new w → IsKept values before (link existing new) w
link_kept values before existing new w needs (as_link z first behind e) = record {
  sound = subst (IsSound values) e (record { to_zone = is_zone_behind values existing z behind; no_zone = needs.0; said = ap is_said e ∙ needs.1 });
  zone_stays = ap zone_name (sym e);
  rules_stay = ap ruleset_name (sym e);
  new_zone = λ name is. no_some name (ap zone_name e ∙ is);
  new_link = λ name is. ap (target_of before) (sym (some_same new name (ap new_name e ∙ is))) ∙ first;
  no_more = λ name h. ap (λ u. has (names_by new_name (u ∷ [])) name) (sym e) ∙ h;
}
link_kept values before existing new w needs (as_nothing t later e) = record {
  sound = subst (IsSound values) e tt;
  zone_stays = ap zone_name (sym e);
  rules_stay = ap ruleset_name (sym e);
  new_zone = λ name is. no_some name (ap zone_name e ∙ is);
  new_link = λ name is. no_some name (ap new_name e ∙ is);
  no_more = λ name h. ap (λ u. has (names_by new_name (u ∷ [])) name) (sym e);
}

line_kept : (values before : List LineValue) (v w : LineValue) → settled_line values before v ≡ Ok w → IsKept values before v w
unfolding settled_line
line_kept values before (continuation info) w h = continuation_kept values before info w h
line_kept values before (zone name info) w h = zone_kept values before name info w h
line_kept values before (link existing new) w h =
    link_kept values before existing new w (link_needs values before existing new w h) (becomes values before existing new w h)
line_kept values before v w h = plain_kept values before v w (ok_is h) tt refl refl

-- what became of lines behind what became of those before them
pub record AreSettled (values before out : List LineValue) : Type 0 where
  pub sound : All (IsSound values) out
  pub zones : AreFresh (names_by zone_name before) (names_by zone_name out)
  pub links : AreFresh (names_by new_name before) (names_by new_name out)

-- a name that may be there, and is fresh, before fresh names
fresh_on : (o : Option (List ℕ)) (before names : List (List ℕ)) → ((name : List ℕ) → o ≡ Some name → has before name ≡ false)
    → AreFresh (before ++ (option_to_list o ++ [])) names → AreFresh before (option_to_list o ++ names)
fresh_on None before names here fresh = subst (λ ns. AreFresh ns names) (append-nil before) fresh
fresh_on (Some name) before names here fresh = (here name refl, fresh)

settled_on : (values before became : List LineValue) (n size : ℕ) (vs ws : List LineValue) → settled_from values before n size vs ≡ Ok ws
    → names_by zone_name became ≡ names_by zone_name before
    → ((name : List ℕ) → has (names_by new_name before) name ≡ false → has (names_by new_name became) name ≡ false)
    → AreSettled values became ws
unfolding settled_from
settled_on values before became n size [] ws h zones links =
    subst (AreSettled values became) (ok_is h) (record { sound = All-nil (IsSound values); zones = tt; links = tt })
settled_on values before became n size (v ∷ vs) ws h zones links =
    by (steps values before n size v vs ws h)
    (λ w lines. settled_on values (before ++ v ∷ []) (became ++ w ∷ []) (suc n) (size + link_size w) vs lines)
  where
    by : Steps values before n size v vs ws
        → ((w : LineValue) (lines : List LineValue) → settled_from values (before ++ v ∷ []) (suc n) (size + link_size w) vs ≡ Ok lines
        → names_by zone_name (became ++ w ∷ []) ≡ names_by zone_name (before ++ v ∷ [])
        → ((name : List ℕ) → has (names_by new_name (before ++ v ∷ [])) name ≡ false → has (names_by new_name (became ++ w ∷ [])) name ≡ false)
        → AreSettled values (became ++ w ∷ []) lines)
        → AreSettled values became ws
    by s more =
        let is = line_kept values before v s.line s.here in
        let rest = more s.line s.lines s.on zones_now links_now in
        subst (AreSettled values became) (sym s.is) (record {
          sound = All-cons (IsSound values) s.line s.lines is.sound rest.sound;
          zones = fresh_on (zone_name s.line) (names_by zone_name became) (names_by zone_name s.lines)
              (λ name e. ap (λ ns. has ns name) zones ∙ sym (declares_is zone_name before name) ∙ is.new_zone name e)
              (subst (λ ns. AreFresh ns (names_by zone_name s.lines)) (names_append zone_name became (s.line ∷ [])) rest.zones);
          links = fresh_on (new_name s.line) (names_by new_name became) (names_by new_name s.lines)
              (λ name e. links name (absent_target before name (is.new_link name e)))
              (subst (λ ns. AreFresh ns (names_by new_name s.lines)) (names_append new_name became (s.line ∷ [])) rest.links);
        })
      where
        is_kept : IsKept values before v s.line
        is_kept = line_kept values before v s.line s.here

        zones_now : names_by zone_name (became ++ s.line ∷ []) ≡ names_by zone_name (before ++ v ∷ [])
        zones_now =
            names_append zone_name became (s.line ∷ []) ∙ (λ i. zones i ++ (option_to_list (is_kept.zone_stays i) ++ []))
            ∙ sym (names_append zone_name before (v ∷ []))

        links_now : (name : List ℕ) → has (names_by new_name (before ++ v ∷ [])) name ≡ false
            → has (names_by new_name (became ++ s.line ∷ [])) name ≡ false
        links_now name h =
            let both = or_parts (has (names_by new_name before) name) (has (names_by new_name (v ∷ [])) name)
            (sym (ap (λ ns. has ns name) (names_append new_name before (v ∷ []))
            ∙ list_any-append (λ other. bytes_eq other name) (names_by new_name before) (names_by new_name (v ∷ []))) ∙ h) in
            ap (λ ns. has ns name) (names_append new_name became (s.line ∷ []))
            ∙ list_any-append (λ other. bytes_eq other name) (names_by new_name became) (names_by new_name (s.line ∷ []))
            ∙ (λ i. links name both.0 i || is_kept.no_more name both.1 i)

-- what became of a source's lines needs no more of the source
pub are_settled : (values out : List LineValue) → settled values ≡ Ok out → AreSettled values [] out
unfolding settled
are_settled values out h = settled_on values [] [] 1 0 values out h refl (λ name h. refl)

rules_from : (values before : List LineValue) (n size : ℕ) (vs ws : List LineValue) → settled_from values before n size vs ≡ Ok ws
    → names_by ruleset_name ws ≡ names_by ruleset_name vs
unfolding settled_from
rules_from values before n size [] ws h = ap (names_by ruleset_name) (sym (ok_is h))
rules_from values before n size (v ∷ vs) ws h =
    by (steps values before n size v vs ws h) (λ w lines. rules_from values (before ++ v ∷ []) (suc n) (size + link_size w) vs lines)
  where
    by : Steps values before n size v vs ws
        → ((w : LineValue) (lines : List LineValue) → settled_from values (before ++ v ∷ []) (suc n) (size + link_size w) vs ≡ Ok lines
        → names_by ruleset_name lines ≡ names_by ruleset_name vs)
        → names_by ruleset_name ws ≡ names_by ruleset_name (v ∷ vs)
    by s more =
        ap (names_by ruleset_name) s.is
        ∙ (λ i. option_to_list ((line_kept values before v s.line s.here).rules_stay i) ++ more s.line s.lines s.on i)

-- its rulesets stay
pub rulesets_stay : (values out : List LineValue) → settled values ≡ Ok out → names_by ruleset_name out ≡ names_by ruleset_name values
unfolding settled
rulesets_stay values out h = rules_from values [] 1 0 values out h
