-- What becomes of a line, by what was found of it.
use Rattle.std.proofs.{Common.{◌≡◌, ℕ, List, [], ◌∷◌, ◌++◌, Bool, true, false, not, Option, Some, None, Ok, Err, refl, sym, ap, ◌∙◌, subst, rules}, lemmas.Option.{same_Some}}
use Rattle.std.specs.{Prelude.{bytes_eq, is_some, option_map, unwrap_or, ◌||◌, if◌then◌else◌}, FinMap.{get, insert, contains_key}}
use Rattle.zone_table.specs.Values.{LineValue, InfoValue, RuleValue, multiple, space, zone, continuation, rule, link}
use Rattle.zone_plain_lines.specs.declared.cause.PlainCause.TheVariants as cause
use Rattle.zone_plain_lines.specs.{PlainTexts.{plain_text}, Said.{is_said}, declared.error.Refused.{Refused}, declared.error.Refused.TheVariants.{Cause, NoMemory}, Told.{IsRefused}}
use Rattle.zone_plain.proofs.{NameLemmas.{declares-more, declares-other, contains-inserted, link_known}, TargetLaws.{target-other}}
use Rattle.zone_plain.specs.{Declares.{zone_name, has_zone, target_by, target_of}, Settled.{lacks_rules, link_to, link_after, settled_link, settled_line}, Stands.{names_of, IsPlaced, IsDeclared, IsKnown, AddsTarget, LeadsTo, IsAt, IsLinkText, line_at_place}}
use Rattle.zone_plain.specs.declared.links.{Declared.{Declared}, Seen.{Seen}}

pub lacks : (d : Declared) (values : List LineValue) (name : List ℕ) (has : Bool) → IsDeclared d values → has ≡ contains_key d.rulesets name
    → not has ≡ lacks_rules values (multiple name)
lacks d values name has declared e = ap not (e ∙ declared.rulesets name)

pub is_declared : (d : Declared) (values : List LineValue) (name : List ℕ) (has : Bool) → IsDeclared d values → has ≡ contains_key d.zones name
    → has ≡ has_zone values name
is_declared d values name has declared e = e ∙ by (get d.zones name) (declared.zones name)
  where
    by : (o : Option ℕ) → IsPlaced (names_of d) name (has_zone values name) o → is_some o ≡ has_zone values name
    by None placed = sym placed
    by (Some p) placed = sym placed.0

-- a line that neither is a zone's first nor a link
pub plain_more : (d : Declared) (s : Seen) (limit : ℕ) (values before : List LineValue) (v : LineValue) → zone_name v ≡ None
    → ((name : List ℕ) → target_by v name ≡ None) → IsAt d s limit values before → IsAt d s limit values (before ++ v ∷ [])
plain_more d s limit values before v no_zone no_link here = record {
  declared = here.declared;
  few = here.few;
  seen = record {
    zones = λ name. here.seen.zones name ∙ sym (declares-other zone_name before v no_zone name);
    targets = λ name. here.seen.targets name ∙ sym (target-other before v no_link name);
    known = here.seen.known;
  };
}

pub zone_seen : (d : Declared) (s new : Seen) (limit : ℕ) (values before : List LineValue) (name : List ℕ) (info : InfoValue)
    → new.zones ≡ insert s.zones name tt → new.targets ≡ s.targets → new.known ≡ s.known → IsAt d s limit values before
    → IsAt d new limit values (before ++ zone name info ∷ [])
zone_seen d s new limit values before name info zones targets known here = record {
  declared = here.declared;
  few = here.few;
  seen = record {
    zones = λ q.
        ap (λ m. contains_key m q) zones ∙ contains-inserted s.zones name q ∙ ap (λ b. b || bytes_eq name q) (here.seen.zones q)
        ∙ sym (declares-more zone_name before (zone name info) q);
    targets = λ q. ap (λ m. get m q) targets ∙ here.seen.targets q ∙ sym (target-other before (zone name info) (λ _. refl) q);
    known = subst (IsKnown (names_of d) values) (sym known) here.seen.known;
  };
}

pub link_seen : (d : Declared) (s new : Seen) (limit : ℕ) (values before : List LineValue) (existing name : List ℕ)
    → new.zones ≡ s.zones → AddsTarget s.targets new.targets existing name → IsKnown (names_of d) values new.known
    → IsAt d s limit values before → IsAt d new limit values (before ++ link existing name ∷ [])
link_seen d s new limit values before existing name zones targets known here = record {
  declared = here.declared;
  few = here.few;
  seen = record {
    zones = λ q.
        ap (λ m. contains_key m q) zones ∙ here.seen.zones q ∙ sym (declares-other zone_name before (link existing name) refl q);
    targets = targets before here.seen.targets;
    known = known;
  };
}

pub zone_lacks : (values before : List LineValue) (name : List ℕ) (info : InfoValue) → lacks_rules values info.saving ≡ true
    → settled_line values before (zone name info) ≡ Err cause.UnknownRuleset
unfolding settled_line
zone_lacks values before name info e = rw e refl

pub zone_twice : (values before : List LineValue) (name : List ℕ) (info : InfoValue) → lacks_rules values info.saving ≡ false
    → has_zone before name ≡ true → settled_line values before (zone name info) ≡ Err cause.DuplicateZone
unfolding settled_line
zone_twice values before name info e twice = rw (e, twice) refl

pub zone_stays : (values before : List LineValue) (name : List ℕ) (info : InfoValue) → lacks_rules values info.saving ≡ false
    → has_zone before name ≡ false → settled_line values before (zone name info) ≡ Ok (zone name info)
unfolding settled_line
zone_stays values before name info e once = rw (e, once) refl

pub continuation_lacks : (values before : List LineValue) (info : InfoValue) → lacks_rules values info.saving ≡ true
    → settled_line values before (continuation info) ≡ Err cause.UnknownRuleset
unfolding settled_line
continuation_lacks values before info e = rw e refl

pub continuation_stays : (values before : List LineValue) (info : InfoValue) → lacks_rules values info.saving ≡ false
    → settled_line values before (continuation info) ≡ Ok (continuation info)
unfolding settled_line
continuation_stays values before info e = rw e refl

pub space_stays : (values before : List LineValue) → settled_line values before space ≡ Ok space
unfolding settled_line
space_stays values before = refl

pub rule_stays : (values before : List LineValue) (r : RuleValue) → settled_line values before (rule r) ≡ Ok (rule r)
unfolding settled_line
rule_stays values before r = refl

pub link_is : (values before : List LineValue) (existing new : List ℕ) → settled_line values before (link existing new) ≡ settled_link values before existing new
unfolding settled_line
link_is values before existing new = refl

pub leads_link : (names : List (List ℕ)) (values : List LineValue) (existing new : List ℕ) (place : ℕ) → LeadsTo names values existing place
    → link_after values None existing new ≡ Ok (line_at_place names (Some place) new)
leads_link names values existing new place leads =
    ap (λ o. link_to o new) leads.behind ∙ ap (λ o. Ok (link (unwrap_or o []) new)) (sym leads.here)

pub none_before : (d : Declared) (s : Seen) (limit : ℕ) (values before : List LineValue) (existing new : List ℕ)
    → option_map (λ earlier. bytes_eq earlier existing) (get s.targets new) ≡ None → IsAt d s limit values before → target_of before new ≡ None
none_before d s limit values before existing new e here = sym (here.seen.targets new) ∙ by (get s.targets new) e
  where
    by : (o : Option (List ℕ)) → option_map (λ earlier. bytes_eq earlier existing) o ≡ None → o ≡ None
    by None e = refl
    by (Some x) e = search rules

pub same_before : (d : Declared) (s : Seen) (limit : ℕ) (values before : List LineValue) (existing new : List ℕ)
    → option_map (λ earlier. bytes_eq earlier existing) (get s.targets new) ≡ Some true → IsAt d s limit values before
    → (link_after values (target_of before new) existing new ≡ Ok space) × IsAt d s limit values (before ++ link existing new ∷ [])
same_before d s limit values before existing new e here =
    let found = by (get s.targets new) e in (
      ap (λ o. link_after values o existing new) (sym (here.seen.targets new)) ∙ found.1,
      link_seen d s s limit values before existing new refl (link_known s.targets existing new found.0) here.seen.known here,
    )
  where
    by : (o : Option (List ℕ)) → option_map (λ earlier. bytes_eq earlier existing) o ≡ Some true
        → (is_some o ≡ true) × (link_after values o existing new ≡ Ok space)
    by None e = search rules
    by (Some x) e = (refl, ap (λ b. if b then Ok space else Err cause.DuplicateLink) (same_Some (bytes_eq x existing) true e))

pub link_is_zone : (values before : List LineValue) (existing new : List ℕ) → has_zone values new ≡ true
    → settled_link values before existing new ≡ Err cause.LinkIsZone
unfolding settled_link
link_is_zone values before existing new is = rw is refl

pub link_refused : (values before : List LineValue) (existing new : List ℕ) (r : Refused) → has_zone values new ≡ false
    → IsRefused (link_after values (target_of before new) existing new) r → IsRefused (settled_link values before existing new) r
unfolding settled_link
link_refused values before existing new (Cause c) is e = rw (is, e) refl
link_refused values before existing new NoMemory is e = tt

pub link_unsaid : (values before : List LineValue) (existing new : List ℕ) (v : LineValue) → has_zone values new ≡ false
    → link_after values (target_of before new) existing new ≡ Ok v → is_said v ≡ false
    → settled_link values before existing new ≡ Err cause.Unsayable
unfolding settled_link
link_unsaid values before existing new v is e said = rw (is, e, said) refl

pub link_said : (values before : List LineValue) (existing new : List ℕ) (v : LineValue) → has_zone values new ≡ false
    → link_after values (target_of before new) existing new ≡ Ok v → is_said v ≡ true → settled_link values before existing new ≡ Ok v
unfolding settled_link
link_said values before existing new v is e said = rw (is, e, said) refl

pub link_text : (text : List ℕ) (v : LineValue) → text ≡ plain_text v → IsLinkText text v
link_text text (link existing new) plain = plain
link_text text _ plain = tt
