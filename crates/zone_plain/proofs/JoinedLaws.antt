-- What is written by parts joins to the rulesets, the zones and the links of the lines as they stood.
use Rattle.std.proofs.{Common.{◌≡◌, ℕ, List, [], ◌∷◌, ◌++◌, Bool, true, false, cond, Option, Some, None, filter, flat_map, reverse, refl, sym, ap, ◌∙◌, append_assoc, append-nil}, lemmas.Bool.{both_ways, and_parts}, lemmas.List.{reverse-append}}
use Rattle.std.specs.{Prelude.{bytes_eq}, Option.{option_or, option_map_or}}
use Rattle.zone_table.specs.{Values.{LineValue, space, zone, continuation, rule, link}, Joined.{rules_of, owner, is_owner, zone_of, link_of}, Owned.{owned_rule, owned_info}, declared.rule.RuleInfo.{RuleInfo}, declared.zone.ZoneInfo.{ZoneInfo}}
use Rattle.zone_plain.{proofs.TargetLaws.{or_none, or_assoc}, proofs.PartLemmas.{GivesIn, parts_give}, proofs.Placed.{are_placed}, specs.Written.{Rules, Zones, Links, is_in}, specs.WrittenLines.{in_parts, JoinAlike}}

-- the first of some lines, behind those before it
turned : (v : LineValue) (values before : List LineValue) → reverse (v ∷ values) ++ before ≡ reverse values ++ (v ∷ before)
turned v values before =
    ap (λ vs. vs ++ before) (reverse-append (v ∷ []) values) ∙ append_assoc (reverse values) (v ∷ []) before

-- a list in its order, latest first, begins behind nothing
whole : (values : List LineValue) → reverse values ≡ reverse values ++ []
whole values = sym (append-nil (reverse values))

-- ---- rulesets

abbrev rules_by : List ℕ → LineValue → List RuleInfo
rules_by name (rule r) = cond (bytes_eq r.name name) (owned_rule r ∷ []) []
rules_by name _ = []

rules_forward : (values before : List LineValue) (name : List ℕ)
    → rules_of (reverse values ++ before) name ≡ rules_of before name ++ flat_map (rules_by name) values
rules_forward [] before name = sym (append-nil (rules_of before name))
rules_forward (rule r ∷ values) before name =
    ap (λ vs. rules_of vs name) (turned (rule r) values before) ∙ rules_forward values (rule r ∷ before) name
    ∙ append_assoc (rules_of before name) (cond (bytes_eq r.name name) (owned_rule r ∷ []) []) (flat_map (rules_by name) values)
rules_forward (v ∷ values) before name =
    ap (λ vs. rules_of vs name) (turned v values before) ∙ rules_forward values (v ∷ before) name

rules_alone : (name : List ℕ) → GivesIn Rules (rules_by name)
rules_alone name (rule r) h = absurd (both_ways true h refl)
rules_alone name _ h = refl

rules_are : (values : List LineValue) (name : List ℕ) → rules_of (reverse values) name ≡ flat_map (rules_by name) values
rules_are values name = ap (λ vs. rules_of vs name) (whole values) ∙ rules_forward values [] name

parts_rules : (values : List LineValue) (name : List ℕ) → rules_of (reverse (in_parts values)) name ≡ rules_of (reverse values) name
parts_rules values name =
    rules_are (in_parts values) name ∙ parts_give (rules_by name) Rules (rules_alone name) values ∙ sym (rules_are values name)

-- ---- zones

-- the lines of the zone of that name, behind a line of a zone of some name or of none
abbrev zone_in : Option (List ℕ) → List LineValue → List ℕ → List ZoneInfo
zone_in before [] name = []
zone_in before (zone z info ∷ values) name = cond (bytes_eq z name) (owned_info info ∷ []) [] ++ zone_in (Some z) values name
zone_in before (continuation info ∷ values) name =
    cond (option_map_or (λ z. bytes_eq z name) before false) (owned_info info ∷ []) [] ++ zone_in before values name
zone_in before (space ∷ values) name = zone_in before values name
zone_in before (_ ∷ values) name = zone_in None values name

zone_forward : (values before : List LineValue) (name : List ℕ)
    → zone_of (reverse values ++ before) name ≡ zone_of before name ++ zone_in (owner before) values name
zone_forward [] before name = sym (append-nil (zone_of before name))
zone_forward (zone z info ∷ values) before name =
    ap (λ vs. zone_of vs name) (turned (zone z info) values before) ∙ zone_forward values (zone z info ∷ before) name
    ∙ append_assoc (zone_of before name) (cond (bytes_eq z name) (owned_info info ∷ []) []) (zone_in (Some z) values name)
zone_forward (continuation info ∷ values) before name =
    ap (λ vs. zone_of vs name) (turned (continuation info) values before) ∙ zone_forward values (continuation info ∷ before) name
    ∙ append_assoc (zone_of before name) (cond (is_owner before name) (owned_info info ∷ []) []) (zone_in (owner before) values name)
zone_forward (v ∷ values) before name = ap (λ vs. zone_of vs name) (turned v values before) ∙ zone_forward values (v ∷ before) name

no_zone_in_rules : (values more : List LineValue) (name : List ℕ) → zone_in None (filter (is_in Rules) values ++ more) name ≡ zone_in None more name
no_zone_in_rules [] more name = refl
no_zone_in_rules (space ∷ values) more name = no_zone_in_rules values more name
no_zone_in_rules (_ ∷ values) more name = no_zone_in_rules values more name

no_zone_in_links : (before : Option (List ℕ)) (values : List LineValue) (name : List ℕ) → zone_in before (filter (is_in Links) values) name ≡ []
no_zone_in_links before [] name = refl
no_zone_in_links before (link existing new ∷ values) name = no_zone_in_links None values name
no_zone_in_links before (_ ∷ values) name = no_zone_in_links before values name

before_links : (before : Option (List ℕ)) (some values : List LineValue) (name : List ℕ)
    → zone_in before (some ++ filter (is_in Links) values) name ≡ zone_in before some name
before_links before [] values name = no_zone_in_links before values name
before_links before (zone z info ∷ some) values name =
    ap (λ lines. cond (bytes_eq z name) (owned_info info ∷ []) [] ++ lines) (before_links (Some z) some values name)
before_links before (continuation info ∷ some) values name =
    ap (λ lines. cond (option_map_or (λ z. bytes_eq z name) before false) (owned_info info ∷ []) [] ++ lines) (before_links before some values name)
before_links before (space ∷ some) values name = before_links before some values name
before_links before (_ ∷ some) values name = before_links None some values name

-- lines of zones in their places find their zones without what stands between
zones_alone : (follows : Bool) (before behind : Option (List ℕ)) (values : List LineValue) (name : List ℕ) → are_placed follows values ≡ true
    → (follows ≡ true → before ≡ behind) → zone_in before values name ≡ zone_in behind (filter (is_in Zones) values) name
zones_alone follows before behind [] name placed same = refl
zones_alone follows before behind (zone z info ∷ values) name placed same =
    ap (λ lines. cond (bytes_eq z name) (owned_info info ∷ []) [] ++ lines) (zones_alone true (Some z) (Some z) values name placed (λ e. refl))
zones_alone follows before behind (continuation info ∷ values) name placed same =
    let both = and_parts follows (are_placed true values) placed in
    ap (λ o. cond (option_map_or (λ z. bytes_eq z name) o false) (owned_info info ∷ []) [] ++ zone_in before values name) (same both.0)
    ∙ ap (λ lines. cond (option_map_or (λ z. bytes_eq z name) behind false) (owned_info info ∷ []) [] ++ lines)
    (zones_alone true before behind values name both.1 (λ e. same both.0))
zones_alone follows before behind (space ∷ values) name placed same = zones_alone follows before behind values name placed same
zones_alone follows before behind (_ ∷ values) name placed same =
    zones_alone false None behind values name placed (λ e. absurd (both_ways false refl e))

zone_is : (values : List LineValue) (name : List ℕ) → zone_of (reverse values) name ≡ zone_in None values name
zone_is values name = ap (λ vs. zone_of vs name) (whole values) ∙ zone_forward values [] name

parts_zone : (values : List LineValue) (name : List ℕ) → are_placed false values ≡ true
    → zone_of (reverse (in_parts values)) name ≡ zone_of (reverse values) name
parts_zone values name placed =
    let rules = filter (is_in Rules) values in
    let zones = filter (is_in Zones) values in
    zone_is (in_parts values) name ∙ before_links None (rules ++ zones) values name ∙ no_zone_in_rules values zones name
    ∙ sym (zones_alone false None None values name placed (λ e. refl))
    ∙ sym (zone_is values name)

-- ---- links

abbrev links_by : List ℕ → LineValue → List (List ℕ)
links_by name (link existing new) = cond (bytes_eq new name) (existing ∷ []) []
links_by name _ = []

abbrev last_of : List (List ℕ) → Option (List ℕ)
last_of [] = None
last_of (name ∷ names) = option_or (last_of names) (Some name)

by_link : (b : Bool) (existing : List ℕ) (names : List (List ℕ)) (o : Option (List ℕ))
    → option_or (last_of names) (cond b (Some existing) o) ≡ option_or (last_of (cond b (existing ∷ []) [] ++ names)) o
by_link true existing names o = or_assoc (last_of names) (Some existing) o
by_link false existing names o = refl

link_forward : (values before : List LineValue) (name : List ℕ)
    → link_of (reverse values ++ before) name ≡ option_or (last_of (flat_map (links_by name) values)) (link_of before name)
link_forward [] before name = refl
link_forward (link existing new ∷ values) before name =
    ap (λ vs. link_of vs name) (turned (link existing new) values before) ∙ link_forward values (link existing new ∷ before) name
    ∙ by_link (bytes_eq new name) existing (flat_map (links_by name) values) (link_of before name)
link_forward (v ∷ values) before name = ap (λ vs. link_of vs name) (turned v values before) ∙ link_forward values (v ∷ before) name

links_alone : (name : List ℕ) → GivesIn Links (links_by name)
links_alone name (link existing new) h = absurd (both_ways true h refl)
links_alone name _ h = refl

link_is : (values : List LineValue) (name : List ℕ) → link_of (reverse values) name ≡ last_of (flat_map (links_by name) values)
link_is values name = ap (λ vs. link_of vs name) (whole values) ∙ link_forward values [] name ∙ or_none (last_of (flat_map (links_by name) values))

parts_link : (values : List LineValue) (name : List ℕ) → link_of (reverse (in_parts values)) name ≡ link_of (reverse values) name
parts_link values name =
    link_is (in_parts values) name ∙ ap last_of (parts_give (links_by name) Links (links_alone name) values) ∙ sym (link_is values name)

-- a blank line in front changes nothing
pub blank_first : (values : List LineValue) → JoinAlike (space ∷ values) values
blank_first values = record {
  rules = λ name. rules_are (space ∷ values) name ∙ sym (rules_are values name);
  zones = λ name. zone_is (space ∷ values) name ∙ sym (zone_is values name);
  links = λ name. link_is (space ∷ values) name ∙ sym (link_is values name);
}

-- what is alike of two is alike of the first and the last
pub alike_both : (one other last : List LineValue) → JoinAlike one other → JoinAlike other last → JoinAlike one last
alike_both one other last first second = record {
  rules = λ name. first.rules name ∙ second.rules name;
  zones = λ name. first.zones name ∙ second.zones name;
  links = λ name. first.links name ∙ second.links name;
}

-- the parts of lines in their places have the rulesets, the zones and the links of the lines
pub parts_alike : (values : List LineValue) → are_placed false values ≡ true → JoinAlike (in_parts values) values
parts_alike values placed = record {
  rules = parts_rules values;
  zones = λ name. parts_zone values name placed;
  links = parts_link values;
}
