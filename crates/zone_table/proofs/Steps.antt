-- What a builder stands for after one more line.
use Rattle.std.proofs.{Common.{◌≡◌, ℕ, Bool, true, false, cond, List, [], ◌∷◌, ◌++◌, Option, Some, None, unwrap_or, reverse, refl, sym, ap, ◌∙◌, subst, is_some, Bor}, lemmas.List.{reverse-append}}
use Rattle.std.specs.{Str.{bytes_eq}, Option.{option_or, option_map_or}, FinMap.{FinMap, get, insert}}
use Rattle.basics.specs.{Keyed.{text_cmp}, Listed.{listed}, KeyedLaws.{appended, get-inserted}}
use Rattle.zone_table.specs.{Values.{saving_value, LineValue, zone, continuation, rule, link, InfoValue, RuleValue, SavingValue, no_saving, one_off, multiple}, declared.rule.RuleInfo.{RuleInfo}, declared.zone.ZoneInfo.{ZoneInfo}, declared.table.Table.{Table}, Owned.{owned_rule, owned_info}, Joined.{rules_of, zone_of, owner}, Refusals.{Refusal, duplicate_link, duplicate_zone, surprise_continuation_line, refusal, refusal_of_saving, has_zone}, Tables.{IsTableOfLatest}, Built.{Built, StandsForLatest, Joins}}
use Rattle.zone_table.specs.declared.line.Saving as code
use Rattle.zone_table.specs.declared.line.Saving.TheVariants as code_saving

-- one more value in the end is one more in front of the latest
joined_latest : (inside old new : Built) (value : LineValue) → inside ≡ old
    → ((before : List LineValue) → StandsForLatest inside before → StandsForLatest new (value ∷ before)) → Joins old new value
joined_latest inside old new value same step = λ values stands.
    subst (StandsForLatest new) (sym (reverse-append values (value ∷ [])))
    (step (reverse values) (subst (λ built. StandsForLatest built (reverse values)) (sym same) stands))

-- a list of the map with an item at its end
abbrev pub with_item : {X : Type 0} → FinMap text_cmp (List X) → List ℕ → X → FinMap text_cmp (List X)
with_item lists name item = insert lists name (unwrap_or (get lists name) [] ++ item ∷ [])

pub rule_joins : (built old : Built) → built ≡ old → (r : RuleValue) (rulesets : FinMap text_cmp (List RuleInfo))
    → rulesets ≡ with_item built.table.rulesets r.name (owned_rule r)
    → Joins old (record { table = record built.table { rulesets = rulesets }; open_zone = None }) (rule r)
rule_joins built old same r rulesets is = joined_latest built old _ _ same (λ before stands. record {
  accepted = (refl, stands.accepted);
  joined = record {
    rulesets =
        λ name. ap (λ m. get m name) is
        ∙ appended built.table.rulesets (rules_of before) r.name (owned_rule r) stands.joined.rulesets name;
    zonesets = stands.joined.zonesets;
    links = stands.joined.links;
  };
  open_zone = refl;
})

-- the ruleset that a saving names is there
abbrev pub HasRuleset : Table → SavingValue → Type 0
HasRuleset table (multiple name) = is_some (get table.rulesets name) ≡ true
HasRuleset table _ = Unit {0}

-- a saving by no ruleset
pub not_by_ruleset : (table : Table) (saving : code.Saving) → ((name : Bor (List ℕ)) → saving ≡ code_saving.Multiple name → ⊥)
    → HasRuleset table (saving_value saving)
not_by_ruleset table code_saving.NoSaving none = tt
not_by_ruleset table (code_saving.OneOff amount) none = tt
not_by_ruleset table (code_saving.Multiple name) none = absurd (none name refl)

not_refused : (b : Bool) (refused : Option Refusal) → b ≡ true → cond b None refused ≡ None
not_refused b refused is = ap (λ b. cond b None refused) is

saving_accepted : (table : Table) (before : List LineValue) (saving : SavingValue) → IsTableOfLatest table before
    → HasRuleset table saving → refusal_of_saving before saving ≡ None
saving_accepted table before no_saving is has = refl
saving_accepted table before (one_off amount) is has = refl
saving_accepted table before (multiple name) is has = not_refused _ _ (ap is_some (sym (is.rulesets name)) ∙ has)

zone_accepted : (table : Table) (before : List LineValue) (name : List ℕ) (info : InfoValue) → IsTableOfLatest table before
    → HasRuleset table info.saving
    → is_some (get table.zonesets name) ≡ false → refusal before (zone name info) ≡ None
zone_accepted table before name info is has fresh =
    let new : has_zone before name ≡ false = ap is_some (sym (is.zonesets name)) ∙ fresh in
    λ i. option_or (saving_accepted table before info.saving is has i) (cond (new i) (Some duplicate_zone) None)

pub zone_joins : (built old : Built) → built ≡ old
    → (name open_name : List ℕ) (info : InfoValue) (zonesets : FinMap text_cmp (List ZoneInfo))
    → HasRuleset built.table info.saving → is_some (get built.table.zonesets name) ≡ false → open_name ≡ name
    → zonesets ≡ with_item built.table.zonesets name (owned_info info)
    → Joins old (record { table = record built.table { zonesets = zonesets }; open_zone = Some open_name }) (zone name info)
zone_joins built old same name open_name info zonesets has fresh opened is = joined_latest built old _ _ same (λ before stands. record {
  accepted = (zone_accepted built.table before name info stands.joined has fresh, stands.accepted);
  joined = record {
    rulesets = stands.joined.rulesets;
    zonesets = λ n. ap (λ m. get m n) is ∙ appended built.table.zonesets (zone_of before) name (owned_info info) stands.joined.zonesets n;
    links = stands.joined.links;
  };
  open_zone = ap Some opened;
})

pub continuation_joins : (built old : Built) → built ≡ old
    → (name : List ℕ) (info : InfoValue) (zonesets : FinMap text_cmp (List ZoneInfo))
    → built.open_zone ≡ Some name → zonesets ≡ with_item built.table.zonesets name (owned_info info)
    → Joins old (record { table = record built.table { zonesets = zonesets }; open_zone = built.open_zone }) (continuation info)
continuation_joins built old same name info zonesets named is = joined_latest built old _ _ same (λ before stands.
    let owned : owner before ≡ Some name = sym stands.open_zone ∙ named in
    record {
      accepted = (ap (λ zone_name. cond (is_some zone_name) None (Some surprise_continuation_line)) owned, stands.accepted);
      joined = record {
        rulesets = stands.joined.rulesets;
        zonesets =
            λ n. ap (λ m. get m n) is ∙ appended built.table.zonesets (zone_of before) name (owned_info info) stands.joined.zonesets n
            ∙ ap (λ zone_name. listed
            (zone_of before n ++ cond (option_map_or (λ z. bytes_eq z n) zone_name false) (owned_info info ∷ []) [])) (sym owned);
        links = stands.joined.links;
      };
      open_zone = stands.open_zone;
    })

pub link_joins : (built old : Built) → built ≡ old → (existing name : List ℕ) (links : FinMap text_cmp (List ℕ))
    → is_some (get built.table.links name) ≡ false → links ≡ insert built.table.links name existing
    → Joins old (record { table = record built.table { links = links }; open_zone = None }) (link existing name)
link_joins built old same existing name links fresh is = joined_latest built old _ _ same (λ before stands. record {
  accepted = (ap (λ b. cond b (Some (duplicate_link name)) None) (ap is_some (sym (stands.joined.links name)) ∙ fresh), stands.accepted);
  joined = record {
    rulesets = stands.joined.rulesets;
    zonesets = stands.joined.zonesets;
    links =
        λ n. ap (λ m. get m n) is ∙ get-inserted built.table.links name n existing
        ∙ ap (cond (bytes_eq name n) (Some existing)) (stands.joined.links n);
  };
  open_zone = refl;
})
