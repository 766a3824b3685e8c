-- What was written out of a line, by what it asks for.
use Rattle.std.{proofs.Common.{◌≡◌, ℕ, ℤ, Bool, true, false, cond, List, [], ◌∷◌, ◌++◌, refl, sym, ap, ◌∙◌, subst, append-nil}, specs.Prelude.{◌&&◌, codes, flat_map}}
use Rattle.zone_table.specs.Values.{LineValue, zone, continuation}
use Rattle.zone_plain_lines.specs.Said.{is_said}
use Rattle.zone_plain.specs.{Formats.{Around}, OffsetTexts.{offset_text, has_text}, Pairs.{Pair, nothing, total, under, asked, with_pair, joined_by}, Made.{with_format, with_ruleset, around_text, changed_by, named_in}}
use Rattle.zone_plain.specs.{Written.{Part, Rules, Zones, Links, is_in, line_text, part_text}, ToldOffsets.{IsAdded, AreAdded, new_rules, are_new_said, asked_rules, is_asked_said, IsWrittenOut}}

-- a line is of the zones
abbrev IsOfZones : LineValue → Type 0
IsOfZones v = (is_in Rules v ≡ false) × (is_in Zones v ≡ true) × (is_in Links v ≡ false)

-- a line that asks for something is, with another format, and under another ruleset
format_of_zones : (v : LineValue) (format : List ℕ) → (asked v ≡ nothing → ⊥) → IsOfZones (with_format v format)
format_of_zones (zone name info) format asks = (refl, refl, refl)
format_of_zones (continuation info) format asks = (refl, refl, refl)
format_of_zones _ format asks = absurd (asks refl)

ruleset_of_zones : (v : LineValue) (format name : List ℕ) → (asked v ≡ nothing → ⊥) → IsOfZones (with_ruleset (with_format v format) name)
ruleset_of_zones (zone n info) format name asks = (refl, refl, refl)
ruleset_of_zones (continuation info) format name asks = (refl, refl, refl)
ruleset_of_zones _ format name asks = absurd (asks refl)

-- one part got a text, and the others nothing
put_in_zones : (old new : Part → List ℕ) (v : LineValue) → IsOfZones v → new Rules ≡ old Rules → new Links ≡ old Links
    → new Zones ≡ old Zones ++ line_text v → (part : Part) → new part ≡ old part ++ part_text part v
put_in_zones old new v is rules links zones Rules =
    rules ∙ sym (append-nil (old Rules)) ∙ ap (λ b. old Rules ++ cond b (line_text v) []) (sym is.0)
put_in_zones old new v is rules links zones Zones = zones ∙ ap (λ b. old Zones ++ cond b (line_text v) []) (sym is.1)
put_in_zones old new v is rules links zones Links =
    links ∙ sym (append-nil (old Links)) ∙ ap (λ b. old Links ++ cond b (line_text v) []) (sym is.2)

pub put_in_parts : (old new : Part → List ℕ) (v : LineValue) → new Rules ≡ old Rules ++ part_text Rules v → new Zones ≡ old Zones ++ part_text Zones v
    → new Links ≡ old Links ++ part_text Links v → (part : Part) → new part ≡ old part ++ part_text part v
put_in_parts old new v rules zones links Rules = rules
put_in_parts old new v rules zones links Zones = zones
put_in_parts old new v rules zones links Links = links

pub out_nothing : (values : List LineValue) (mark : List ℕ) (pairs : List Pair) (made : List ℕ) (old new : Part → List ℕ) (v : LineValue) → asked v ≡ nothing
    → ((part : Part) → new part ≡ old part ++ part_text part v) → IsWrittenOut values mark pairs pairs made made old new v true
out_nothing values mark pairs made old new v e added = record {
  told = ap (λ a. is_asked_said values mark pairs a v) (sym e);
  pairs = ap (λ a. joined_by a pairs) (sym e);
  made = λ is_yes. sym (append-nil made) ∙ ap (λ a. made ++ flat_map line_text (asked_rules values mark pairs a)) (sym e);
  added = λ is_yes part. added part ∙ ap (λ a. old part ++ part_text part (changed_by (named_in mark pairs) a v)) (sym e);
}

asks_total : (v : LineValue) (parts : Around) (t : ℤ) → asked v ≡ total parts t → asked v ≡ nothing → ⊥
asks_total v parts t e none = cc

asks_under : (v : LineValue) (parts : Around) (pair : Pair) → asked v ≡ under parts pair → asked v ≡ nothing → ⊥
asks_under v parts pair e none = cc

pub out_total : (values : List LineValue) (mark : List ℕ) (pairs : List Pair) (made : List ℕ) (old new : Part → List ℕ) (v : LineValue) (parts : Around) (t : ℤ) (said : Bool)
    → asked v ≡ total parts t
    → new Rules ≡ old Rules → new Links ≡ old Links
    → AreAdded (old Zones) (new Zones) (with_format v (around_text parts (offset_text t)) ∷ []) (has_text t && is_said (with_format v (around_text parts (offset_text t)))) said
    → IsWrittenOut values mark pairs pairs made made old new v said
out_total values mark pairs made old new v parts t said e rules links added = record {
  told = added.told ∙ ap (λ a. is_asked_said values mark pairs a v) (sym e);
  pairs = ap (λ a. joined_by a pairs) (sym e);
  made = λ is_yes. sym (append-nil made) ∙ ap (λ a. made ++ flat_map line_text (asked_rules values mark pairs a)) (sym e);
  added = λ is_yes part. put_in_zones old new (with_format v (around_text parts (offset_text t)))
      (format_of_zones v (around_text parts (offset_text t)) (asks_total v parts t e)) rules links
      (added.added is_yes ∙ ap (λ text. old Zones ++ text) (append-nil (line_text (with_format v (around_text parts (offset_text t)))))) part
      ∙ ap (λ a. old part ++ part_text part (changed_by (named_in mark pairs) a v)) (sym e);
}

pub out_total_at : (values : List LineValue) (mark : List ℕ) (pairs : List Pair) (made : List ℕ) (old new : Part → List ℕ) (v : LineValue) (parts : Around) (given t : ℤ) (said : Bool)
    → given ≡ t → asked v ≡ total parts t
    → new Rules ≡ old Rules → new Links ≡ old Links
    → AreAdded (old Zones) (new Zones) (with_format v (around_text parts (offset_text given)) ∷ []) (has_text given && is_said (with_format v (around_text parts (offset_text given)))) said
    → IsWrittenOut values mark pairs pairs made made old new v said
out_total_at values mark pairs made old new v parts given t said same e rules links added =
    out_total values mark pairs made old new v parts t said e rules links
    (subst (λ t. AreAdded (old Zones) (new Zones) (with_format v (around_text parts (offset_text t)) ∷ []) (has_text t && is_said (with_format v (around_text parts (offset_text t)))) said) same added)

pub out_unsaid : (values : List LineValue) (mark : List ℕ) (old_pairs pairs : List Pair) (old_made made : List ℕ) (old : Part → List ℕ) (v : LineValue) (parts : Around) (pair : Pair) (said : Bool)
    → asked v ≡ under parts pair → pairs ≡ with_pair old_pairs pair
    → AreAdded old_made made (new_rules values mark old_pairs pair) (are_new_said values mark old_pairs pair) said → said ≡ false
    → IsWrittenOut values mark old_pairs pairs old_made made old old v false
out_unsaid values mark old_pairs pairs old_made made old v parts pair said e joined rules is_no = record {
  told = ap (λ b. b && is_said (with_ruleset (with_format v (around_text parts (codes "%s"))) (named_in mark (with_pair old_pairs pair) pair))) (sym is_no ∙ rules.told)
      ∙ ap (λ a. is_asked_said values mark old_pairs a v) (sym e);
  pairs = joined ∙ ap (λ a. joined_by a old_pairs) (sym e);
  made = λ is_yes. absurd (cc);
  added = λ is_yes. absurd (cc);
}

pub out_under : (values : List LineValue) (mark : List ℕ) (old_pairs pairs : List Pair) (old_made made : List ℕ) (old new : Part → List ℕ) (v : LineValue) (parts : Around) (pair : Pair)
    (name : List ℕ) (rules_said said : Bool)
    → asked v ≡ under parts pair → pairs ≡ with_pair old_pairs pair → name ≡ named_in mark (with_pair old_pairs pair) pair
    → AreAdded old_made made (new_rules values mark old_pairs pair) (are_new_said values mark old_pairs pair) rules_said → rules_said ≡ true
    → new Rules ≡ old Rules → new Links ≡ old Links
    → IsAdded (old Zones) (new Zones) (with_ruleset (with_format v (around_text parts (codes "%s"))) name) said
    → IsWrittenOut values mark old_pairs pairs old_made made old new v said
out_under values mark old_pairs pairs old_made made old new v parts pair name rules_said said e joined name_is rules is_yes same_rules same_links added = record {
  told = added.told
      ∙ ap (λ b. b && is_said (with_ruleset (with_format v (around_text parts (codes "%s"))) name)) (sym is_yes ∙ rules.told)
      ∙ ap (λ n. are_new_said values mark old_pairs pair && is_said (with_ruleset (with_format v (around_text parts (codes "%s"))) n)) name_is
      ∙ ap (λ a. is_asked_said values mark old_pairs a v) (sym e);
  pairs = joined ∙ ap (λ a. joined_by a old_pairs) (sym e);
  made = λ now. rules.added is_yes ∙ ap (λ a. old_made ++ flat_map line_text (asked_rules values mark old_pairs a)) (sym e);
  added = λ now part. put_in_zones old new (with_ruleset (with_format v (around_text parts (codes "%s"))) name)
      (ruleset_of_zones v (around_text parts (codes "%s")) name (asks_under v parts pair e)) same_rules same_links (added.added now) part
      ∙ ap (λ n. old part ++ part_text part (with_ruleset (with_format v (around_text parts (codes "%s"))) n)) name_is
      ∙ ap (λ ps. old part ++ part_text part (changed_by (named_in mark ps) (under parts pair) v)) (sym joined)
      ∙ ap (λ a. old part ++ part_text part (changed_by (named_in mark pairs) a v)) (sym e);
}

-- what was written out of a line that is this one
pub out_of_same : (values : List LineValue) (mark : List ℕ) (old_pairs pairs : List Pair) (old_made made : List ℕ) (old new : Part → List ℕ) (read v : LineValue) (said : Bool)
    → read ≡ v → IsWrittenOut values mark old_pairs pairs old_made made old new read said → IsWrittenOut values mark old_pairs pairs old_made made old new v said
out_of_same values mark old_pairs pairs old_made made old new read v said same out =
    subst (λ w. IsWrittenOut values mark old_pairs pairs old_made made old new w said) same out
