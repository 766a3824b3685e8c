-- What was added of a rule, of a ruleset and of a line.
use Rattle.std.{proofs.Common.{◌≡◌, ℕ, ℤ, Bool, true, false, not, cond, List, [], ◌∷◌, ◌++◌, Some, None, refl, sym, ap, ◌∙◌, subst, append-nil}, specs.Prelude.{◌&&◌, flat_map, if◌then◌else◌}}
use Rattle.zone_table.specs.Values.{RuleValue, LineValue, rule}
use Rattle.zone_plain_lines.specs.{PlainTexts.{plain_text}, Said.{is_said}}
use Rattle.zone_plain.specs.{Formats.{Around}, OffsetTexts.{offset_text, has_text}, Pairs.{Pair, is_among, with_pair}, Made.{total_of, renamed, made_rule, is_rule_said, rules_for, are_rules_said, with_format, around_text, named_in}, Written.{line_text}}
use Rattle.zone_plain.specs.ToldOffsets.{IsAdded, AreAdded, new_rules, are_new_said}

-- a line was added, or not
pub said_and_added : (old new : List ℕ) (v : LineValue) (text : List ℕ) → is_said v ≡ true → text ≡ plain_text v → new ≡ old ++ (text ++ 10 ∷ [])
    → IsAdded old new v true
said_and_added old new v text said same added = record {
  told = sym said;
  added = λ is_yes. added ∙ ap (λ t. old ++ (t ++ 10 ∷ [])) same;
}

pub unsaid : (old new : List ℕ) (v : LineValue) → is_said v ≡ false → IsAdded old new v false
unsaid old new v said = record { told = sym said; added = λ is_yes. absurd (cc) }

-- one line
one_text : (old : List ℕ) (v : LineValue) → old ++ line_text v ≡ old ++ flat_map line_text (v ∷ [])
one_text old v = ap (λ t. old ++ t) (sym (append-nil (line_text v)))

-- a total that has no text, and one that has one
pub no_total : (t : ℤ) → None ≡ (if has_text t then Some t else None) → has_text t ≡ false
no_total t e = by_test (has_text t) e
  where
    by_test : (b : Bool) → None ≡ cond b (Some t) None → b ≡ false
    by_test true e = absurd (cc)
    by_test false e = refl

pub some_total : (t found : ℤ) → Some found ≡ (if has_text t then Some t else None) → (has_text t ≡ true) × (found ≡ t)
some_total t found e = by_test (has_text t) e
  where
    by_test : (b : Bool) → Some found ≡ cond b (Some t) None → (b ≡ true) × (found ≡ t)
    by_test true e = (refl, cc)
    by_test false e = absurd (cc)

pub total_has_text : (t found : ℤ) → Some found ≡ (if has_text t then Some t else None) → has_text found ≡ true
total_has_text t found e = let both = some_total t found e in ap has_text both.1 ∙ both.0

pub rule_unsaid : (old : List ℕ) (name : List ℕ) (offset : ℤ) (r : RuleValue) → has_text (total_of offset r) ≡ false
    → AreAdded old old (rule (made_rule name offset r) ∷ []) (is_rule_said name offset r) false
rule_unsaid old name offset r is_no = record {
  told = ap (λ b. b && is_said (rule (made_rule name offset r))) (sym is_no);
  added = λ is_yes. absurd (cc);
}

pub rule_added : (old new : List ℕ) (name : List ℕ) (offset : ℤ) (r : RuleValue) (found : ℤ) (letters : List ℕ) (v : LineValue) (said : Bool)
    → Some found ≡ (if has_text (total_of offset r) then Some (total_of offset r) else None) → letters ≡ offset_text found → v ≡ rule (renamed r name letters)
    → IsAdded old new v said → AreAdded old new (rule (made_rule name offset r) ∷ []) (is_rule_said name offset r) said
rule_added old new name offset r found letters v said e text is added =
    let both = some_total (total_of offset r) found e in
    let made_is : v ≡ rule (made_rule name offset r) = is ∙ ap (λ l. rule (renamed r name l)) (text ∙ ap offset_text both.1) in
    record {
      told = added.told ∙ ap is_said made_is ∙ ap (λ b. b && is_said (rule (made_rule name offset r))) (sym both.0);
      added = λ is_yes. added.added is_yes ∙ ap (λ w. old ++ line_text w) made_is ∙ one_text old (rule (made_rule name offset r));
    }

pub total_unsaid : (old : List ℕ) (v : LineValue) (t : ℤ) → has_text t ≡ false → AreAdded old old (v ∷ []) (has_text t && is_said v) false
total_unsaid old v t is_no = record { told = ap (λ b. b && is_said v) (sym is_no); added = λ is_yes. absurd (cc) }

pub total_added : (old new : List ℕ) (v : LineValue) (parts : Around) (format : List ℕ) (t : ℤ) (said : Bool) → has_text t ≡ true
    → format ≡ around_text parts (offset_text t) → IsAdded old new (with_format v format) said
    → AreAdded old new (with_format v (around_text parts (offset_text t)) ∷ []) (has_text t && is_said (with_format v (around_text parts (offset_text t)))) said
total_added old new v parts format t said has is added = record {
  told = added.told ∙ ap (λ f. is_said (with_format v f)) is ∙ ap (λ b. b && is_said (with_format v (around_text parts (offset_text t)))) (sym has);
  added = λ is_yes. added.added is_yes ∙ ap (λ f. old ++ line_text (with_format v f)) is ∙ one_text old (with_format v (around_text parts (offset_text t)));
}

-- a pair that was asked for before has its rules already
pub known_rules : (values : List LineValue) (mark : List ℕ) (pairs : List Pair) (pair : Pair) (old : List ℕ) (is_new : Bool)
    → is_new ≡ not (is_among pair pairs) → is_new ≡ false → AreAdded old old (new_rules values mark pairs pair) (are_new_said values mark pairs pair) true
known_rules values mark pairs pair old is_new e is_no = by_test (is_among pair pairs) (sym e ∙ is_no)
  where
    by_test : (b : Bool) → not b ≡ false
        → AreAdded old old (cond b [] (rules_for values (named_in mark (with_pair pairs pair) pair) pair))
        (cond b true (are_rules_said values (named_in mark (with_pair pairs pair) pair) pair)) true
    by_test true e = record { told = refl; added = λ is_yes. sym (append-nil old) }
    by_test false e = absurd (cc)

pub new_added : (values : List LineValue) (mark : List ℕ) (pairs : List Pair) (pair : Pair) (name : List ℕ) (old new : List ℕ) (is_new said : Bool)
    → is_new ≡ not (is_among pair pairs) → is_new ≡ true → name ≡ named_in mark (with_pair pairs pair) pair
    → AreAdded old new (rules_for values name pair) (are_rules_said values name pair) said
    → AreAdded old new (new_rules values mark pairs pair) (are_new_said values mark pairs pair) said
new_added values mark pairs pair name old new is_new said e is_yes is added = by_test (is_among pair pairs) (sym e ∙ is_yes)
  where
    by_test : (b : Bool) → not b ≡ true
        → AreAdded old new (cond b [] (rules_for values (named_in mark (with_pair pairs pair) pair) pair))
        (cond b true (are_rules_said values (named_in mark (with_pair pairs pair) pair) pair)) said
    by_test true e = absurd (cc)
    by_test false e = subst (λ n. AreAdded old new (rules_for values n pair) (are_rules_said values n pair) said) is added
