-- The lines so far, and those that are left.
use Rattle.std.proofs.Common.{◌≡◌, ℕ, suc, ◌+◌, Bool, true, false, cond, not, nat_lt, List, [], ◌∷◌, ◌++◌, length, map, inl, inr, Some, None, Err, get_or, drop, ◌<◌, ◌≤◌, subst, refl, sym, ap, ◌∙◌, append_assoc, append-nil, arith}
use Rattle.std.proofs.lemmas.{Bool.{and_parts, le-ltb, lt-ltb, or_cases}, Grind.{flat_map-append}, List.{drop_all, drop_more}}
use Rattle.std.specs.Prelude.{◌&&◌, ◌⊎◌, flat_map}
use Rattle.zone_outside.specs.Limit.{text_limit}
use Rattle.zone_table.specs.Values.{RuleValue, LineValue, space, rule}
use Rattle.zone_plain_lines.specs.declared.cause.PlainCause.TheVariants as cause
use Rattle.zone_plain_lines.specs.{LineFaults.{at, bad_line, too_long}, Said.{is_said}, Renamed.{mark_of}}
use Rattle.zone_plain.specs.{MadeNames.{made_name}, Pairs.{Pair, Asked, under, asked, is_same, is_among, with_pair, number_of, joined_by, pairs_from, pairs_of}}
use Rattle.zone_plain.specs.{Made.{rules_named, made_rule, rules_for, are_rules_said, changed_by, changed, is_changed_said, named_in, name_in, made_for, made}, WrittenOut.{made_size, refused_from, written_unless, written_out, IsWrittenAs}}
use Rattle.zone_plain.specs.{Written.{Part, Rules, Zones, Links, line_text, part_text, written}, ToldOffsets.{asked_rules, is_asked_said, IsWrittenOut}, PairLaws.{same_pair, among_with, among_more}}
use Rattle.zone_plain.proofs.PairLemmas.{number_kept}

-- the lines of the ruleset that a source gets for a pair
abbrev pub rules_of : List LineValue → Pair → List LineValue
rules_of values pair = rules_for values (name_in values pair) pair

-- the lines before the nth were written out
pub record HasWritten (limit : ℕ) (values : List LineValue) (pairs : List Pair) (made_text : List ℕ) (out : Part → List ℕ) (n : ℕ) (left : List LineValue) : Type 0 where
  pub pairs_go : pairs_from pairs left ≡ pairs_of values
  pub said : (pair : Pair) → is_among pair pairs ≡ true → are_rules_said values (name_in values pair) pair ≡ true
  pub made_is : made_text ≡ flat_map line_text (flat_map (rules_of values) pairs)
  pub out_goes : (part : Part) → out part ++ flat_map (part_text part) (map (changed (name_in values)) left)
      ≡ flat_map (part_text part) (map (changed (name_in values)) values)
  pub goes_on : refused_from limit values n pairs left ≡ refused_from limit values 1 [] values

pub nothing_written : (values : List LineValue) (out : Part → List ℕ) → ((part : Part) → out part ≡ [])
    → HasWritten text_limit values [] [] out 1 values
nothing_written values out none = record {
  pairs_go = refl;
  said = λ pair e. absurd (cc);
  made_is = refl;
  out_goes = λ part. ap (λ text. text ++ flat_map (part_text part) (map (changed (name_in values)) values)) (none part);
  goes_on = refl;
}

-- a pair that was just asked for has the name that it has in the whole source
name_is : (values left : List LineValue) (mark : List ℕ) (pairs : List Pair) (pair : Pair) → mark ≡ mark_of values
    → pairs_from (with_pair pairs pair) left ≡ pairs_of values → named_in mark (with_pair pairs pair) pair ≡ name_in values pair
name_is values left mark pairs pair mark_is go =
    let number = sym (number_kept left (with_pair pairs pair) pair (among_with pairs pair)) ∙ ap (λ ps. number_of ps pair) go in
    λ i. made_name (mark_is i) (number i)

test_is : (values left : List LineValue) (mark : List ℕ) (pairs : List Pair) (a : Asked) (v : LineValue) → mark ≡ mark_of values
    → pairs_from (joined_by a pairs) left ≡ pairs_of values
    → ((pair : Pair) → is_among pair pairs ≡ true → are_rules_said values (name_in values pair) pair ≡ true)
    → is_asked_said values mark pairs a v ≡ is_changed_said values (name_in values) a v
test_is values left mark pairs (under parts pair) v mark_is go said =
    ap (λ name. cond (is_among pair pairs) true (are_rules_said values name pair) && is_said (changed_by (λ p. name) (under parts pair) v)) name
    ∙ ap (λ b. b && is_said (changed_by (name_in values) (under parts pair) v)) (by_test (is_among pair pairs) refl)
  where
    name : named_in mark (with_pair pairs pair) pair ≡ name_in values pair
    name = name_is values left mark pairs pair mark_is go

    by_test : (b : Bool) → is_among pair pairs ≡ b
        → cond b true (are_rules_said values (name_in values pair) pair) ≡ are_rules_said values (name_in values pair) pair
    by_test true e = sym (said pair e)
    by_test false e = refl
test_is values left mark pairs _ v mark_is go said = refl

changed_is : (values left : List LineValue) (mark : List ℕ) (pairs : List Pair) (a : Asked) (v : LineValue) → mark ≡ mark_of values
    → pairs_from (joined_by a pairs) left ≡ pairs_of values → changed_by (named_in mark (joined_by a pairs)) a v ≡ changed_by (name_in values) a v
changed_is values left mark pairs (under parts pair) v mark_is go =
    ap (λ name. changed_by (λ p. name) (under parts pair) v) (name_is values left mark pairs pair mark_is go)
changed_is values left mark pairs _ v mark_is go = refl

rules_more : (values left : List LineValue) (mark : List ℕ) (pairs : List Pair) (a : Asked) → mark ≡ mark_of values
    → pairs_from (joined_by a pairs) left ≡ pairs_of values
    → flat_map (rules_of values) pairs ++ asked_rules values mark pairs a ≡ flat_map (rules_of values) (joined_by a pairs)
rules_more values left mark pairs (under parts pair) mark_is go =
    ap (λ name. flat_map (rules_of values) pairs ++ cond (is_among pair pairs) [] (rules_for values name pair))
    (name_is values left mark pairs pair mark_is go)
    ∙ by_test (is_among pair pairs)
  where
    by_test : (b : Bool) → flat_map (rules_of values) pairs ++ cond b [] (rules_of values pair) ≡ flat_map (rules_of values) (cond b pairs (pairs ++ pair ∷ []))
    by_test true = append-nil _
    by_test false = sym (flat_map-append (rules_of values) pairs (pair ∷ [])
        ∙ ap (λ vs. flat_map (rules_of values) pairs ++ vs) (append-nil (rules_of values pair)))
rules_more values left mark pairs _ mark_is go = append-nil _

-- the rules of all pairs so far can be said
said_more : (values : List LineValue) (pairs : List Pair) (a : Asked) (v : LineValue)
    → ((pair : Pair) → is_among pair pairs ≡ true → are_rules_said values (name_in values pair) pair ≡ true)
    → is_changed_said values (name_in values) a v ≡ true
    → (pair : Pair) → is_among pair (joined_by a pairs) ≡ true → are_rules_said values (name_in values pair) pair ≡ true
said_more values pairs (under parts more) v said is_yes pair e = by_test (is_among more pairs) e
  where
    here : are_rules_said values (name_in values more) more ≡ true
    here = (and_parts (are_rules_said values (name_in values more) more) _ is_yes).0

    by_case : (is_among pair pairs ≡ true) ⊎ (is_same pair more ≡ true) → are_rules_said values (name_in values pair) pair ≡ true
    by_case (inl e) = said pair e
    by_case (inr e) = ap (λ p. are_rules_said values (name_in values p) p) (same_pair pair more e) ∙ here

    by_test : (b : Bool) → is_among pair (cond b pairs (pairs ++ more ∷ [])) ≡ true → are_rules_said values (name_in values pair) pair ≡ true
    by_test true e = said pair e
    by_test false e = by_case (or_cases (is_among pair pairs) (is_same pair more) (sym (among_more pair more pairs) ∙ e))
said_more values pairs _ v said is_yes pair e = said pair e

next_line : (limit : ℕ) (values left : List LineValue) (n : ℕ) (pairs : List Pair) (v : LineValue) (said long : Bool)
    → is_changed_said values (name_in values) (asked v) v ≡ said → nat_lt limit (made_size values (joined_by (asked v) pairs)) ≡ long
    → refused_from limit values n pairs (v ∷ left)
    ≡ cond (not said) (Some (bad_line (at n cause.Unsayable))) (cond long (Some too_long) (refused_from limit values (suc n) (joined_by (asked v) pairs) left))
unfolding refused_from
next_line limit values left n pairs v said long e f =
    λ i. cond (not (e i)) (Some (bad_line (at n cause.Unsayable))) (cond (f i) (Some too_long) (refused_from limit values (suc n) (joined_by (asked v) pairs) left))

joined_go : (values left : List LineValue) (pairs : List Pair) (v : LineValue) → pairs_from pairs (v ∷ left) ≡ pairs_of values
    → pairs_from (joined_by (asked v) pairs) left ≡ pairs_of values
unfolding pairs_from
joined_go values left pairs v go = go

-- what holds once a line was written out
record Written (limit : ℕ) (values left : List LineValue) (old_pairs : List Pair) (made_text : List ℕ) (v : LineValue) (said : Bool) : Type 0 where
  pub go : pairs_from (joined_by (asked v) old_pairs) left ≡ pairs_of values
  pub test : is_changed_said values (name_in values) (asked v) v ≡ said
  pub made_is : said ≡ true → made_text ≡ flat_map line_text (flat_map (rules_of values) (joined_by (asked v) old_pairs))

written_now : (limit : ℕ) (values left : List LineValue) (mark : List ℕ) (old_pairs pairs : List Pair) (old_made made_text : List ℕ) (old out : Part → List ℕ) (n : ℕ) (v : LineValue) (said : Bool)
    → mark ≡ mark_of values → HasWritten limit values old_pairs old_made old n (v ∷ left)
    → IsWrittenOut values mark old_pairs pairs old_made made_text old out v said
    → Written limit values left old_pairs made_text v said
written_now limit values left mark old_pairs pairs old_made made_text old out n v said mark_is so_far now =
    let go = joined_go values left old_pairs v so_far.pairs_go in
    record {
      go = go;
      test = sym (test_is values left mark old_pairs (asked v) v mark_is go so_far.said) ∙ sym now.told;
      made_is = λ is_yes. now.made is_yes ∙ ap (λ ts. ts ++ flat_map line_text (asked_rules values mark old_pairs (asked v))) so_far.made_is
          ∙ sym (flat_map-append line_text (flat_map (rules_of values) old_pairs) (asked_rules values mark old_pairs (asked v)))
          ∙ ap (flat_map line_text) (rules_more values left mark old_pairs (asked v) mark_is go);
    }

-- the limit stands between the rules that are made and the lines that are left
size_is : (limit : ℕ) (values : List LineValue) (pairs : List Pair) (made_text : List ℕ) (long : Bool)
    → made_text ≡ flat_map line_text (flat_map (rules_of values) pairs) → nat_lt limit (length made_text) ≡ long
    → nat_lt limit (made_size values pairs) ≡ long
size_is limit values pairs made_text long made_is e = ap (λ ts. nat_lt limit (length ts)) (sym made_is) ∙ e

one_written : (limit : ℕ) (values left : List LineValue) (mark : List ℕ) (old_pairs pairs : List Pair) (old_made made_text : List ℕ) (old out : Part → List ℕ) (n : ℕ) (v : LineValue) (said : Bool)
    → mark ≡ mark_of values → HasWritten limit values old_pairs old_made old n (v ∷ left)
    → IsWrittenOut values mark old_pairs pairs old_made made_text old out v said → said ≡ true → nat_lt limit (length made_text) ≡ false
    → HasWritten limit values pairs made_text out (suc n) left
one_written limit values left mark old_pairs pairs old_made made_text old out n v said mark_is so_far now is_yes short =
    let w = written_now limit values left mark old_pairs pairs old_made made_text old out n v said mark_is so_far now in
    let test = w.test ∙ is_yes in
    record {
      pairs_go = ap (λ ps. pairs_from ps left) now.pairs ∙ w.go;
      said = λ pair e. said_more values old_pairs (asked v) v so_far.said test pair (ap (is_among pair) (sym now.pairs) ∙ e);
      made_is = w.made_is is_yes ∙ ap (λ ps. flat_map line_text (flat_map (rules_of values) ps)) (sym now.pairs);
      out_goes = λ part. ap (λ text. text ++ flat_map (part_text part) (map (changed (name_in values)) left)) (now.added is_yes part)
          ∙ append_assoc (old part) (part_text part (changed_by (named_in mark pairs) (asked v) v)) (flat_map (part_text part) (map (changed (name_in values)) left))
          ∙ ap (λ w. old part ++ (part_text part w ++ flat_map (part_text part) (map (changed (name_in values)) left)))
          (ap (λ ps. changed_by (named_in mark ps) (asked v) v) now.pairs ∙ changed_is values left mark old_pairs (asked v) v mark_is w.go)
          ∙ so_far.out_goes part;
      goes_on = ap (λ ps. refused_from limit values (suc n) ps left) now.pairs
          ∙ sym (next_line limit values left n old_pairs v true false test
          (size_is limit values (joined_by (asked v) old_pairs) made_text false (w.made_is is_yes) short)) ∙ so_far.goes_on;
    }

unsaid_here : (values left : List LineValue) (mark : List ℕ) (old_pairs pairs : List Pair) (old_made made_text : List ℕ) (old out : Part → List ℕ) (n : ℕ) (v : LineValue) (said : Bool)
    → mark ≡ mark_of values → HasWritten text_limit values old_pairs old_made old n (v ∷ left)
    → IsWrittenOut values mark old_pairs pairs old_made made_text old out v said → said ≡ false
    → written_out values ≡ Err (bad_line (at n cause.Unsayable))
unfolding written_out
unsaid_here values left mark old_pairs pairs old_made made_text old out n v said mark_is so_far now is_no =
    let w = written_now text_limit values left mark old_pairs pairs old_made made_text old out n v said mark_is so_far now in
    ap (written_unless values) (sym so_far.goes_on ∙ next_line text_limit values left n old_pairs v false _ (w.test ∙ is_no) refl)

too_long_here : (values left : List LineValue) (mark : List ℕ) (old_pairs pairs : List Pair) (old_made made_text : List ℕ) (old out : Part → List ℕ) (n : ℕ) (v : LineValue) (said : Bool)
    → mark ≡ mark_of values → HasWritten text_limit values old_pairs old_made old n (v ∷ left)
    → IsWrittenOut values mark old_pairs pairs old_made made_text old out v said → said ≡ true → nat_lt text_limit (length made_text) ≡ true
    → written_out values ≡ Err too_long
unfolding written_out
too_long_here values left mark old_pairs pairs old_made made_text old out n v said mark_is so_far now is_yes long =
    let w = written_now text_limit values left mark old_pairs pairs old_made made_text old out n v said mark_is so_far now in
    ap (written_unless values) (sym so_far.goes_on
    ∙ next_line text_limit values left n old_pairs v true true (w.test ∙ is_yes)
    (size_is text_limit values (joined_by (asked v) old_pairs) made_text true (w.made_is is_yes) long))

-- texts of the rules that are made, by what they are of a rule
made_alike : (p q : LineValue → List ℕ) (values : List LineValue) → ((r : RuleValue) → p (rule r) ≡ q (rule r)) → (pairs : List Pair)
    → flat_map p (made_for values pairs) ≡ flat_map q (made_for values pairs)
made_alike p q values alike [] = refl
made_alike p q values alike (pair ∷ pairs) =
    flat_map-append p (rules_of values pair) (made_for values pairs)
    ∙ (λ i. of_rules (rules_named values pair.rules) i ++ made_alike p q values alike pairs i)
    ∙ sym (flat_map-append q (rules_of values pair) (made_for values pairs))
  where
    of_rules : (rs : List RuleValue) → flat_map p (map (λ r. rule (made_rule (name_in values pair) pair.offset r)) rs)
        ≡ flat_map q (map (λ r. rule (made_rule (name_in values pair) pair.offset r)) rs)
    of_rules [] = refl
    of_rules (r ∷ rs) = λ i. alike (made_rule (name_in values pair) pair.offset r) i ++ of_rules rs i

abbrev no_text : LineValue → List ℕ
no_text v = []

no_texts : (values : List LineValue) → flat_map no_text values ≡ []
no_texts [] = refl
no_texts (v ∷ values) = no_texts values

part_alone : (part : Part) (values : List LineValue) (text : List ℕ) → ((r : RuleValue) → part_text part (rule r) ≡ no_text (rule r))
    → text ++ [] ≡ flat_map (part_text part) (map (changed (name_in values)) values)
    → text ≡ flat_map (part_text part) (map (changed (name_in values)) values ++ made values)
unfolding made
part_alone part values text none so_far =
    sym (append-nil text) ∙ so_far ∙ sym (append-nil _)
    ∙ ap (λ t. flat_map (part_text part) (map (changed (name_in values)) values) ++ t)
    (sym (made_alike (part_text part) no_text values none (pairs_of values) ∙ no_texts (made values)))
    ∙ sym (flat_map-append (part_text part) (map (changed (name_in values)) values) (made values))

pub all_written : (values : List LineValue) (pairs : List Pair) (made_text : List ℕ) (out : Part → List ℕ) (n : ℕ) → HasWritten text_limit values pairs made_text out n []
    → IsWrittenAs values (((out Rules ++ made_text) ++ out Zones) ++ out Links)
unfolding written_out refused_from made pairs_from written
all_written values pairs made_text out n so_far =
    let none : refused_from text_limit values 1 [] values ≡ None = sym so_far.goes_on in
    let made_is : made_text ≡ flat_map (part_text Rules) (made values) =
    so_far.made_is ∙ ap (λ ps. flat_map line_text (flat_map (rules_of values) ps)) so_far.pairs_go
    ∙ made_alike line_text (part_text Rules) values (λ r. refl) (pairs_of values) in
    let rules : out Rules ++ made_text ≡ flat_map (part_text Rules) (map (changed (name_in values)) values ++ made values) =
    (λ i. (sym (append-nil (out Rules)) ∙ so_far.out_goes Rules) i ++ made_is i)
    ∙ sym (flat_map-append (part_text Rules) (map (changed (name_in values)) values) (made values)) in
    let zones = part_alone Zones values (out Zones) (λ r. refl) (so_far.out_goes Zones) in
    let links = part_alone Links values (out Links) (λ r. refl) (so_far.out_goes Links) in
    record { out = _; spelled = ap (written_unless values) none; wrote = λ i. (rules i ++ zones i) ++ links i }

-- the same by places

here : (values : List LineValue) (pairs : List Pair) (made_text : List ℕ) (out : Part → List ℕ) (i : ℕ) → i < length values
    → HasWritten text_limit values pairs made_text out (i + 1) (drop i values)
    → HasWritten text_limit values pairs made_text out (i + 1) (get_or values i space ∷ drop (i + 1) values)
here values pairs made_text out i inside so_far = subst (HasWritten text_limit values pairs made_text out (i + 1)) (drop_more values i space inside) so_far

pub one_reached : (values : List LineValue) (mark : List ℕ) (old_pairs pairs : List Pair) (old_made made_text : List ℕ) (old out : Part → List ℕ) (i : ℕ) (said : Bool)
    → mark ≡ mark_of values → i < length values → HasWritten text_limit values old_pairs old_made old (i + 1) (drop i values)
    → IsWrittenOut values mark old_pairs pairs old_made made_text old out (get_or values i space) said → said ≡ true → length made_text ≤ text_limit
    → HasWritten text_limit values pairs made_text out (i + 1 + 1) (drop (i + 1) values)
one_reached values mark old_pairs pairs old_made made_text old out i said mark_is inside so_far now is_yes short =
    subst (λ n. HasWritten text_limit values pairs made_text out n (drop (i + 1) values)) (next i)
    (one_written text_limit values (drop (i + 1) values) mark old_pairs pairs old_made made_text old out (i + 1) (get_or values i space) said mark_is
    (here values old_pairs old_made old i inside so_far) now is_yes (le-ltb text_limit (length made_text) short))
  where
    next : (i : ℕ) → suc (i + 1) ≡ i + 1 + 1
    next i = omega arith

pub unsaid_at : (values : List LineValue) (mark : List ℕ) (old_pairs pairs : List Pair) (old_made made_text : List ℕ) (old out : Part → List ℕ) (i : ℕ) (said : Bool)
    → mark ≡ mark_of values → i < length values → HasWritten text_limit values old_pairs old_made old (i + 1) (drop i values)
    → IsWrittenOut values mark old_pairs pairs old_made made_text old out (get_or values i space) said → said ≡ false
    → written_out values ≡ Err (bad_line (at (i + 1) cause.Unsayable))
unsaid_at values mark old_pairs pairs old_made made_text old out i said mark_is inside so_far now is_no =
    unsaid_here values (drop (i + 1) values) mark old_pairs pairs old_made made_text old out (i + 1) (get_or values i space) said mark_is
    (here values old_pairs old_made old i inside so_far) now is_no

pub too_long_at : (values : List LineValue) (mark : List ℕ) (old_pairs pairs : List Pair) (old_made made_text : List ℕ) (old out : Part → List ℕ) (i : ℕ) (said : Bool)
    → mark ≡ mark_of values → i < length values → HasWritten text_limit values old_pairs old_made old (i + 1) (drop i values)
    → IsWrittenOut values mark old_pairs pairs old_made made_text old out (get_or values i space) said → said ≡ true → text_limit < length made_text
    → written_out values ≡ Err too_long
too_long_at values mark old_pairs pairs old_made made_text old out i said mark_is inside so_far now is_yes long =
    too_long_here values (drop (i + 1) values) mark old_pairs pairs old_made made_text old out (i + 1) (get_or values i space) said mark_is
    (here values old_pairs old_made old i inside so_far) now is_yes (lt-ltb text_limit (length made_text) long)

pub all_reached : (values : List LineValue) (pairs : List Pair) (made_text : List ℕ) (out : Part → List ℕ) (i : ℕ) → length values ≤ i
    → HasWritten text_limit values pairs made_text out (i + 1) (drop i values)
    → IsWrittenAs values (((out Rules ++ made_text) ++ out Zones) ++ out Links)
all_reached values pairs made_text out i past so_far =
    all_written values pairs made_text out (i + 1) (subst (HasWritten text_limit values pairs made_text out (i + 1)) (drop_all i values past) so_far)
