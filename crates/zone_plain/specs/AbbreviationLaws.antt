-- Under `%z` an abbreviation is FORMAT with the text of its own total.
use Rattle.std.proofs.Common.{◌≡◌, ℕ, zero, suc, ◌+◌, ◌<◌, ◌^◌, ℤ, pos, Bool, true, false, cond, not, List, [], ◌∷◌, ◌++◌, length, map, reverse, take, get_or, nat_lt, All, Ok, Option, Some, None, option_map, subst, refl, sym, ap, ◌∙◌, append_assoc, arith}
use Rattle.std.proofs.{Math.Bool.{or-true}, lemmas.Bool.{and_parts, not-true, or_parts}, lemmas.Bool.Decides.{nat_tests}, lemmas.Int.{ints}, lemmas.List.{get_or_append_left, get_or-map, length-map}, lemmas.List.Elements.{All-map}}
use Rattle.std.proofs.lemmas.List.{Folds.{list_any-append}, Sums.{split_at_first, passes_at_first}}
use Rattle.std.specs.{Prelude.{◌==◌, ◌&&◌, ◌||◌, ◌+ℤ◌, ◌/◌, ◌%◌, codes, bytes_eq, int_lt, unsigned_abs, slice_index_or}, List.{list_any, position_or_len, before_first, after_first}, Option.{option_map_or, option_and_then}}
use Rattle.zone_table.specs.{Seconds.{seconds_of}, Values.{SavingValue, no_saving, one_off, multiple, InfoValue, LineValue, space, zone, continuation}, Joined.{rules_of}, declared.rule.RuleInfo.{RuleInfo}, Formats.{is_slash, is_placeholder, has_placeholder, format_of, filled, abbreviation}, declared.zone.Format.TheVariants.{Constant, Alternate, Placeholder}}
use Rattle.zone_plain_lines.specs.{PlainTexts.{two_digits}, Columns.{has_byte, is_letter, is_filled, is_format}}
use Rattle.basics.specs.Marks.{cut}
use Rattle.zone_plain.specs.{Abbreviations.{info_in, ruleset_in, own_saving, abbreviation_under, own_abbreviation, named_total, IsNamedUnder}, Formats.{Around, around, around_z, around_mark}}
use Rattle.zone_plain.specs.{Made.{made_info, with_format, with_ruleset, changed_by, changed, name_in, made}, MadeLaws.{written_is}, PairLaws.{among_with, among_joined}, TableLaws.{made_ruleset}, WrittenOut.{written_out}}
use Rattle.zone_plain.specs.{OffsetTexts.{seconds_text, minutes_text, sign, offset_text}, Pairs.{Pair, pair_of, nothing, total, under, asked_under, asked_by, asked, is_among, joined_by, pairs_from, pairs_of}}

-- letters in place of `%s`

filled_on : (letters : List ℕ) (c : ℕ) (rest : List ℕ) → (c == 37) ≡ false → filled letters (c ∷ rest) ≡ c ∷ filled letters rest
unfolding filled
filled_on letters c [] e = refl
filled_on letters c (d ∷ rest) e = ap (λ b. cond (b && (d == 115)) (letters ++ filled letters rest) (c ∷ filled letters (d ∷ rest))) e

filled_clean : (letters text : List ℕ) → has_byte 37 text ≡ false → filled letters text ≡ text
unfolding filled
filled_clean letters [] e = refl
filled_clean letters (c ∷ text) e =
    let both = or_parts (c == 37) (has_byte 37 text) e in
    filled_on letters c text both.0 ∙ ap (λ t. c ∷ t) (filled_clean letters text both.1)

filled_at : (letters before after : List ℕ) → has_byte 37 before ≡ false → has_byte 37 after ≡ false
    → filled letters (before ++ codes "%s" ++ after) ≡ before ++ letters ++ after
unfolding filled
filled_at letters [] after p q = ap (λ t. letters ++ t) (filled_clean letters after q)
filled_at letters (c ∷ before) after p q =
    let both = or_parts (c == 37) (has_byte 37 before) p in
    filled_on letters c (before ++ codes "%s" ++ after) both.0 ∙ ap (λ t. c ∷ t) (filled_at letters before after both.1 q)

placed_on : (c : ℕ) (rest : List ℕ) → has_placeholder rest ≡ true → has_placeholder (c ∷ rest) ≡ true
unfolding has_placeholder
placed_on c [] e = absurd (cc)
placed_on c (d ∷ rest) e = ap (λ b. is_placeholder c d || b) e ∙ or-true (is_placeholder c d)

placed : (before after : List ℕ) → has_placeholder (before ++ codes "%s" ++ after) ≡ true
unfolding has_placeholder
placed [] after = refl
placed (c ∷ before) after = placed_on c (before ++ codes "%s" ++ after) (placed before after)

not_placed : (text : List ℕ) → has_byte 37 text ≡ false → has_placeholder text ≡ false
unfolding has_placeholder
not_placed (c ∷ d ∷ text) e =
    let both = or_parts (c == 37) (has_byte 37 (d ∷ text)) e in
    (λ i. (both.0 i && (d == 115)) || not_placed (d ∷ text) both.1 i)
not_placed _ e = refl

-- a text without such a byte, and one more behind it
pub clean_append : (mark : ℕ) (xs ys : List ℕ) → has_byte mark xs ≡ false → has_byte mark ys ≡ false → has_byte mark (xs ++ ys) ≡ false
clean_append mark xs ys p q = list_any-append (λ c. c == mark) xs ys ∙ (λ i. p i || q i)

-- what stands on either side of `%z` has neither a percent sign nor a slash
pub record AreClean (before after : List ℕ) : Type 0 where
  pub before_marks : has_byte 37 before ≡ false
  pub before_slashes : has_byte 47 before ≡ false
  pub after_marks : has_byte 37 after ≡ false
  pub after_slashes : has_byte 47 after ≡ false

with_letters : (before after letters : List ℕ) (saving : ℤ) → AreClean before after
    → abbreviation (format_of ((before ++ codes "%s") ++ after)) saving (Some letters) ≡ (before ++ letters) ++ after
unfolding format_of abbreviation
with_letters before after letters saving clean =
    let text = (before ++ codes "%s") ++ after in
    let none = clean_append 47 (before ++ codes "%s") after (clean_append 47 before (codes "%s") clean.before_slashes refl) clean.after_slashes in
    ap (λ b. abbreviation (cond b (Alternate (before_first is_slash text) (after_first is_slash text))
    (cond (has_placeholder text) (Placeholder text) (Constant text))) saving (Some letters)) none
    ∙ ap (λ b. abbreviation (cond b (Placeholder text) (Constant text)) saving (Some letters)) (placed before after)
    ∙ filled_at letters before after clean.before_marks clean.after_marks

by_itself : (text : List ℕ) (saving : ℤ) (letters : Option (List ℕ)) → has_byte 37 text ≡ false → has_byte 47 text ≡ false
    → abbreviation (format_of text) saving letters ≡ text
unfolding format_of abbreviation
by_itself text saving letters p q =
    ap (λ b. abbreviation (cond b (Alternate (before_first is_slash text) (after_first is_slash text))
    (cond (has_placeholder text) (Placeholder text) (Constant text))) saving letters) q
    ∙ ap (λ b. abbreviation (cond b (Placeholder text) (Constant text)) saving letters) (not_placed text p)

-- the text of a total has digits and a sign alone

no_digit : (mark x : ℕ) → mark < 48 → (48 + x == mark) ≡ false
no_digit mark x below = grind (arith, nat_tests)

digits_clean : (mark n : ℕ) → mark < 48 → has_byte mark (two_digits n) ≡ false
digits_clean mark n below = (λ i. no_digit mark (n / 10) below i || (no_digit mark (n % 10) below i || false))

seconds_clean : (mark n : ℕ) → mark < 48 → has_byte mark (seconds_text n) ≡ false
seconds_clean mark n below = by_test (n == 0)
  where
    by_test : (b : Bool) → has_byte mark (cond b [] (two_digits n)) ≡ false
    by_test true = refl
    by_test false = digits_clean mark n below

minutes_clean : (mark n : ℕ) → mark < 48 → has_byte mark (minutes_text n) ≡ false
minutes_clean mark n below = by_test (n == 0)
  where
    by_test : (b : Bool) → has_byte mark (cond b [] (two_digits (n / 60) ++ seconds_text (n % 60))) ≡ false
    by_test true = refl
    by_test false = clean_append mark (two_digits (n / 60)) (seconds_text (n % 60)) (digits_clean mark (n / 60) below) (seconds_clean mark (n % 60) below)

pub text_clean : (mark : ℕ) (t : ℤ) → mark < 48 → (43 == mark) ≡ false → (45 == mark) ≡ false → has_byte mark (offset_text t) ≡ false
unfolding offset_text
text_clean mark t below plus minus =
    clean_append mark (sign t ∷ two_digits (unsigned_abs t / 3600)) (minutes_text (unsigned_abs t % 3600))
    (λ i. by_test (int_lt t (pos 0)) i || digits_clean mark (unsigned_abs t / 3600) below i) (minutes_clean mark (unsigned_abs t % 3600) below)
  where
    by_test : (b : Bool) → (cond b 45 43 == mark) ≡ false
    by_test true = minus
    by_test false = plus

with_total : (before after : List ℕ) (t saving : ℤ) → AreClean before after
    → abbreviation (format_of ((before ++ offset_text t) ++ after)) saving None ≡ (before ++ offset_text t) ++ after
with_total before after t saving clean =
    by_itself ((before ++ offset_text t) ++ after) saving None
    (clean_append 37 (before ++ offset_text t) after
    (clean_append 37 before (offset_text t) clean.before_marks (text_clean 37 t (omega arith) refl refl)) clean.after_marks)
    (clean_append 47 (before ++ offset_text t) after
    (clean_append 47 before (offset_text t) clean.before_slashes (text_clean 47 t (omega arith) refl refl)) clean.after_slashes)

-- what stands on either side of `%z` in a format

none_before : (p : ℕ → Bool) (text : List ℕ) → list_any p (before_first p text) ≡ false
none_before p [] = refl
none_before p (c ∷ text) = by_test (p c) refl (none_before p text)
  where
    by_test : (b : Bool) → p c ≡ b → list_any p (before_first p text) ≡ false
        → list_any p (take (cond (not b) (1 + position_or_len p text) 0) (c ∷ text)) ≡ false
    by_test true e rest = refl
    by_test false e rest =
        let next : 1 + position_or_len p text ≡ suc (position_or_len p text) = omega arith in
        ap (λ n. list_any p (take n (c ∷ text))) next ∙ (λ i. e i || rest i)

parted : (ruled : Bool) (x y before after : List ℕ) → is_filled ruled x y ≡ true → has_byte 37 x ≡ false
    → around_z (x, y) ≡ Some (around before after) → AreClean before after
parted ruled x [] before after e none mark = absurd (cc)
parted ruled x (c ∷ y) before after e none mark = by_test (c == 122) mark
  where
    clean : AreClean x y
    clean =
        let slashes = and_parts (is_letter ruled (c ∷ y) && not (has_byte 37 (c ∷ y)) && not (has_byte 47 x)) (not (has_byte 47 (c ∷ y))) e in
        let fronts = and_parts (is_letter ruled (c ∷ y) && not (has_byte 37 (c ∷ y))) (not (has_byte 47 x)) slashes.0 in
        let marks = and_parts (is_letter ruled (c ∷ y)) (not (has_byte 37 (c ∷ y))) fronts.0 in
        record {
          before_marks = none;
          before_slashes = not-true (has_byte 47 x) fronts.1;
          after_marks = (or_parts (c == 37) (has_byte 37 y) (not-true (has_byte 37 (c ∷ y)) marks.1)).1;
          after_slashes = (or_parts (c == 47) (has_byte 47 y) (not-true (has_byte 47 (c ∷ y)) slashes.1)).1;
        }

    by_test : (b : Bool) → option_map (around x) (cond b (Some y) None) ≡ Some (around before after) → AreClean before after
    by_test true mark = let same : around x y ≡ around before after = cc in subst (λ a. AreClean a.before a.after) same clean
    by_test false mark = absurd (cc)

-- so a format is parted
pub clean_parts : (ruled : Bool) (format before after : List ℕ) → is_format ruled format ≡ true → around_mark format ≡ Some (around before after)
    → AreClean before after
unfolding is_format around_mark
clean_parts ruled format before after e mark = by_hyphen (bytes_eq format (codes "-")) e
  where
    x : List ℕ
    x = before_first (λ c. c == 37) format

    y : List ℕ
    y = after_first (λ c. c == 37) format

    by_cut : (b : Bool) → option_map_or (λ (parts : List ℕ × List ℕ). is_filled ruled parts.0 parts.1) (cond b (Some (x, y)) None) true ≡ true
        → option_and_then around_z (cond b (Some (x, y)) None) ≡ Some (around before after) → AreClean before after
    by_cut true e mark = parted ruled x y before after e (none_before (λ c. c == 37) format) mark
    by_cut false e mark = absurd (cc)

    by_hyphen : (b : Bool) → cond b false (option_map_or (λ (parts : List ℕ × List ℕ). is_filled ruled parts.0 parts.1) (cut 37 format) true) ≡ true → AreClean before after
    by_hyphen true e = absurd (cc)
    by_hyphen false e = by_cut (nat_lt (position_or_len (λ c. c == 37) format) (length format)) e mark

-- the parts of a format are what stands on either side of `%z`
pub parts_are : (format before after : List ℕ) → around_mark format ≡ Some (around before after) → format ≡ (before ++ codes "%z") ++ after
unfolding around_mark
parts_are format before after mark = by_cut (nat_lt (position_or_len is_percent format) (length format)) refl mark
  where
    is_percent : ℕ → Bool
    is_percent c = c == 37

    x : List ℕ
    x = before_first is_percent format

    y : List ℕ
    y = after_first is_percent format

    percent : (c : ℕ) → (c == 37) ≡ true → c ≡ 37
    percent c e = grind (arith, nat_tests)

    by_z : (b : Bool) (c : ℕ) (rest : List ℕ) → (c == 122) ≡ b → option_map (around x) (cond b (Some rest) None) ≡ Some (around before after)
        → x ++ 37 ∷ c ∷ rest ≡ (before ++ codes "%z") ++ after
    by_z true c rest z mark =
        let same : around x rest ≡ around before after = cc in
        let letter : c ≡ 122 = grind (arith, nat_tests) in
        ap (λ d. x ++ 37 ∷ d ∷ rest) letter ∙ sym (append_assoc x (codes "%z") rest) ∙ ap (λ a. (a.before ++ codes "%z") ++ a.after) same
    by_z false c rest z mark = absurd (cc)

    by_rest : (rest : List ℕ) → around_z (x, rest) ≡ Some (around before after) → x ++ 37 ∷ rest ≡ (before ++ codes "%z") ++ after
    by_rest [] mark = absurd (cc)
    by_rest (c ∷ rest) mark = by_z (c == 122) c rest refl mark

    by_cut : (b : Bool) → nat_lt (position_or_len is_percent format) (length format) ≡ b
        → option_and_then around_z (cond b (Some (x, y)) None) ≡ Some (around before after) → format ≡ (before ++ codes "%z") ++ after
    by_cut true is mark =
        let within : position_or_len is_percent format < length format = grind (arith, nat_tests) in
        split_at_first is_percent format 0 within
        ∙ ap (λ c. x ++ c ∷ y) (percent _ (passes_at_first is_percent format 0 within)) ∙ by_rest y mark
    by_cut false is mark = absurd (cc)

-- lines

no_more : (t : ℤ) → t ≡ t +ℤ pos 0
no_more t = grind (arith, ints)

asked_alone : (saving : SavingValue) (amount offset : ℤ) (parts : Around) → own_saving saving ≡ Some amount
    → asked_under saving offset parts ≡ total parts (offset +ℤ amount)
asked_alone no_saving amount offset parts e = let same : pos 0 ≡ amount = cc in ap (total parts) (no_more offset ∙ ap (λ a. offset +ℤ a) same)
asked_alone (one_off given) amount offset parts e = let same : seconds_of given ≡ amount = cc in ap (λ a. total parts (offset +ℤ a)) same
asked_alone (multiple name) amount offset parts e = absurd (cc)

-- what a line asks for whose FORMAT has these parts
asked_of : (v : LineValue) (info : InfoValue) (parts : Around) → info_in v ≡ Some info → around_mark info.format ≡ Some parts
    → asked v ≡ asked_under info.saving (seconds_of info.utc_offset) parts
unfolding asked_by
asked_of (zone z w) info parts is mark =
    let same : w ≡ info = cc in
    ap asked_by same ∙ ap (λ o. option_map_or (asked_under info.saving (seconds_of info.utc_offset)) o nothing) mark
asked_of (continuation w) info parts is mark =
    let same : w ≡ info = cc in
    ap asked_by same ∙ ap (λ o. option_map_or (asked_under info.saving (seconds_of info.utc_offset)) o nothing) mark
asked_of _ info parts is mark = absurd (cc)

-- a line with another format has the abbreviations of that
by_format : (v : LineValue) (info : InfoValue) (format : List ℕ) (saving : ℤ) (text : List ℕ) → info_in v ≡ Some info
    → abbreviation (format_of format) saving None ≡ text → own_abbreviation saving (with_format v format) ≡ Some text
by_format (zone z w) info format saving text is e = ap (λ t. Some t) e
by_format (continuation w) info format saving text is e = ap (λ t. Some t) e
by_format _ info format saving text is e = absurd (cc)

-- also under another ruleset
by_ruleset : (v : LineValue) (info : InfoValue) (format name : List ℕ) (r : RuleInfo) (text : List ℕ) → info_in v ≡ Some info
    → abbreviation (format_of format) r.time_to_add r.letters ≡ text → abbreviation_under r (with_ruleset (with_format v format) name) ≡ Some text
by_ruleset (zone z w) info format name r text is e = ap (λ t. Some t) e
by_ruleset (continuation w) info format name r text is e = ap (λ t. Some t) e
by_ruleset _ info format name r text is e = absurd (cc)

-- which it names
by_name : (v : LineValue) (info : InfoValue) (format name : List ℕ) → info_in v ≡ Some info → ruleset_in (with_ruleset (with_format v format) name) ≡ Some name
by_name (zone z w) info format name is = refl
by_name (continuation w) info format name is = refl
by_name _ info format name is = absurd (cc)

-- a pair for which a line asks is one of the pairs
pub among_stays : (pair : Pair) (values : List LineValue) (pairs : List Pair) → is_among pair pairs ≡ true → is_among pair (pairs_from pairs values) ≡ true
unfolding pairs_from
among_stays pair [] pairs e = e
among_stays pair (v ∷ values) pairs e = among_stays pair values (joined_by (asked v) pairs) (among_joined pair (asked v) pairs e)

among_asked : (values : List LineValue) (pairs : List Pair) (k : ℕ) (parts : Around) (pair : Pair) → k < length values
    → asked (slice_index_or values k space) ≡ under parts pair → is_among pair (pairs_from pairs values) ≡ true
unfolding pairs_from
among_asked [] pairs k parts pair inside e = absurd (omega (arith, inside))
among_asked (v ∷ values) pairs zero parts pair inside e =
    among_stays pair values (joined_by (asked v) pairs) (ap (λ a. is_among pair (joined_by a pairs)) e ∙ among_with pairs pair)
among_asked (v ∷ values) pairs (suc k) parts pair inside e = among_asked values (joined_by (asked v) pairs) k parts pair (omega (arith, inside)) e

-- what becomes of a line stands in its place
line_at : (values out : List LineValue) (k : ℕ) → written_out values ≡ Ok out → k < length values
    → slice_index_or out k space ≡ changed (name_in values) (slice_index_or values k space)
line_at values out k e inside =
    ap (λ vs. slice_index_or vs k space) (written_is values out e)
    ∙ get_or_append_left (map (changed (name_in values)) values) (made values) space k (omega (arith, inside, length-map values (changed (name_in values))))
    ∙ get_or-map (changed (name_in values)) values k space space inside

all_of : {A : Type 0} (P : A → Type 0) → ((x : A) → P x) → (xs : List A) → All P xs
all_of P each xs = λ k d inside. each (get_or xs k d)

-- what is written of a line under a ruleset
pub named_under : (values out : List LineValue) (k : ℕ) (info : InfoValue) (rules before after : List ℕ)
    → written_out values ≡ Ok out → length (pairs_of values) < 2 ^ 64 → k < length values → info_in (slice_index_or values k space) ≡ Some info
    → info.saving ≡ multiple rules → is_format true info.format ≡ true → around_mark info.format ≡ Some (around before after)
    → IsNamedUnder values out (seconds_of info.utc_offset) rules before after (slice_index_or out k space)
named_under values out k info rules before after e few inside is saving format mark = record {
  name = name;
  names = ap ruleset_in written ∙ by_name v info format_now name is;
  its_rules = its_rules;
  texts = subst (All Named) (sym its_rules) (All-map Named (made_info offset) (rules_of (reverse values) rules) (all_of _ text (rules_of (reverse values) rules)));
}
  where
    offset : ℤ
    offset = seconds_of info.utc_offset

    pair : Pair
    pair = pair_of rules offset

    v : LineValue
    v = slice_index_or values k space

    name : List ℕ
    name = name_in values pair

    format_now : List ℕ
    format_now = (before ++ codes "%s") ++ after

    asked_is : asked v ≡ under (around before after) pair
    asked_is = asked_of v info (around before after) is mark ∙ ap (λ s. asked_under s offset (around before after)) saving

    written : slice_index_or out k space ≡ with_ruleset (with_format v format_now) name
    written = line_at values out k e inside ∙ ap (λ a. changed_by (name_in values) a v) asked_is

    its_rules : rules_of (reverse out) name ≡ map (made_info offset) (rules_of (reverse values) rules)
    its_rules = made_ruleset values out pair e (among_asked values [] k (around before after) pair inside asked_is) few

    Named : RuleInfo → Type 0
    Named r = abbreviation_under r (slice_index_or out k space) ≡ Some (named_total before after (offset +ℤ r.time_to_add))

    text : (r : RuleInfo) → Named (made_info offset r)
    text r =
        ap (abbreviation_under (made_info offset r)) written
        ∙ by_ruleset v info format_now name (made_info offset r) (named_total before after (offset +ℤ r.time_to_add)) is
        (with_letters before after (offset_text (offset +ℤ r.time_to_add)) r.time_to_add (clean_parts true info.format before after format mark))

-- and of one without
pub named_alone : (values out : List LineValue) (k : ℕ) (info : InfoValue) (saving : ℤ) (before after : List ℕ)
    → written_out values ≡ Ok out → k < length values → info_in (slice_index_or values k space) ≡ Some info
    → own_saving info.saving ≡ Some saving → is_format false info.format ≡ true → around_mark info.format ≡ Some (around before after)
    → own_abbreviation saving (slice_index_or out k space) ≡ Some (named_total before after (seconds_of info.utc_offset +ℤ saving))
named_alone values out k info saving before after e inside is own format mark =
    ap (own_abbreviation saving) (line_at values out k e inside ∙ ap (λ a. changed_by (name_in values) a v) asked_is)
    ∙ by_format v info (named_total before after t) saving (named_total before after t) is
    (with_total before after t saving (clean_parts false info.format before after format mark))
  where
    t : ℤ
    t = seconds_of info.utc_offset +ℤ saving

    v : LineValue
    v = slice_index_or values k space

    asked_is : asked v ≡ total (around before after) t
    asked_is = asked_of v info (around before after) is mark ∙ asked_alone info.saving saving (seconds_of info.utc_offset) (around before after) own
