-- Of what is written out no line asks for `%z`.
use Rattle.std.proofs.{Common.{◌≡◌, ℕ, suc, ◌+◌, ◌≤◌, Bool, true, false, cond, not, nat_lt, List, [], ◌∷◌, ◌++◌, All, length, map, drop, Option, Some, None, option_map, Ok, IfOk, refl, sym, ap, ◌∙◌, subst, arith}, lemmas.Bool.{le-ltb, or_parts}}
use Rattle.std.proofs.lemmas.List.Elements.{All-nil, All-cons, All-head, All-tail, All-append}
use Rattle.std.specs.{Prelude.{◌==◌, codes}, List.{position_or_len, before_first, after_first}, Option.{option_map_or, option_and_then}}
use Rattle.basics.specs.Marks.{after_mark}
use Rattle.zone_table.specs.{Seconds.{seconds_of}, Values.{SavingValue, multiple, InfoValue, RuleValue, LineValue, zone, continuation, rule}}
use Rattle.zone_plain_lines.specs.{Columns.{has_byte}, Meanings.{is_ruled}, Meant.{is_next}, MeantLaws.{HasFormat, holds}, Said.{is_said}, SaidLaws.{meant_back}, PlainTexts.{plain_text}}
use Rattle.zone_plain.specs.{AbbreviationLaws.{AreClean, clean_append, clean_parts, text_clean}, Formats.{Around, around, around_z, around_mark}, Made.{made_rule, rules_named, rules_for, around_text, changed_by, changed, name_in, made_for, made}}
use Rattle.zone_plain.specs.{MadeLaws.{written_is}, OffsetTexts.{offset_text}, Pairs.{Pair, Asked, pair_of, nothing, total, under, asked_under, asked_by, asked, pairs_of}, WrittenOut.{written_out}}

-- ---- texts without `%z`

far : (text : List ℕ) → has_byte 37 text ≡ false → length text ≤ position_or_len (λ c. c == 37) text
far [] e = omega arith
far (c ∷ text) e =
    let both = or_parts (c == 37) (has_byte 37 text) e in
    let one : position_or_len (λ c. c == 37) (c ∷ text) ≡ 1 + position_or_len (λ c. c == 37) text =
    ap (λ b. cond (not b) (1 + position_or_len (λ c. c == 37) text) 0) both.0 in
    omega (arith, one, far text both.1)

-- without a percent sign
unmarked : (text : List ℕ) → has_byte 37 text ≡ false → around_mark text ≡ None
unfolding around_mark
unmarked text e =
    ap (λ b. option_and_then around_z (cond b (Some (before_first (λ c. c == 37) text, after_first (λ c. c == 37) text)) None))
    (le-ltb (position_or_len (λ c. c == 37) text) (length text) (far text e))

behind : (before after : List ℕ) → has_byte 37 before ≡ false → after_first (λ c. c == 37) ((before ++ codes "%s") ++ after) ≡ 115 ∷ after
behind [] after e = refl
behind (c ∷ before) after e =
    let both = or_parts (c == 37) (has_byte 37 before) e in
    let rest = (before ++ codes "%s") ++ after in
    let place = position_or_len (λ c. c == 37) rest in
    let next : (1 + place) + 1 ≡ suc (place + 1) = omega arith in
    ap (λ b. drop (cond (not b) (1 + place) 0 + 1) (c ∷ rest)) both.0 ∙ ap (λ n. drop n (c ∷ rest)) next ∙ behind before after both.1

-- with `%s` for its first
lettered : (before after : List ℕ) → has_byte 37 before ≡ false → around_mark ((before ++ codes "%s") ++ after) ≡ None
unfolding around_mark
lettered before after e = by (nat_lt (position_or_len (λ c. c == 37) text) (length text))
  where
    text : List ℕ
    text = (before ++ codes "%s") ++ after

    by : (b : Bool) → option_and_then around_z (cond b (Some (before_first (λ c. c == 37) text, after_first (λ c. c == 37) text)) None) ≡ None
    by false = refl
    by true = ap (λ rest. option_map (around (before_first (λ c. c == 37) text)) (after_mark 122 rest)) (behind before after e)

-- ---- lines that can be said have formats

abbrev pub IsFormed : LineValue → Type 0
IsFormed (zone name info) = HasFormat info
IsFormed (continuation info) = HasFormat info
IsFormed _ = Unit {0}

-- a line that can be said has a format of the manual's
pub formed : (v : LineValue) → is_said v ≡ true → IsFormed v
formed v said =
    subst (λ r. IfOk r IsFormed) (meant_back v said) (holds IsFormed (is_next v) (record {
      blank = tt;
      next = λ info is_open good. good;
      first = λ name info is_open good. good;
      rules = λ r is_open. tt;
      links = λ existing new is_open. tt;
    }) (plain_text v))

-- ---- what becomes of them

abbrev AsksNothing : LineValue → Type 0
AsksNothing v = asked v ≡ nothing

with_total : (parts : Around) (t : _) → AreClean parts.before parts.after → around_mark (around_text parts (offset_text t)) ≡ None
with_total parts t clean =
    unmarked (around_text parts (offset_text t))
    (clean_append 37 (parts.before ++ offset_text t) parts.after
    (clean_append 37 parts.before (offset_text t) clean.before_marks (text_clean 37 t (omega arith) refl refl)) clean.after_marks)

asks_none : (info : InfoValue) → around_mark info.format ≡ None → asked_by info ≡ nothing
unfolding asked_by
asks_none info e = ap (λ o. option_map_or (asked_under info.saving (seconds_of info.utc_offset)) o nothing) e

zone_done : (name_of : Pair → List ℕ) (name : List ℕ) (info : InfoValue) → HasFormat info
    → AsksNothing (changed_by name_of (asked_by info) (zone name info))
unfolding asked_by
zone_done name_of name info good = by (around_mark info.format) refl
  where
    put_back : (s : SavingValue) (format : List ℕ) → around_mark format ≡ None
        → asked_by (record { utc_offset = info.utc_offset; saving = s; format = format; time = info.time }) ≡ nothing
    put_back s format e = ap (λ o. option_map_or (asked_under s (seconds_of info.utc_offset)) o nothing) e

    saved : (parts : Around) (s : SavingValue) → AreClean parts.before parts.after
        → AsksNothing (changed_by name_of (asked_under s (seconds_of info.utc_offset) parts) (zone name info))
    saved parts (multiple rules) clean = put_back (multiple (name_of (pair_of rules (seconds_of info.utc_offset)))) _ (lettered parts.before parts.after clean.before_marks)
    saved parts _ clean = put_back info.saving _ (with_total parts _ clean)

    by : (o : Option Around) → around_mark info.format ≡ o
        → AsksNothing (changed_by name_of (option_map_or (asked_under info.saving (seconds_of info.utc_offset)) o nothing) (zone name info))
    by None e = asks_none info e
    by (Some parts) e = saved parts info.saving (clean_parts (is_ruled info.saving) info.format parts.before parts.after good e)

-- so is a further line of the zone
continuation_done : (name_of : Pair → List ℕ) (info : InfoValue) → HasFormat info
    → AsksNothing (changed_by name_of (asked_by info) (continuation info))
continuation_done name_of info good = by (asked_by info) (zone_done name_of [] info good)
  where
    by : (a : Asked) → AsksNothing (changed_by name_of a (zone [] info)) → AsksNothing (changed_by name_of a (continuation info))
    by nothing h = h
    by (total parts t) h = h
    by (under parts pair) h = h

line_done : (name_of : Pair → List ℕ) (v : LineValue) → IsFormed v → AsksNothing (changed name_of v)
line_done name_of (zone name info) good = zone_done name_of name info good
line_done name_of (continuation info) good = continuation_done name_of info good
line_done name_of _ good = refl

lines_done : (name_of : Pair → List ℕ) (values : List LineValue) → All (λ v. is_said v ≡ true) values → All AsksNothing (map (changed name_of) values)
lines_done name_of [] said = All-nil AsksNothing
lines_done name_of (v ∷ values) said =
    All-cons AsksNothing (changed name_of v) (map (changed name_of) values)
    (line_done name_of v (formed v (All-head (λ v. is_said v ≡ true) v values said)))
    (lines_done name_of values (All-tail (λ v. is_said v ≡ true) v values said))

rules_ask_nothing : (name : List ℕ) (pair : Pair) (rules : List RuleValue) → All AsksNothing (map (λ r. rule (made_rule name pair.offset r)) rules)
rules_ask_nothing name pair [] = All-nil AsksNothing
rules_ask_nothing name pair (r ∷ rules) =
    All-cons AsksNothing (rule (made_rule name pair.offset r)) _ refl (rules_ask_nothing name pair rules)

made_ask_nothing : (values : List LineValue) (pairs : List Pair) → All AsksNothing (made_for values pairs)
made_ask_nothing values [] = All-nil AsksNothing
made_ask_nothing values (pair ∷ pairs) =
    All-append AsksNothing (rules_for values (name_in values pair) pair) (made_for values pairs)
    (rules_ask_nothing (name_in values pair) pair (rules_named values pair.rules)) (made_ask_nothing values pairs)

-- of lines that can be said nothing that is written out asks for `%z`
pub none_left : (values out : List LineValue) → All (λ v. is_said v ≡ true) values → written_out values ≡ Ok out → All (λ v. asked v ≡ nothing) out
unfolding made
none_left values out said e =
    subst (All AsksNothing) (sym (written_is values out e))
    (All-append AsksNothing (map (changed (name_in values)) values) (made values) (lines_done (name_in values) values said)
    (made_ask_nothing values (pairs_of values)))
