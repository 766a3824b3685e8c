-- A source of what is written has the values that were written.
use Rattle.std.proofs.{Common.{◌≡◌, ℕ, ◌<◌, ◌+◌, List, [], ◌∷◌, ◌++◌, length, map, All, Bool, true, false, cond, filter, flat_map, refl, sym, ap, ◌∙◌, append_assoc, arith}, lemmas.List.Concat.{flat_map-append}}
use Rattle.std.proofs.lemmas.List.{Elements.{All-nil, All-cons, All-head, All-tail, All-append, All-filter}, Splits.{slice_split_at, length-slice_split}}
use Rattle.std.specs.{List.{slice_split}, Str.Lines.{strip_carriage_return}}
use Rattle.zone_source.specs.{LineLaws.{without_last_empty-more}, Lines.{is_line_feed, without_last_empty, lines_of}, Zones.{source_value}}
use Rattle.zone_table.specs.Values.{LineValue}
use Rattle.zone_plain_lines.specs.PlainTexts.{plain_text}
use Rattle.zone_plain.specs.{ReadBack.{IsReadAsMeant}, Written.{Part, Rules, Zones, Links, is_in, part_text, written}, WrittenLines.{IsLine, in_parts}}

-- a source says of a line that is read as meant what is meant
pub says : (v : LineValue) → IsReadAsMeant v → source_value (plain_text v) ≡ v
unfolding source_value
says v back = rw (back.text, back.read) refl

abbrev ended : LineValue → List ℕ
ended v = plain_text v ++ 10 ∷ []

part_is : (part : Part) (values : List LineValue) → flat_map (part_text part) values ≡ flat_map ended (filter (is_in part) values)
part_is part [] = refl
part_is part (v ∷ values) = by (is_in part v) (part_is part values)
  where
    by : (b : Bool) → flat_map (part_text part) values ≡ flat_map ended (filter (is_in part) values)
        → cond b (ended v) [] ++ flat_map (part_text part) values ≡ flat_map ended (cond b (v ∷ filter (is_in part) values) (filter (is_in part) values))
    by true e = ap (λ bytes. ended v ++ bytes) e
    by false e = e

pub written_is : (values : List LineValue) → written values ≡ flat_map ended (in_parts values)
unfolding written
written_is values =
    let rules = filter (is_in Rules) values in
    let zones = filter (is_in Zones) values in
    let links = filter (is_in Links) values in
    (λ i. (part_is Rules values i ++ part_is Zones values i) ++ part_is Links values i)
    ∙ ap (λ bytes. bytes ++ flat_map ended links) (sym (flat_map-append ended rules zones))
    ∙ sym (flat_map-append ended (rules ++ zones) links)

-- a line with its line feed
abbrev pub line_text : List ℕ → List ℕ
line_text line = line ++ 10 ∷ []

cut : (lines : List (List ℕ)) → All IsLine lines
    → map strip_carriage_return (without_last_empty (slice_split is_line_feed (flat_map line_text lines))) ≡ lines
cut [] are = refl
cut (line ∷ lines) are =
    let is = All-head IsLine line lines are in
    let rest = flat_map line_text lines in
    let pieces = slice_split is_line_feed rest in
    ap (λ bytes. map strip_carriage_return (without_last_empty (slice_split is_line_feed bytes))) (append_assoc line (10 ∷ []) rest)
    ∙ ap (λ found. map strip_carriage_return (without_last_empty found)) (slice_split_at is_line_feed line 10 rest is.unbroken refl)
    ∙ ap (map strip_carriage_return) (without_last_empty-more line pieces (some (length pieces) _ (length-slice_split is_line_feed rest)))
    ∙ ap (λ text. text ∷ map strip_carriage_return (without_last_empty pieces)) is.kept
    ∙ ap (λ texts. line ∷ texts) (cut lines (All-tail IsLine line lines are))
  where
    some : (m n : ℕ) → m ≡ n + 1 → 0 < m
    some m n e = omega (arith, e)

-- lines, each with its line feed, are the lines of a source
pub lines_are : (lines : List (List ℕ)) → All IsLine lines → lines_of (flat_map line_text lines) ≡ lines
unfolding lines_of
lines_are lines are = cut lines are

pub texts_are : (values : List LineValue) → flat_map ended values ≡ flat_map line_text (map plain_text values)
texts_are [] = refl
texts_are (v ∷ values) = ap (λ bytes. ended v ++ bytes) (texts_are values)

pub all_lines : (values : List LineValue) → All IsReadAsMeant values → All IsLine (map plain_text values)
all_lines [] read = All-nil IsLine
all_lines (v ∷ values) read =
    All-cons IsLine (plain_text v) (map plain_text values) (All-head IsReadAsMeant v values read).line
    (all_lines values (All-tail IsReadAsMeant v values read))

pub all_say : (values : List LineValue) → All IsReadAsMeant values → map source_value (map plain_text values) ≡ values
all_say [] read = refl
all_say (v ∷ values) read =
    ap (λ w. w ∷ map source_value (map plain_text values)) (says v (All-head IsReadAsMeant v values read))
    ∙ ap (λ vs. v ∷ vs) (all_say values (All-tail IsReadAsMeant v values read))

pub in_all_parts : (P : LineValue → Type 0) (values : List LineValue) → All P values → All P (in_parts values)
in_all_parts P values all =
    All-append P (filter (is_in Rules) values ++ filter (is_in Zones) values) (filter (is_in Links) values)
    (All-append P (filter (is_in Rules) values) (filter (is_in Zones) values) (All-filter (is_in Rules) P values all) (All-filter (is_in Zones) P values all))
    (All-filter (is_in Links) P values all)
