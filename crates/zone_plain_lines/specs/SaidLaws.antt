-- What is said is read back.
use Rattle.std.proofs.{Common.{◌≡◌, ℕ, ◌-◌, List, [], ◌∷◌, All, length, take, Bool, true, false, cond, not, Result, Ok, Err, refl, ap, rules}, lemmas.Bool.{and_parts, or_parts, not-true}, lemmas.List.Elements.{All-nil, All-cons}}
use Rattle.std.specs.{Prelude.{◌&&◌}, List.{list_any}, Str.{is_utf8}, Str.Lines.{strip_carriage_return}}
use Rattle.zone_line.specs.{LineValues.{value}, Fields.{is_ruleset_name}}
use Rattle.zone_source.specs.{Lines.{is_line_feed}, Zones.{source_value}}
use Rattle.zone_table.specs.{Faults.{Fault}, Values.{LineValue}}
use Rattle.zone_plain_lines.specs.{Renamed.{ruleset_of}, Meant.{line_meaning, is_next}, Said.{is_read_as, ends_returned, is_one_line, is_meant_as, is_read_by_both, is_said_by, is_said}, PlainTexts.{plain_text}, SameLaws.{line_is}, declared.cause.PlainCause.{PlainCause}}
use Rattle.zone_plain_lines.specs.declared.cause.PlainCause.TheVariants as cause

-- what is read as a value is this value
pub read_as : (meant : LineValue) (r : Result LineValue Fault) → is_read_as meant r ≡ true → r ≡ Ok meant
read_as meant (Ok read) h = ap Ok (line_is read meant h)
read_as meant (Err refused) h = search rules

meant_as : (meant : LineValue) (r : Result LineValue PlainCause) → is_meant_as meant r ≡ true → r ≡ Ok meant
meant_as meant (Ok read) h = ap Ok (line_is read meant h)
meant_as meant (Err c) h = search rules

-- what is known of a line that can be said
record SaidParts (meant : LineValue) : Type 0 where
  pub name : is_ruleset_name (ruleset_of meant) ≡ true
  pub text : is_utf8 (plain_text meant) ≡ true
  pub line : is_one_line (plain_text meant) ≡ true
  pub read : is_read_as meant (value (plain_text meant)) ≡ true
  pub again : is_meant_as meant (line_meaning (is_next meant) (plain_text meant)) ≡ true

parts : (meant : LineValue) → is_said meant ≡ true → SaidParts meant
unfolding is_said is_said_by is_read_by_both
parts meant h =
    let name = and_parts (is_ruleset_name (ruleset_of meant)) _ h in
    let text = and_parts (is_utf8 (plain_text meant)) _ name.1 in
    let line = and_parts (is_one_line (plain_text meant)) _ text.1 in
    let both = and_parts (is_read_as meant (value (plain_text meant))) _ line.1 in
    record { name = name.0; text = text.0; line = line.0; read = both.0; again = both.1 }

-- the text is UTF-8, and its value is the line's
pub read_back : (meant : LineValue) → is_said meant ≡ true → (is_utf8 (plain_text meant) ≡ true) × (value (plain_text meant) ≡ Ok meant)
read_back meant h =
    let is = parts meant h in
    (is.text, read_as meant (value (plain_text meant)) is.read)

-- and where the line stands it means that, as a line of a source in any form
pub meant_back : (meant : LineValue) → is_said meant ≡ true → line_meaning (is_next meant) (plain_text meant) ≡ Ok meant
meant_back meant h = meant_as meant (line_meaning (is_next meant) (plain_text meant)) (parts meant h).again

-- RULES can say the name of its ruleset
pub name_said : (meant : LineValue) → is_said meant ≡ true → is_ruleset_name (ruleset_of meant) ≡ true
name_said meant h = (parts meant h).name

-- so a source has the value where it has the text
pub source_value_is : (meant : LineValue) → is_said meant ≡ true → source_value (plain_text meant) ≡ meant
unfolding source_value
source_value_is meant h = let back = read_back meant h in rw (back.0, back.1) refl

none_feeds : (text : List ℕ) → list_any is_line_feed text ≡ false → All (λ byte. is_line_feed byte ≡ false) text
none_feeds [] h = All-nil (λ byte. is_line_feed byte ≡ false)
none_feeds (byte ∷ text) h =
    let both = or_parts (is_line_feed byte) (list_any is_line_feed text) h in
    All-cons (λ byte. is_line_feed byte ≡ false) byte text both.0 (none_feeds text both.1)

-- it has no line feed in it, and loses none at its end
pub one_line : (meant : LineValue) → is_said meant ≡ true
    → All (λ byte. is_line_feed byte ≡ false) (plain_text meant) × (strip_carriage_return (plain_text meant) ≡ plain_text meant)
one_line meant h =
    let text = plain_text meant in
    let all = and_parts (not (list_any is_line_feed text) && not (ends_returned text)) _ (parts meant h).line in
    let both = and_parts (not (list_any is_line_feed text)) _ all.0 in
    (none_feeds text (not-true (list_any is_line_feed text) both.0), ap (λ b. cond b (take (length text - 1) text) text) (not-true (ends_returned text) both.1))

-- what is no text means nothing
pub no_text : (is_open : Bool) (line : List ℕ) → is_utf8 line ≡ false → line_meaning is_open line ≡ Err cause.NotText
unfolding line_meaning
no_text is_open line e = rw e refl
