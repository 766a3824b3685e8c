-- A source of what is written has the values that were written, behind the line of the release.
use Rattle.std.proofs.{Common.{◌≡◌, ℕ, List, [], ◌∷◌, ◌++◌, map, All, Bool, true, false, cond, Option, Some, None, Result, Ok, Err, refl, sym, ap, ◌∙◌, subst, rules}, lemmas.Bool.{and_parts}, lemmas.List.Elements.{All-cons}}
use Rattle.std.specs.{Prelude.{slice_get, option_and_then}, Result.{result_unwrap_or}, Str.{is_utf8}}
use Rattle.zone_line.specs.LineValues.{value}
use Rattle.zone_source.specs.{ReleaseLines.{IsReleaseLine}, ReleaseLaws.{release_line}, Releases.{line_naming, named_by, release_of}, Lines.{lines_of}, Zones.{source_value, values_of}}
use Rattle.zone_table.specs.Values.{LineValue, space}
use Rattle.zone_plain_lines.specs.declared.cause.PlainCause.TheVariants as cause
use Rattle.zone_plain_lines.specs.{LineFaults.{at, onto}, Said.{is_read_as}, SaidLaws.{read_as}, PlainTexts.{plain_text, info_text, stretch_text, rule_text, years_text}}
use Rattle.zone_plain.proofs.{Followed.{are_followed}, JoinedLaws.{blank_first, alike_both, parts_alike}, MeansLaws.{heading_means, step, texts_mean}, PlacedLaws.{followed_placed, parts_followed}, ReadBackLaws.{read_as_meant}}
use Rattle.zone_plain.proofs.WrittenLinesLaws.{line_text, written_is, lines_are, texts_are, all_lines, all_say, in_all_parts}
use Rattle.zone_plain.specs.{Heads.{is_silent, head_with, head_of, head_values}, LineValues.{values_from, meant_in}, Named.{IsSaid}, Plain.{plain_of}, ReadBack.{IsReadAsMeant}, Rebuilt.{IsRebuilt}, Written.{written}, WrittenLines.{IsLine, JoinAlike, in_parts}}

-- what two `Ok` have is one
ok_same : {A E : Type 0} (x y : A) → ◌≡◌ {A = Result A E} (Ok x) (Ok y) → x ≡ y
ok_same x y h = ap (λ r. result_unwrap_or r x) h

-- what is written of values has their texts as lines, by parts
parts_lines : (values : List LineValue) → All IsReadAsMeant values → lines_of (written values) ≡ map plain_text (in_parts values)
parts_lines values read =
    ap lines_of (written_is values ∙ texts_are (in_parts values))
    ∙ lines_are (map plain_text (in_parts values)) (all_lines (in_parts values) (in_all_parts IsReadAsMeant values read))

-- and so has it behind the line of a release
named_lines : (release : List ℕ) (values : List LineValue) → IsReleaseLine release → All IsReadAsMeant values
    → lines_of ((line_naming release ++ 10 ∷ []) ++ written values) ≡ line_naming release ∷ map plain_text (in_parts values)
named_lines release values is read =
    let texts = map plain_text (in_parts values) in
    let line : IsLine (line_naming release) = record { unbroken = is.unbroken; kept = is.kept } in
    ap (λ bytes. lines_of (line_text (line_naming release) ++ bytes)) (written_is values ∙ texts_are (in_parts values))
    ∙ lines_are (line_naming release ∷ texts)
    (All-cons IsLine (line_naming release) texts line (all_lines (in_parts values) (in_all_parts IsReadAsMeant values read)))

silent_is : (line : List ℕ) → is_silent line ≡ true → source_value line ≡ space
unfolding is_silent source_value
silent_is line h =
    let both = and_parts (is_utf8 line) (is_read_as space (value line)) h in
    rw (both.0, read_as space (value line) both.1) refl

silent_text : (line : List ℕ) → is_silent line ≡ true → is_utf8 line ≡ true
unfolding is_silent
silent_text line h = (and_parts (is_utf8 line) (is_read_as space (value line)) h).0

-- no line of what is meant names a release
nameless : (v : LineValue) → named_by (plain_text v) ≡ None
unfolding named_by plain_text info_text stretch_text rule_text years_text
nameless space = refl
nameless _ = refl

none_named : (values : List LineValue) → option_and_then named_by (slice_get (map plain_text values) 0) ≡ None
none_named [] = refl
none_named (v ∷ values) = nameless v

-- what is written of values behind the line of the release that a source names, or of none
pub record IsHeaded (source bytes : List ℕ) (values : List LineValue) : Type 0 where
  pub lines : values_of bytes ≡ head_values (release_of source) ++ in_parts values
  pub means : meant_in bytes ≡ Ok (head_values (release_of source) ++ in_parts values)
  pub release : release_of bytes ≡ release_of source

pub headed : (source head : List ℕ) (values : List LineValue) → head_of source ≡ Ok head → All IsReadAsMeant values → All IsSaid (in_parts values)
    → are_followed false (in_parts values) ≡ true → IsHeaded source (head ++ written values) values
unfolding head_of values_of release_of meant_in
headed source head values heads read can_say follow = by (release_of source) refl heads
  where
    texts : List (List ℕ)
    texts = map plain_text (in_parts values)

    said : map source_value texts ≡ in_parts values
    said = all_say (in_parts values) (in_all_parts IsReadAsMeant values read)

    unnamed : release_of source ≡ None → [] ≡ head → IsHeaded source (head ++ written values) values
    unnamed none empty =
        let found = ap (λ h. lines_of (h ++ written values)) (sym empty) ∙ parts_lines values read in record {
          lines = ap (map source_value) found ∙ said ∙ ap (λ o. head_values o ++ in_parts values) (sym none);
          means = ap (values_from Ok false 1) found ∙ texts_mean false 1 (in_parts values) can_say follow
              ∙ ap (λ o. Ok (head_values o ++ in_parts values)) (sym none);
          release = ap (λ ls. option_and_then named_by (slice_get ls 0)) found ∙ none_named (in_parts values) ∙ sym none;
        }

    under : (release : List ℕ) → release_of source ≡ Some release → is_silent (line_naming release) ≡ true → line_naming release ++ 10 ∷ [] ≡ head
        → IsHeaded source (head ++ written values) values
    under release names silent line =
        let is = release_line source release names in
        let found = ap (λ h. lines_of (h ++ written values)) (sym line) ∙ named_lines release values is read in record {
          lines = ap (map source_value) found ∙ ap (λ v. v ∷ map source_value texts) (silent_is (line_naming release) silent) ∙ ap (λ vs. space ∷ vs) said
              ∙ ap (λ o. head_values o ++ in_parts values) (sym names);
          means = ap (values_from Ok false 1) found
              ∙ step false 1 (line_naming release) space texts (heading_means release (silent_text (line_naming release) silent))
              ∙ ap (onto space) (texts_mean false 2 (in_parts values) can_say follow) ∙ ap (λ o. Ok (head_values o ++ in_parts values)) (sym names);
          release = ap (λ ls. option_and_then named_by (slice_get ls 0)) found ∙ is.names ∙ sym names;
        }

    by : (o : Option (List ℕ)) → release_of source ≡ o → head_with o ≡ Ok head → IsHeaded source (head ++ written values) values
    by None none heads = unnamed none (ok_same [] head heads)
    by (Some release) names heads = by_test (is_silent (line_naming release)) refl heads
      where
        by_test : (b : Bool) → is_silent (line_naming release) ≡ b
            → cond b (Ok (line_naming release ++ 10 ∷ [])) (Err (at 1 cause.Unsayable)) ≡ Ok head → IsHeaded source (head ++ written values) values
        by_test true silent heads = under release names silent (ok_same (line_naming release ++ 10 ∷ []) head heads)
        by_test false silent heads = search rules

behind_head : (o : Option (List ℕ)) (values : List LineValue) → JoinAlike (head_values o ++ values) values
behind_head None values = record { rules = λ name. refl; zones = λ name. refl; links = λ name. refl }
behind_head (Some release) values = blank_first values

-- a source of what is written of a source has its rulesets, zones and links, and names its release
pub rebuilt : (source bytes : List ℕ) → plain_of source ≡ Ok bytes → IsRebuilt source bytes
rebuilt source bytes h =
    let is = read_as_meant source bytes h in
    let in_front = headed source is.back.head is.back.out is.back.heads is.back.read (in_all_parts IsSaid is.back.out is.said)
    (parts_followed is.back.out is.followed) in
    let lines = ap values_of is.back.wrote ∙ in_front.lines in record {
      back = is.back;
      lines = lines;
      means = ap meant_in is.back.wrote ∙ in_front.means;
      alike = subst (λ vs. JoinAlike vs is.back.out) (sym lines)
          (alike_both (head_values (release_of source) ++ in_parts is.back.out) (in_parts is.back.out) is.back.out
          (behind_head (release_of source) (in_parts is.back.out)) (parts_alike is.back.out (followed_placed false is.back.out is.followed)));
      release = ap release_of is.back.wrote ∙ in_front.release;
    }
