-- A release that a source names can be named again.
use Rattle.std.proofs.{Common.{◌≡◌, ℕ, ◌-◌, List, [], ◌∷◌, ◌++◌, All, Bool, true, false, cond, drop, take, length, Option, Some, None, refl, ap, ◌∙◌, subst, arith, rules}, lemmas.Bool.{and_parts, ltb-true}, lemmas.Bool.Decides.{Decides-eqb, nat_tests}}
use Rattle.std.proofs.lemmas.{List.Elements.{All-nil, All-cons, All-weaker}, Slice.Eq.{starts_is}}
use Rattle.std.specs.{Prelude.{◌==◌, nat_eq, nat_lt, slice_get, option_and_then, unwrap_or}, List.{list_all, starts_with}, Str.{is_utf8}}
use Rattle.zone_source.specs.{Lines.{is_line_feed, lines_of}, ReleaseLines.{IsReleaseLine}, Releases.{heading, is_shown, is_release, if_release, named_by, release_of, line_naming}}

record CanBeNamed (release : List ℕ) : Type 0 where
  is : is_release release ≡ true
  text : is_utf8 release ≡ true

if_release_is : (text release : List ℕ) → if_release text ≡ Some release → CanBeNamed release
if_release_is text release h = by (is_release text) (is_utf8 text) refl refl h
  where
    by : (b c : Bool) → is_release text ≡ b → is_utf8 text ≡ c → cond b (cond c (Some text) None) None ≡ Some release → CanBeNamed release
    by true true is utf8 h = subst CanBeNamed (ap (λ o. unwrap_or o text) h) (record { is = is; text = utf8 })
    by true false is utf8 h = search rules
    by false c is utf8 h = search rules

named_by_is : (line release : List ℕ) → named_by line ≡ Some release → CanBeNamed release
unfolding named_by
named_by_is line release h = by (starts_with nat_eq line heading) h
  where
    by : (b : Bool) → option_and_then if_release (cond b (Some (drop 10 line)) None) ≡ Some release → CanBeNamed release
    by true h = if_release_is (drop 10 line) release h
    by false h = search rules

text_is : (text release : List ℕ) → if_release text ≡ Some release → text ≡ release
text_is text release h = by (is_release text) (is_utf8 text) h
  where
    by : (b c : Bool) → cond b (cond c (Some text) None) None ≡ Some release → text ≡ release
    by true true h = ap (λ o. unwrap_or o text) h
    by true false h = search rules
    by false c h = search rules

-- a line that names a release is the line that names it
pub named_line : (line release : List ℕ) → named_by line ≡ Some release → line ≡ line_naming release
unfolding named_by
named_line line release h = by (starts_with nat_eq line heading) refl h
  where
    by : (b : Bool) → starts_with nat_eq line heading ≡ b → option_and_then if_release (cond b (Some (drop 10 line)) None) ≡ Some release
        → line ≡ line_naming release
    by true e h =
        (starts_is Decides-eqb line heading (starts_with nat_eq line heading) refl).0 e ∙ ap (λ rest. heading ++ rest) (text_is (drop 10 line) release h)
    by false e h = search rules

release_is : (source release : List ℕ) → release_of source ≡ Some release → CanBeNamed release
unfolding release_of
release_is source release h = by (slice_get (lines_of source) 0) h
  where
    by : (first : Option (List ℕ)) → option_and_then named_by first ≡ Some release → CanBeNamed release
    by None h = search rules
    by (Some line) h = named_by_is line release h

all_shown : (text : List ℕ) → list_all is_shown text ≡ true → All (λ byte. is_shown byte ≡ true) text
all_shown [] h = All-nil (λ byte. is_shown byte ≡ true)
all_shown (x ∷ xs) h =
    let both = and_parts (is_shown x) (list_all is_shown xs) h in
    All-cons (λ byte. is_shown byte ≡ true) x xs both.0 (all_shown xs both.1)

no_feed : (byte : ℕ) → is_shown byte ≡ true → is_line_feed byte ≡ false
no_feed byte h = grind (arith, nat_tests)

no_return : (byte : ℕ) → is_shown byte ≡ true → (byte == 13) ≡ false
no_return byte h = grind (arith, nat_tests)

named_again : (release : List ℕ) → CanBeNamed release → named_by (line_naming release) ≡ Some release
unfolding named_by
named_again release can = rw (can.is, can.text) refl

-- a release that a source names stands on a line of its own that names it
pub release_line : (source release : List ℕ) → release_of source ≡ Some release → IsReleaseLine release
release_line source release h =
    let can = release_is source release h in
    let both = and_parts (nat_lt 0 (length release)) (list_all is_shown release) can.is in
    let line = line_naming release in
    let shown = all_shown line both.1 in record {
      some = ltb-true _ _ both.0;
      names = named_again release can;
      unbroken = All-weaker (λ byte. is_shown byte ≡ true) (λ byte. is_line_feed byte ≡ false) no_feed line shown;
      kept = ap (λ b. cond b (take (length line - 1) line) line) (no_return _ (shown (length line - 1) 0 (omega arith)));
    }
