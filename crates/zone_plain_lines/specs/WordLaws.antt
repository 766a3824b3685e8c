-- What a text stands for among words, told of its word and of the others.
use Rattle.std.proofs.{Common.{◌≡◌, ℕ, List, [], ◌∷◌, ◌++◌, map, filter, Bool, true, false, cond, ◌||◌, Option, Some, None, Ok, refl, sym, ap, ◌∙◌}, lemmas.List.Elements.{filter-append}}
use Rattle.std.specs.{Prelude.{ok_or, unwrap_or}, List.{list_any}, Result.{result_ok}}
use Rattle.zone_table.specs.declared.{month.Month.{Month}, weekday.Weekday.{Weekday}, year.Year.{Year}}
use Rattle.zone_plain_lines.specs.{Words.{Word, begins, alone, meant, line_words, line_word, months, month_word, month_of, weekdays, weekday_of, from_words, from_word, to_words, to_word}, declared.cause.PlainCause.{PlainCause}}
use Rattle.zone_plain_lines.specs.declared.words.LineWord.{LineWord}

-- one word of the list passes the test, which stands for that; no word before it passes, and none behind it
pub record IsOnly {A : Type 0} (fits : Word A → Bool) (words : List (Word A)) (meaning : A) : Type 0 where
  pub before : List (Word A)
  pub it : Word A
  pub behind : List (Word A)
  pub stands : words ≡ before ++ it ∷ behind
  pub means : it.1 ≡ meaning
  pub passes : fits it ≡ true
  pub none_before : list_any fits before ≡ false
  pub none_behind : list_any fits behind ≡ false

-- the text begins one word of the list, which stands for that, and no other
abbrev pub BeginsOnly : {A : Type 0} → List ℕ → List (Word A) → A → Type 0
BeginsOnly text words meaning = IsOnly (λ word. begins text word.0) words meaning

-- each word of the list begins itself and no other
abbrev pub AreApart : {A : Type 0} → List (Word A) → Type 0
AreApart words = map (λ word. meant words word.0) words ≡ map (λ word. Some word.1) words

-- ---- the only one of a list

none_pass : {A : Type 0} (fits : Word A → Bool) (words : List (Word A)) → filter fits words ≡ [] → list_any fits words ≡ false
none_pass fits [] none = refl
none_pass fits (word ∷ words) none =
    elim (fits word) as (λ b. cond b (word ∷ filter fits words) (filter fits words) ≡ [] → (b || list_any fits words) ≡ false) [
      | true ↦ λ h. cc
      | false ↦ λ h. none_pass fits words h
    ] none

none_kept : {A : Type 0} (fits : Word A → Bool) (words : List (Word A)) → list_any fits words ≡ false → filter fits words ≡ []
none_kept fits [] none = refl
none_kept fits (word ∷ words) none =
    elim (fits word) as (λ b. (b || list_any fits words) ≡ false → cond b (word ∷ filter fits words) (filter fits words) ≡ []) [
      | true ↦ λ h. cc
      | false ↦ λ h. none_kept fits words h
    ] none

alone_is : {A : Type 0} (word : Word A) (words : List (Word A)) (meaning : A) → alone (word ∷ words) ≡ Some meaning
    → (word.1 ≡ meaning) × (words ≡ [])
alone_is word [] meaning h = (ap (λ found. unwrap_or found word.1) h, refl)
alone_is word (other ∷ words) meaning h = cc

one_more : {A : Type 0} (fits : Word A → Bool) (word : Word A) (words : List (Word A)) (meaning : A) (b : Bool) → fits word ≡ b
    → alone (cond b (word ∷ filter fits words) (filter fits words)) ≡ Some meaning
    → (alone (filter fits words) ≡ Some meaning → IsOnly fits words meaning) → IsOnly fits (word ∷ words) meaning
one_more fits word words meaning true e h rest =
    let only = alone_is word (filter fits words) meaning h in
    record {
      before = [];
      it = word;
      behind = words;
      stands = refl;
      means = only.0;
      passes = e;
      none_before = refl;
      none_behind = none_pass fits words only.1;
    }
one_more fits word words meaning false e h rest =
    let only = rest h in
    record {
      before = word ∷ only.before;
      it = only.it;
      behind = only.behind;
      stands = ap (λ left. word ∷ left) only.stands;
      means = only.means;
      passes = only.passes;
      none_before = ap (λ b. b || list_any fits only.before) e ∙ only.none_before;
      none_behind = only.none_behind;
    }

only_is : {A : Type 0} (fits : Word A → Bool) (words : List (Word A)) (meaning : A) → alone (filter fits words) ≡ Some meaning → IsOnly fits words meaning
only_is fits [] meaning h = cc
only_is fits (word ∷ words) meaning h = one_more fits word words meaning (fits word) refl h (only_is fits words meaning)

kept : {A : Type 0} (fits : Word A → Bool) (word : Word A) (words : List (Word A)) → fits word ≡ true
    → filter fits (word ∷ words) ≡ word ∷ filter fits words
kept fits word words e = rw e refl

is_only : {A : Type 0} (fits : Word A → Bool) (words : List (Word A)) (meaning : A) → IsOnly fits words meaning → alone (filter fits words) ≡ Some meaning
is_only fits words meaning only =
    ap (λ all. alone (filter fits all)) only.stands
    ∙ ap alone (filter-append fits only.before (only.it ∷ only.behind)
    ∙ ap (λ front. front ++ filter fits (only.it ∷ only.behind)) (none_kept fits only.before only.none_before)
    ∙ kept fits only.it only.behind only.passes
    ∙ ap (λ left. only.it ∷ left) (none_kept fits only.behind only.none_behind))
    ∙ ap Some only.means

-- ---- both ways: a text means what the one word that it begins stands for

pub begins_only : {A : Type 0} (words : List (Word A)) (text : List ℕ) (meaning : A) → meant words text ≡ Some meaning → BeginsOnly text words meaning
unfolding meant
begins_only words text meaning h = only_is (λ word. begins text word.0) words meaning h

pub only_begun : {A : Type 0} (words : List (Word A)) (text : List ℕ) (meaning : A) → BeginsOnly text words meaning → meant words text ≡ Some meaning
unfolding meant
only_begun words text meaning only = is_only (λ word. begins text word.0) words meaning only

-- ---- the words of lines

ok_of : {A : Type 0} (found : Option A) (cause : PlainCause) (meaning : A) → ok_or found cause ≡ Ok meaning → found ≡ Some meaning
ok_of None cause meaning h = cc
ok_of (Some other) cause meaning h = ap result_ok h

-- of no list a word begins another, so that each word in full stands for itself
pub line_words_apart : AreApart line_words
unfolding meant
line_words_apart = refl

pub months_apart : AreApart months
unfolding meant
months_apart = refl

pub weekdays_apart : AreApart weekdays
unfolding meant
weekdays_apart = refl

pub from_words_apart : AreApart from_words
unfolding meant
from_words_apart = refl

pub to_words_apart : AreApart to_words
unfolding meant
to_words_apart = refl

-- and a text that is taken as a word begins that one and no other
pub line_word_is : (text : List ℕ) (word : LineWord) → line_word text ≡ Ok word → BeginsOnly text line_words word
unfolding line_word
line_word_is text word h = begins_only line_words text word (ok_of (meant line_words text) _ word h)

pub month_is : (text : List ℕ) (month : Month) → month_of text ≡ Ok month → BeginsOnly text months month
unfolding month_of month_word
month_is text month h = begins_only months text month (ok_of (meant months text) _ month h)

pub weekday_is : (text : List ℕ) (weekday : Weekday) → weekday_of text ≡ Some weekday → BeginsOnly text weekdays weekday
unfolding weekday_of
weekday_is text weekday h = begins_only weekdays text weekday h

pub from_is : (text : List ℕ) (year : Year) → from_word text ≡ Some year → BeginsOnly text from_words year
unfolding from_word
from_is text year h = begins_only from_words text year h

pub to_is : (text : List ℕ) (last : Option Year) → to_word text ≡ Some last → BeginsOnly text to_words last
unfolding to_word
to_is text last h = begins_only to_words text last h
