-- What a line can mean where it stands.
use Rattle.std.{proofs.Common.{◌≡◌, ℕ, List, Bool, true, false, not, cond, Result, Ok, Err, IfOk, refl}, specs.Prelude.{◌==◌, ◌||◌, ◌+◌, ◌-◌, length, nat_lt}, specs.Str.{is_utf8}}
use Rattle.zone_table.specs.{Results.{◌>>=◌}, Values.{SavingValue, InfoValue, RuleValue, LineValue, space, zone, continuation, rule, link}}
use Rattle.zone_plain_lines.specs.{Columns.{column, zone_name, saving_of, is_format}, Meanings.{offset_of, if_format, end_of, is_ruled, rule_of, info_of, link_of, by_word, first_line_of, meaning}, Quotes.{fields, laid_out}, Words.{line_word}, declared.words.LineWord.{LineWord}, Meant.{meant_by, line_meaning}}
use Rattle.zone_plain_lines.specs.declared.cause.PlainCause.TheVariants as cause
use Rattle.zone_plain_lines.specs.declared.words.LineWord.TheVariants as word

-- what holds of what comes next, whatever was read before, holds of the result
pub then_ok : {A B E : Type 0} (Q : A → Type 0) (P : B → Type 0) (r : Result A E) (next : A → Result B E) → IfOk r Q
    → ((a : A) → Q a → IfOk (next a) P) → IfOk (◌>>=◌ r next) P
then_ok Q P (Ok a) next h on = on a h
then_ok Q P (Err e) next h on = tt

pub any_ok : {A E : Type 0} (r : Result A E) → IfOk r (λ a. Unit {0})
any_ok (Ok a) = tt
any_ok (Err e) = tt

pub either : {B E : Type 0} (P : B → Type 0) (b : Bool) (x y : Result B E) → (b ≡ true → IfOk x P) → (b ≡ false → IfOk y P) → IfOk (cond b x y) P
either P true x y one other = one refl
either P false x y one other = other refl

-- the format is one of the manual's
abbrev pub HasFormat : InfoValue → Type 0
HasFormat info = is_format (is_ruled info.saving) info.format ≡ true

module _ (P : LineValue → Type 0) where
  -- it holds of each line that can stand there: of a blank one, and where a line of a zone has to follow of those, elsewhere of the others
  pub record HoldsAt (is_open : Bool) : Type 0 where
    pub blank : P space
    pub next : (info : InfoValue) → is_open ≡ true → HasFormat info → P (continuation info)
    pub first : (name : List ℕ) (info : InfoValue) → is_open ≡ false → HasFormat info → P (zone name info)
    pub rules : (r : RuleValue) → is_open ≡ false → P (rule r)
    pub links : (existing new : List ℕ) → is_open ≡ false → P (link existing new)

info_formed : (found : List (List ℕ)) (from : ℕ) → IfOk (info_of found from) HasFormat
unfolding info_of
info_formed found from =
    either HasFormat (nat_lt (length found) (from + 3) || nat_lt (from + 7) (length found)) _ _ (λ _. tt) (λ _.
    then_ok _ HasFormat (offset_of (column found from)) _ (any_ok _) (λ offset _.
    then_ok _ HasFormat (saving_of (column found (from + 1))) _ (any_ok _) (λ s _.
    then_ok (λ format. is_format (is_ruled s) format ≡ true) HasFormat (if_format s (column found (from + 2))) _ (tested s _ refl) (λ format good.
    then_ok _ HasFormat (end_of found (from + 3) (length found - (from + 3))) _ (any_ok _) (λ end _. good)))))
  where
    tested : (s : SavingValue) (b : Bool) → is_format (is_ruled s) (column found (from + 2)) ≡ b
        → IfOk (cond b (Ok (column found (from + 2))) (Err cause.Format)) (λ format. is_format (is_ruled s) format ≡ true)
    tested s true e = e
    tested s false e = tt

-- what holds of each line that can stand where a line does holds of what it means
pub holds : (P : LineValue → Type 0) (is_open : Bool) → HoldsAt P is_open → (line : List ℕ) → IfOk (line_meaning is_open line) P
unfolding line_meaning meaning first_line_of link_of
holds P is_open h line =
    either P (is_utf8 line) _ _ (λ _. then_ok _ P (fields line) (meant_by is_open line) (any_ok _) (λ found _.
    either P (is_utf8 (laid_out line)) _ _ (λ _. by_fields found) (λ _. tt))) (λ _. tt)
  where
    first : (found : List (List ℕ)) → is_open ≡ false → (w : LineWord) → IfOk (by_word w found) P
    first found e word.Rule = then_ok _ P (rule_of found) _ (any_ok _) (λ r _. h.rules r e)
    first found e word.Zone =
        then_ok HasFormat P (info_of found 2) _ (info_formed found 2) (λ info good.
        then_ok _ P (zone_name (column found 1)) _ (any_ok _) (λ name _. h.first name info e good))
    first found e word.Link =
        either P (not (length found == 3)) _ _ (λ _. tt) (λ _.
        then_ok _ P (zone_name (column found 2)) _ (any_ok _) (λ name _. h.links (column found 1) name e))

    by_fields : (found : List (List ℕ)) → IfOk (meaning is_open found) P
    by_fields found =
        either P (length found == 0) _ _ (λ _. h.blank) (λ _.
        either P is_open _ _ (λ e. then_ok HasFormat P (info_of found 0) _ (info_formed found 0) (λ info good. h.next info e good))
        (λ e. then_ok _ P (line_word (column found 0)) _ (any_ok _) (λ w _. first found e w)))
