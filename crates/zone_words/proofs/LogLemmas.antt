-- Fields of a line, one after another.
use Rattle.std.proofs.Common.{◌≡◌, refl, ap, arith, ℕ, zero, suc, ◌+◌, ◌-◌, ◌<◌, List, add-one}
use Rattle.zone_words.specs.Logs.{after_blanks, after_word, fields_on, from_field}

pub fields_none : (text : List ℕ) → fields_on 0 text ≡ text
unfolding fields_on
fields_none text = refl

pub fields_more : (k : ℕ) (text : List ℕ) → fields_on (k + 1) text ≡ after_blanks (after_word (fields_on k text))
unfolding fields_on
fields_more k text = rw add-one refl

pub field_some : (field : ℕ) (line : List ℕ) → 0 < field → from_field field line ≡ fields_on (field - 1) (after_blanks line)
field_some zero line some = absurd (omega arith)
field_some (suc k) line some = let same : k ≡ suc k - 1 = omega arith in ap (λ n. fields_on n (after_blanks line)) same

pub ruleset field_steps = (fields_none, fields_more, field_some)
