-- A footer that is tried for a set has no line feed and no zero byte.
use Rattle.std.{proofs.Common.{◌≡◌, ℕ, Bool, true, false, cond, ◌&&◌, ◌==◌, List, [], ◌++◌, None, refl, ℤ, pos, int_lt, int_eq, ◌+ℤ◌, unsigned_abs}, proofs.lemmas.Bool.{and_parts}, specs.Prelude.{codes}}
use Rattle.zone_spans.specs.Entries.{total}
use Rattle.tz_lookup.specs.declared.set.FixedTimespanSet.{FixedTimespanSet}
use Rattle.zone_tail.specs.{CleanLaws.{IsClean, both, either, number_clean, time_clean, offset_clean, saving_clean, name_clean, posix_clean}, LastYear.{Form, steady, yearly, other}, Tails.{can_be_written, is_posix_name}, Texts.{name_text, offset_text, time_text}}
use Rattle.zone_tzif.specs.Tried.{change_by, changes_by, dated_text, ever_fault, ever_form, form_fault, is_dated, moment_text, named_text, parts_text, signed_text, totals_for, tried, tried_for, written_or}

signed_clean : (time : ℤ) → IsClean (signed_text time)
unfolding signed_text
signed_clean time =
    either (int_eq time (pos 7200)) [] (codes "/" ++ (cond (int_lt time (pos 0)) (codes "-") []) ++ time_text (unsigned_abs time)) refl
    (both (codes "/" ++ (cond (int_lt time (pos 0)) (codes "-") [])) (time_text (unsigned_abs time))
    (both (codes "/") (cond (int_lt time (pos 0)) (codes "-") []) refl (either (int_lt time (pos 0)) (codes "-") [] refl refl)) (time_clean (unsigned_abs time)))

parts_clean : (month week weekday : ℕ) (time : ℤ) → IsClean (parts_text month week weekday time)
parts_clean month week weekday time = search (both, number_clean, signed_clean) depth 12

day_clean : (dated : Bool) (day time : ℤ) (choice : ℕ) → IsClean (named_text dated day time choice)
unfolding moment_text dated_text
day_clean true day time choice = search (both, number_clean, signed_clean) depth 12
day_clean false day time choice = parts_clean _ _ _ _

change_clean : (local : ℤ) (n : ℕ) → IsClean (change_by local n)
unfolding change_by
change_clean local n = day_clean (is_dated n) _ _ _

named_by : (fits named : Bool) → written_or fits named ≡ None → named ≡ true
named_by true true none = refl
named_by true false none = absurd cc
named_by false named none = absurd cc

form_clean : (form : Form) (n : ℕ) → form_fault form ≡ None → IsClean (tried_for form n)
unfolding form_fault tried_for
form_clean (steady span) n none =
    both (name_text span.name) (offset_text (total span)) (name_clean span.name (posix_clean span.name (named_by (can_be_written (total span)) (is_posix_name span.name) none)))
    (offset_clean (total span))
form_clean (yearly start end) n none =
    let named = named_by (can_be_written (total end.1) && can_be_written (total start.1)) (is_posix_name end.1.name && is_posix_name start.1.name) none in
    let parts = and_parts (is_posix_name end.1.name) (is_posix_name start.1.name) named in
    both (totals_for start end) (changes_by (start.0 +ℤ total end.1) (end.0 +ℤ total start.1) n)
    (search (both, name_clean end.1.name (posix_clean end.1.name parts.0), name_clean start.1.name (posix_clean start.1.name parts.1), offset_clean, saving_clean) depth 12)
    (search (both, change_clean) depth 12)
form_clean other n none = absurd cc

pub tried_clean : (set : FixedTimespanSet) (n : ℕ) → ever_fault set ≡ None → IsClean (tried set n)
tried_clean set n none = form_clean (ever_form set) n none
