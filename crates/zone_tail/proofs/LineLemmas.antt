-- A set's string has no line feed and no zero byte.
use Rattle.std.{proofs.Common.{◌≡◌, ℕ, Bool, true, false, not, cond, ◌&&◌, ◌==◌, List, [], ◌++◌, Some, None, refl, ℤ}, proofs.lemmas.Bool.{and_parts}, specs.List.{list_all}, specs.Prelude.{codes}}
use Rattle.zone_spans.specs.Entries.{total}
use Rattle.tz_lookup.specs.declared.set.FixedTimespanSet.{FixedTimespanSet}
use Rattle.zone_tail.specs.{Choices.{candidate_at}, CleanLaws.{IsClean, both, either, number_clean, time_clean, offset_clean, saving_clean, name_clean, named_clean}, Found.{found_text, found_span, index_from}}
use Rattle.zone_tail.specs.{LastYear.{Form, steady, yearly, other, form, standard_of}, Tails.{candidates, can_be_written, fault_of, is_name, named_or, names_of, tail_fault}}
use Rattle.zone_tail.specs.{Texts.{change_text, clock_text, name_text, offset_text, rule_text, text_of, time_text}, declared.candidate.Candidate.{Candidate}, declared.candidate.Candidate.TheVariants.{Fixed, Ruled}, declared.outcome.TailFault.{TailFault}}
use Rattle.zone_tail.specs.declared.rule.{Change.{Change}, YearlyRule.{YearlyRule}}
use Rattle.zone_tail.specs.declared.outcome.TailFault.TheVariants as fault

clock_clean : (s : ℕ) → IsClean (clock_text s)
clock_clean s = either (s == 7200) [] (codes "/" ++ time_text s) refl (both (codes "/") (time_text s) refl (time_clean s))

change_clean : (change : Change) → IsClean (change_text change)
unfolding change_text
change_clean change = search (both, number_clean, clock_clean) depth 12

rule_clean : (rule : YearlyRule) → IsClean (rule_text rule)
unfolding rule_text
rule_clean rule = search (both, change_clean) depth 12

text_clean : (standard saving : List ℕ) (candidate : Candidate) → IsClean standard → IsClean saving → IsClean (text_of standard saving candidate)
unfolding text_of
text_clean standard saving (Fixed east) clean _ = both (name_text standard) (offset_text east) (name_clean standard clean) (offset_clean east)
text_clean standard saving (Ruled rule) clean clean_saving =
    search (both, name_clean standard clean, name_clean saving clean_saving, offset_clean, saving_clean, rule_clean) depth 12

-- where the names are tested last
named_by : (fits named : Bool) (f : TailFault) → cond fits (named_or named) (Some f) ≡ None → named ≡ true
named_by true true f none = refl
named_by true false f none = absurd (cc)
named_by false named f none = absurd (cc)

names_clean : (offset : ℤ) (f : Form) → fault_of offset f ≡ None → IsClean (names_of f).0 × IsClean (names_of f).1
names_clean offset (steady span) none = (
  named_clean span.name (named_by (can_be_written (total span)) (is_name span.name) fault.OffsetRange none),
  refl,
)
names_clean offset (yearly start end) none =
    let named = named_by (can_be_written offset && can_be_written (total start.1)) (is_name end.1.name && is_name start.1.name) fault.OffsetRange none in
    let parts = and_parts (is_name end.1.name) (is_name start.1.name) named in
    (named_clean end.1.name parts.0, named_clean start.1.name parts.1)
names_clean offset other none = absurd (cc)

pub one_line : (set : FixedTimespanSet) → tail_fault set ≡ None → list_all (λ c. not (c == 10) && not (c == 0)) (found_text set) ≡ true
unfolding found_text
one_line set none =
    let names = names_clean (standard_of set) (form set) none in
    text_clean (names_of (form set)).0 (names_of (form set)).1 (candidate_at (candidates set) (index_from set (found_span set))) names.0 names.1
