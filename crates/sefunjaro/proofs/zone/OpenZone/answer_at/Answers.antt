use Rattle.std.proofs.{Common.{◌≡◌, ◌∙◌, ℤ, rules, subst, SFits, to_z, of_z, w64, arith}, lemmas.Int.{to_z-of_z, ints}}
use Rattle.civil_base.specs.DateTimes.{instant}
use Rattle.tz_ever.specs.ZoneShown.{recurrence_of, zone_set_of}
use Rattle.tz_lookup.specs.declared.set.FixedTimespanSet.{FixedTimespanSet}
use Rattle.sefunjaro.{specs.{Answers.{first_told}, AnswerSteps.{IsToldBySpan}, Zones.{origin_in, recurrence_in, spans_in}}, proofs.{AnswerLemmas.{answered, saved}, UntilLemmas.{held}}}
use Rattle.sefunjaro.proofs.zone.OpenZone.answer_at.Goals as goal

pub answer_at-requires-clause-first : goal.answer_at-requires-clause-first
answer_at-requires-clause-first c =
    let fits : SFits w64 c.first_told.result = search rules in
    omega (arith, ints, to_z-of_z w64 _ fits, c.first_told.ensures.early)

-- of the entries that are told of the zone, from the second on that it says
told_from : (P : ℤ → FixedTimespanSet → Type 0) (from first : ℤ) (seen told : FixedTimespanSet) → from ≡ first → seen ≡ told → P from seen → P first told
told_from P from first seen told is same h = subst (λ f. P f told) is (subst (P from) same h)

pub returns-clause-answer : goal.returns-clause-answer
returns-clause-answer c =
    let zone = c.args.self.now.zone in let t = instant c.args.at.now in let old = c.args.room.now in
    let new = c.answer_at.new.room in let result = c.answer_at.result in
    let fits : SFits w64 c.first_told.result = search rules in
    answered (origin_in c.args.self.now) (recurrence_of zone) (zone_set_of zone) t old new result
    (λ u is. c.told_shows.ensures (recurrence_of zone) (zone_set_of zone) u c.of_each_set.ensures.accepted c.of_each_set.ensures.repeats is)
    (told_from (λ first set. IsToldBySpan (origin_in c.args.self.now) first set t old new result) _ (first_told (recurrence_in c.args.self.now)) _ _
    (to_z-of_z w64 _ fits ∙ c.first_told.ensures.is) c.new.ensures.seen c.answer_at.ensures)

pub returns-clause-saving : goal.returns-clause-saving
returns-clause-saving c =
    let t = instant c.args.at.now in let old = c.args.room.now in
    let new = c.answer_at.new.room in let result = c.answer_at.result in
    let fits : SFits w64 c.first_told.result = search rules in
    saved (origin_in c.args.self.now) (first_told (recurrence_in c.args.self.now)) (spans_in c.args.self.now) t old new result
    (told_from (λ first set. IsToldBySpan (origin_in c.args.self.now) first set t old new result) _ (first_told (recurrence_in c.args.self.now)) _ _
    (to_z-of_z w64 _ fits ∙ c.first_told.ensures.is) c.new.ensures.seen c.answer_at.ensures)

pub returns-clause-until : goal.returns-clause-until
returns-clause-until c =
    let t = instant c.args.at.now in let old = c.args.room.now in
    let new = c.answer_at.new.room in let result = c.answer_at.result in
    let fits : SFits w64 c.first_told.result = search rules in
    held (origin_in c.args.self.now) (first_told (recurrence_in c.args.self.now)) (spans_in c.args.self.now) t old new result
    (told_from (λ first set. IsToldBySpan (origin_in c.args.self.now) first set t old new result) _ (first_told (recurrence_in c.args.self.now)) _ _
    (to_z-of_z w64 _ fits ∙ c.first_told.ensures.is) c.new.ensures.seen c.answer_at.ensures)
