use Rattle.std.proofs.{Common.{◌≡◌, ◌∙◌, ◌*◌, pos, ◌+ℤ◌, ◌-ℤ◌, ◌≤ℤ◌, ◌<ℤ◌, SFits, rules, w32, w64, sym, ap, subst, arith}, lemmas.Int.{to_z-of_z}}
use Rattle.std.specs.Int.{int_max, int_min}
use Rattle.basics.specs.SignedLaws.{signed}
use Rattle.zone_spans.specs.Schedules.{total_at}
use Rattle.tz_ever.{specs.{ZoneShown.{zone_set_of}, Unrolled.{next_seam_second, seam_second}}, proofs.StretchLemmas.{cycle_begins, later_begin, later_end, later_is}}
use Rattle.tz_ever.proofs.stretch.later_stretch.Goals as goal
use Rattle.tz_lookup.specs.{CompactShown.{seen}, Stretches.{IsStretch, stretch_begin, stretch_end}, Sets.{schedule_of}, declared.set.FixedTimespanSet.{FixedTimespanSet}}

pub returns-clause-is : goal.returns-clause-is
returns-clause-is c =
    let set = zone_set_of c.args.ever.now in
    let k = c.args.cycles in
    let found = c.stretch_of-found.result in
    let v = c.earlier.result in
    let v_fits : SFits w64 v = search rules in
    let start : SFits w64 found.from = search rules in
    let end : SFits w64 found.until = search rules in
    let from : SFits w64 c.from_seam.result = search rules in
    let until : SFits w64 c.to_seam.result = search rules in
    let from_later : SFits w64 c.later-from.result = search rules in
    let until_later : SFits w64 c.later-until.result = search rules in
    let offset : SFits w32 found.offset = search rules in
    let v_is : v ≡ c.args.second -ℤ pos (k * 12622780800) =
    c.earlier.ensures ∙ ap (λ s. s -ℤ pos (k * 12622780800)) (to_z-of_z w64 _ c.ranges.second) in
    let low : seam_second ≤ℤ v = omega (arith, signed, v_is, c.requires.begun) in
    let is = subst (λ (s : FixedTimespanSet). IsStretch (total_at (schedule_of s)) v found) c.compact.ensures.seen
    (subst (λ t. IsStretch (total_at (schedule_of (seen c.compact.result.now))) t found) (to_z-of_z w64 _ v_fits) c.stretch_of-found.ensures.is) in
    later_is set c.args.second v c.from_seam.result c.to_seam.result k found _ (omega (arith, signed, v_is)) low
    (omega (arith, signed, v_is, c.requires.lasts)) is c.from_seam.ensures.seam
    (subst (λ t. t ≤ℤ c.from_seam.result) (to_z-of_z w64 _ start) c.from_seam.ensures.second)
    (c.from_seam.ensures.least v low (subst (λ t. t ≤ℤ v) (sym (to_z-of_z w64 _ start)) is.begun))
    c.to_seam.ensures.seam (subst (λ t. c.to_seam.result ≤ℤ t) (to_z-of_z w64 _ end) c.to_seam.ensures.second)
    (to_z-of_z w64 _ from_later ∙ c.later-from.ensures ∙ ap (λ s. s +ℤ pos (k * 12622780800)) (to_z-of_z w64 _ from))
    (to_z-of_z w64 _ until_later ∙ c.later-until.ensures ∙ ap (λ s. s +ℤ pos (k * 12622780800)) (to_z-of_z w64 _ until))
    (to_z-of_z w32 _ offset)

pub later-from-requires-clause-second : goal.later-from-requires-clause-second
later-from-requires-clause-second c =
    let k = c.args.cycles in
    let v = c.earlier.result in
    let v_fits : SFits w64 v = search rules in
    let start : SFits w64 c.stretch_of-found.result.from = search rules in
    let from : SFits w64 c.from_seam.result = search rules in
    let v_is : v ≡ c.args.second -ℤ pos (k * 12622780800) =
    c.earlier.ensures ∙ ap (λ s. s -ℤ pos (k * 12622780800)) (to_z-of_z w64 _ c.ranges.second) in
    let least = c.from_seam.ensures.least v (omega (arith, signed, v_is, c.requires.begun))
    (subst (λ t. t ≤ℤ v) (sym (to_z-of_z w64 _ start))
    (subst (λ t. c.stretch_of-found.result.from ≤ℤ t) (to_z-of_z w64 _ v_fits) c.stretch_of-found.ensures.is.begun)) in
    omega (arith, signed, v_is, c.requires.lasts, least, to_z-of_z w64 _ from)

pub returns-clause-lasts : goal.returns-clause-lasts
returns-clause-lasts c =
    let k = c.args.cycles in
    let v = c.earlier.result in
    let v_fits : SFits w64 v = search rules in
    let end : SFits w64 c.stretch_of-found.result.until = search rules in
    let until : SFits w64 c.to_seam.result = search rules in
    let until_later : SFits w64 c.later-until.result = search rules in
    let v_is : v ≡ c.args.second -ℤ pos (k * 12622780800) =
    c.earlier.ensures ∙ ap (λ s. s -ℤ pos (k * 12622780800)) (to_z-of_z w64 _ c.ranges.second) in
    let inside : v <ℤ next_seam_second = omega (arith, signed, v_is, c.requires.lasts) in
    let found = subst (λ t. t <ℤ c.stretch_of-found.result.until) (to_z-of_z w64 _ v_fits)
    (c.stretch_of-found.ensures.lasts (omega (arith, signed, inside, to_z-of_z w64 _ v_fits))) in
    let seam = c.to_seam.ensures.greatest v inside (subst (λ t. v <ℤ t) (sym (to_z-of_z w64 _ end)) found) in
    omega (arith, signed, v_is, seam, to_z-of_z w64 _ until, to_z-of_z w64 _ until_later, c.later-until.ensures)

pub returns-clause-from : goal.returns-clause-from
returns-clause-from c = λ some.
    let k = c.args.cycles in
    let v = c.earlier.result in
    let v_fits : SFits w64 v = search rules in
    let begin : SFits w64 c.stretch_of-found.result.from = search rules in
    let from : SFits w64 c.from_seam.result = search rules in
    let from_later : SFits w64 c.later-from.result = search rules in
    let v_is : v ≡ c.args.second -ℤ pos (k * 12622780800) =
    c.earlier.ensures ∙ ap (λ s. s -ℤ pos (k * 12622780800)) (to_z-of_z w64 _ c.ranges.second) in
    later_begin (zone_set_of c.args.ever.now) c.args.second v _ k some (omega (arith, signed, v_is))
    (omega (arith, signed, v_is, c.requires.begun)) (omega (arith, signed, v_is, c.requires.lasts))
    (to_z-of_z w64 _ from_later ∙ c.later-from.ensures ∙ ap (λ s. s +ℤ pos (k * 12622780800)) (to_z-of_z w64 _ from ∙ c.from_seam.ensures.is
    ∙ ap (λ s. int_max s seam_second) (to_z-of_z w64 _ begin ∙ c.stretch_of-found.ensures.from
    ∙ (λ i. stretch_begin (schedule_of (c.compact.ensures.seen i)) (to_z-of_z w64 v v_fits i)))))

pub returns-clause-until : goal.returns-clause-until
returns-clause-until c =
    let k = c.args.cycles in
    let v = c.earlier.result in
    let v_fits : SFits w64 v = search rules in
    let end : SFits w64 c.stretch_of-found.result.until = search rules in
    let until : SFits w64 c.to_seam.result = search rules in
    let until_later : SFits w64 c.later-until.result = search rules in
    let v_is : v ≡ c.args.second -ℤ pos (k * 12622780800) =
    c.earlier.ensures ∙ ap (λ s. s -ℤ pos (k * 12622780800)) (to_z-of_z w64 _ c.ranges.second) in
    later_end (zone_set_of c.args.ever.now) c.args.second v _ k (omega (arith, signed, v_is))
    (omega (arith, signed, v_is, c.requires.begun)) (omega (arith, signed, v_is, c.requires.lasts))
    (to_z-of_z w64 _ until_later ∙ c.later-until.ensures ∙ ap (λ s. s +ℤ pos (k * 12622780800)) (to_z-of_z w64 _ until ∙ c.to_seam.ensures.is
    ∙ ap (λ s. int_min s next_seam_second) (to_z-of_z w64 _ end ∙ c.stretch_of-found.ensures.until
    ∙ (λ i. stretch_end (schedule_of (c.compact.ensures.seen i)) (to_z-of_z w64 v v_fits i)))))

pub returns-clause-begin : goal.returns-clause-begin
returns-clause-begin c =
    let k = c.args.cycles in
    let v = c.earlier.result in
    let v_fits : SFits w64 v = search rules in
    let begin : SFits w64 c.stretch_of-found.result.from = search rules in
    let from : SFits w64 c.from_seam.result = search rules in
    let from_later : SFits w64 c.later-from.result = search rules in
    let v_is : v ≡ c.args.second -ℤ pos (k * 12622780800) =
    c.earlier.ensures ∙ ap (λ s. s -ℤ pos (k * 12622780800)) (to_z-of_z w64 _ c.ranges.second) in
    cycle_begins (zone_set_of c.args.ever.now) c.args.second v _ k (omega (arith, signed, v_is))
    (omega (arith, signed, v_is, c.requires.begun)) (omega (arith, signed, v_is, c.requires.lasts))
    (to_z-of_z w64 _ from_later ∙ c.later-from.ensures ∙ ap (λ s. s +ℤ pos (k * 12622780800)) (to_z-of_z w64 _ from ∙ c.from_seam.ensures.is
    ∙ ap (λ s. int_max s seam_second) (to_z-of_z w64 _ begin ∙ c.stretch_of-found.ensures.from
    ∙ (λ i. stretch_begin (schedule_of (c.compact.ensures.seen i)) (to_z-of_z w64 v v_fits i)))))

pub returns-clause-low : goal.returns-clause-low
returns-clause-low c =
    let from : SFits w64 c.from_seam.result = search rules in
    let from_later : SFits w64 c.later-from.result = search rules in
    omega (arith, signed, to_z-of_z w64 _ from_later, c.later-from.ensures, to_z-of_z w64 _ from, c.from_seam.ensures.seam)
