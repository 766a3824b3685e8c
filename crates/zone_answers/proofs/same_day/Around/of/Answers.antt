use Rattle.std.proofs.{Common.{◌≡◌, pos, ◌≤ℤ◌, ◌<ℤ◌, SFits, rules, w32, w64, ap, ◌∙◌, sym, subst, arith}, lemmas.Int.{ints, to_z-of_z}}
use Rattle.civil_base.specs.{Instants.{local_at, nanos_of}, Layout.{time_part}}
use Rattle.zone_answers.proofs.SameDayLemmas.{on_day}
use Rattle.zone_answers.proofs.same_day.Around.of.Goals as goal

pub returns : goal.returns
returns c =
    let stretch = c.args.stretch.now in
    let now = c.args.now in
    let from_fits : SFits w64 stretch.from = search rules in
    let until_fits : SFits w64 stretch.until = search rules in
    let offset_fits : SFits w32 stretch.offset = search rules in
    let time : c.time_of_day.result ≡ time_part (local_at (pos now) stretch.offset) =
    c.time_of_day.ensures.time ∙ ap (λ o. time_part (local_at (pos now) o)) (to_z-of_z w32 _ offset_fits) in
    let inside = c.time_of_day.ensures.bound in
    let later : nanos_of stretch.from ≤ℤ pos c.first_nanos.result = subst (λ s. nanos_of s ≤ℤ pos c.first_nanos.result) (to_z-of_z w64 _ from_fits) c.first_nanos.ensures.later in
    let sooner : pos c.past_nanos.result ≤ℤ nanos_of stretch.until = subst (λ s. pos c.past_nanos.result ≤ℤ nanos_of s) (to_z-of_z w64 _ until_fits) c.past_nanos.ensures.sooner in
    record {
      begun = omega (arith, c.max-from.ensures, c.first_nanos.ensures.first);
      lasts = omega (arith, c.min-until.ensures, c.past_nanos.ensures.past, inside, c.requires.late);
      first = omega (arith, ints, c.max-from.ensures, later);
      past = omega (arith, ints, c.min-until.ensures, sooner);
      begins = omega (arith, time, c.max-from.ensures, c.requires.late, inside);
      day = omega (arith, c.max-from.ensures, c.min-until.ensures);
      only = λ t low high same.
          let there = on_day t stretch.offset now same in
          let least = c.first_nanos.ensures.least t (omega (arith, ints, time, there.0, inside, c.requires.late)) (subst (λ s. nanos_of s ≤ℤ t) (sym (to_z-of_z w64 _ from_fits)) low) in
          let most = c.past_nanos.ensures.greatest t (subst (λ s. t <ℤ nanos_of s) (sym (to_z-of_z w64 _ until_fits)) high) (omega (arith, ints, time, there.1)) in (
            omega (arith, ints, c.max-from.ensures, least, time, there.0, inside, c.requires.late),
            omega (arith, ints, c.min-until.ensures, most, time, there.1, inside, c.requires.late),
          );
    }
