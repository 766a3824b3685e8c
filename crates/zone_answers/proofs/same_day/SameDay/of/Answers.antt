use Rattle.std.proofs.{Common.{◌≡◌, is_some, false, ◌+◌, ◌-◌, ◌/◌, to_z, w64, min, ◌↔◌, IsTrue, pos, refl, rules, sym, ap, ◌∙◌, subst, arith}, lemmas.Bool.{and_from}}
use Rattle.std.specs.Str.Parse.{digits_value}
use Rattle.basics.specs.SignedLaws.{signed, signed_casts}
use Rattle.zone_answers.specs.{Asked.{asked}, AskedLaws.{Asks}, Due.{answer_text, shown_at}, Requests.{name_of, request_of}, SameDays.{IsOfDay, asked_number, ends_in_digits, front_of, is_of, last_of}, declared.same_day.SameDay.{SameDay}}
use Rattle.zone_answers.proofs.SameDayLemmas.{asked_is, ends_are, late_ends, one_of, same_day, second_at, self_alike, whole}
use Rattle.zone_answers.proofs.same_day.SameDay.of.Goals as goal

pub overflow_sub-base : goal.overflow_sub-base
overflow_sub-base g c = omega (arith, c.in_ok-number.ensures.bound, c.in_ok-now.ensures.some.1)

-- a text that asks for a late instant ends in digits
pub returns-in_err-number-clause-asked : goal.returns-in_err-number-clause-asked
returns-in_err-number-clause-asked g c = λ asks.
    let late = c.in_ok-now.ensures.some in
    let none : is_some c.from_residual-in_err-number.result ≡ false = search rules in
    none ∙ c.in_err-number.ensures.told ∙ ap ends_in_digits c.as_bytes.ensures.value
    ∙ late_ends c.args.text.now (name_of (asked c.args.request.now)) c.in_ok-now.now (subst (Asks request_of c.args.text.now) late.0 asks) late.1
    ∙ sym (and_from _ _ (sym c.in_ok-now.ensures.told) (sym c.in_ok-line.ensures.told))

pub returns : goal.returns
returns g c =
    let total = g.Z.OpenedZone.total_at c.args.zone.now in
    let text = c.args.text.now in
    let shown = c.args.shown.now in
    let name = name_of (asked c.args.request.now) in
    let now = c.in_ok-now.now in
    let number = c.in_ok-number.number in
    let around = c.of-around.result in
    let late = c.in_ok-now.ensures.some in
    let value : number ≡ digits_value 10 (last_of text) = c.in_ok-number.ensures.value ∙ ap (λ t. digits_value 10 (last_of t)) c.as_bytes.ensures.value in
    let begins = g.Z.OpenedZone.begins_at c.args.zone.now in
    let ends = g.Z.OpenedZone.ends_at c.args.zone.now in
    let whole_second : to_z w64 (now / 1000000000) ≡ pos (now / 1000000000) = omega (arith, signed, signed_casts, late.2, c.requires) in
    let second = whole_second ∙ second_at now in
    let end = ends_are text (search rules) in
    let day : SameDay = record { from = c.max-from.result - (now - number); until = c.min-until.result - (now - number); begins = around.begins + (c.max-from.result - around.from); line = c.in_ok-line.line } in
    record {
      day = λ names asks found told small.
          same_day names total c.args.latest (front_of text) (last_of text) name now number c.in_ok-line.line c.stretch_at.result around.from around.until around.begins (now - number)
          c.max-from.result c.min-until.result
          (asked_is names total text name shown c.in_ok-line.line now (subst (Asks request_of text) late.0 asks) end found small late.1 (omega (arith, late.2, c.requires))
          (subst (λ r. shown ≡ answer_text (shown_at total r)) late.0 told) c.in_ok-line.ensures.same c.in_ok-line.ensures.long)
          value (omega (arith, c.in_ok-number.ensures.bound, late.1)) c.stretch_at.ensures.throughout c.of-around.ensures
          (omega (arith, c.max-from.ensures)) (omega (arith, c.max-from.ensures))
          (omega (arith, c.min.ensures, c.min-until.ensures, c.of-around.ensures.lasts, c.in_ok-number.ensures.bound, late.2, late.1))
          (omega (arith, c.min.ensures, c.min-until.ensures)) (omega (arith, c.min.ensures, c.min-until.ensures)) (omega (arith, c.min-until.ensures));
      here = one_of day text text (self_alike text end.long) end.last.digits
          (omega (arith, value, c.max-from.ensures, c.of-around.ensures.begun, c.in_ok-number.ensures.bound, late.1))
          (omega (arith, value, c.min.ensures, c.min-until.ensures, c.of-around.ensures.lasts, c.in_ok-number.ensures.bound, late.2, late.1));
      whole = λ line. subst (λ n. IsTrue (is_of day text line) ↔ IsOfDay begins ends total c.args.latest n text line) (sym (ap asked_number late.0))
          (whole begins ends total c.args.latest now number (now - number) text c.stretch_at.result around.from around.until around.begins c.max-from.result
          c.min-until.result day c.stretch_at.ensures.throughout (c.stretch_at.ensures.from ∙ ap begins second) (c.stretch_at.ensures.until ∙ ap ends second)
          c.of-around.ensures value (omega (arith, c.in_ok-number.ensures.bound, late.1)) c.max-from.ensures
          (c.min-until.ensures ∙ ap (λ n. min n c.args.latest) c.min.ensures) refl refl line);
      told = search rules;
      asked = λ asks. search rules;
    }
