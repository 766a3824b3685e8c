use Rattle.std.proofs.{Common.{◌<◌, ◌^◌, ◌∙◌, ap, arith, subst}, lemmas.Bool.{and_from}, lemmas.Int.Digits.{digits_value-lt}, lemmas.List.{take_all}}
use Rattle.std.specs.{Prelude.{◌&&◌, length, nat_le, nat_lt}, Str.Parse.{digits_value}}
use Rattle.zone_answers.proofs.RequestLemmas.{digits_from}
use Rattle.zone_answers.proofs.request.last_number.Goals as goal

pub front_of-requires-clause-digits : goal.front_of-requires-clause-digits
front_of-requires-clause-digits c =
    let is = c.requires in
    and_from (nat_lt 0 (length c.args.digits.now) && nat_le (length c.args.digits.now) 30) _ (ap (λ n. nat_lt 0 n && nat_le n 30) is.count) is.digits

pub returns-clause-value : goal.returns-clause-value
returns-clause-value c = c.front_of.ensures ∙ ap (digits_value 10) (take_all 14 c.args.digits.now (omega (arith, c.requires.count)))

pub returns-clause-bound : goal.returns-clause-bound
returns-clause-bound c =
    let digits = c.args.digits.now in
    let value = c.front_of.ensures ∙ ap (digits_value 10) (take_all 14 digits (omega (arith, c.requires.count))) in
    let below : digits_value 10 digits < 10 ^ 14 = subst (λ n. digits_value 10 digits < 10 ^ n) c.requires.count (digits_value-lt 10 digits (digits_from digits c.requires.digits)) in
    omega (arith, value, below)
