use Rattle.std.proofs.{Common.{◌≡◌, rules, ℕ, [], ◌∷◌, ◌++◌, length, take, sym, ap, ◌∙◌, arith}, lemmas.List.{take_all}}
use Rattle.civil_base.specs.{Clock.{hour_of, minute_of, nanosecond_of, second_of}, Layout.{nine_digits, time_text, two_digits}}
use Rattle.civil_base.proofs.read.spaced_time.Goals as goal

pub returns : goal.returns
unfolding time_text
returns c =
    let time = c.at_nanos-time.ensures in
    let second = c.spaced_second.ensures ∙ ap (λ t. 32 ∷ two_digits (hour_of t) ++ 58 ∷ two_digits (minute_of t) ++ 58 ∷ two_digits (second_of t) ++ 46 ∷ []) time in
    let nanos = c.nanosecond_bytes.ensures ∙ ap nine_digits (c.nanosecond.ensures.value ∙ ap nanosecond_of time) in
    let front = c.put-end.ensures.text ∙ second in
    let whole : length c.put.new.into ≡ 19 = search rules in
    let end : c.put.result ≡ 19 = omega (arith, c.put.ensures.end, c.put-end.ensures.end, ap length second, ap length nanos) in
    sym (take_all _ _ (omega (arith, whole, end))) ∙ c.put.ensures.text ∙ ap (λ t. t ++ c.nanosecond_bytes.result) front ∙ ap (λ t. (32 ∷ two_digits (hour_of c.args.nanos) ++ 58 ∷ two_digits (minute_of c.args.nanos) ++ 58 ∷ two_digits (second_of c.args.nanos) ++ 46 ∷ []) ++ t) nanos
