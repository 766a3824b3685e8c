use Rattle.std.{proofs.Common.{◌≡◌, take}, specs.Char.{is_digit}, specs.List.{list_all}}
use Rattle.zone_answers.proofs.request.all_digits.Given as goal

abbrev pub invariant-loop-i : goal.invariant-loop-i
invariant-loop-i l = l.all ≡ list_all (λ c. is_digit c 10) (take l.i l.text)
