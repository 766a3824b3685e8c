-- The best of several walks.
use Rattle.std.proofs.{Common.{◌≡◌, ℕ, ◌+◌, ◌<◌, ◌≤◌, List, length, ℤ, subst, ⊎_elim, arith}, lemmas.Bool.{cases_lt}}
use Rattle.zone_spans.specs.Schedules.{Schedule}
use Rattle.tz_lookup.specs.Spans.{TimesDontFall}
use Rattle.zone_tail.{specs.Agreement.{Agrees, IsWalked}, specs.Candidates.{IsAllowed}, specs.Choices.{candidate_at, IsNoBetter, IsBest, IsChoice}, specs.declared.candidate.Candidate.{Candidate}, proofs.StepLemmas.{agrees_there, no_earlier, none_is}}

module _ (candidates : List Candidate) (zone : Schedule) (last : ℤ) where
  itself : (best from n : ℕ) → n ≡ best → IsWalked (candidate_at candidates best) zone last from → IsNoBetter candidates zone last best from n
  itself best from n e walked =
      subst (IsNoBetter candidates zone last best from) (sym_of n best e)
      (record { steps = from; walked = walked; least = omega arith; first = λ l. absurd (omega arith) })
    where
      sym_of : (a b : ℕ) → a ≡ b → b ≡ a
      sym_of a b e = omega arith

  pub first_best : (from : ℕ) → IsWalked (candidate_at candidates 0) zone last from → IsBest candidates zone last 1 0 from
  first_best from walked = record { within = omega arith; walked = walked; others = λ j l. itself 0 from j (omega arith) walked }

  -- a candidate that is walked further
  pub better : (n best from steps : ℕ) → IsBest candidates zone last n best from → IsWalked (candidate_at candidates n) zone last steps → steps < from → IsBest candidates zone last (n + 1) n steps
  better n best from steps h walked l = record {
    within = omega arith;
    walked = walked;
    others = λ j m. ⊎_elim {C = IsNoBetter candidates zone last n steps j}
        (λ lt. let o = h.others j lt in record { steps = o.steps; walked = o.walked; least = omega (arith, o.least); first = λ k. omega (arith, o.least) })
        (λ le. itself n steps j (omega arith) walked)
        (cases_lt j n);
  }

  -- and one that is not
  pub no_better : (n best from steps : ℕ) → IsBest candidates zone last n best from → IsWalked (candidate_at candidates n) zone last steps → from ≤ steps → IsBest candidates zone last (n + 1) best from
  no_better n best from steps h walked l = record {
    within = omega (arith, h.within);
    walked = h.walked;
    others = λ j m. ⊎_elim {C = IsNoBetter candidates zone last best from j}
        (λ lt. h.others j lt)
        (λ le. let e : n ≡ j = omega arith in subst (IsNoBetter candidates zone last best from) e (record { steps = steps; walked = walked; least = l; first = λ k. absurd (omega (arith, h.within)) }))
        (cases_lt j n);
  }

module _ (candidates : List Candidate) (zone : Schedule) (last : ℤ) (times : TimesDontFall zone.shifts) (best from : ℕ) (h : IsBest candidates zone last (length candidates) best from) where
  none_before : (j m : ℕ) → j < length candidates → m < from → IsAllowed (candidate_at candidates j) zone m → Agrees (candidate_at candidates j) zone last m → ⊥
  none_before j m l k = let o = h.others j l in no_earlier (candidate_at candidates j) zone last times o.steps o.walked m (omega (arith, o.least))

  is_choice_at : from ≤ length zone.shifts → IsChoice candidates zone last best from
  is_choice_at l =
      let is = agrees_there (candidate_at candidates best) zone last times from h.walked l in
      record {
        within = h.within;
        allowed = is.0;
        agrees = is.1;
        none_earlier = none_before;
        first = λ j m allowed. let o = h.others j (omega (arith, h.within)) in no_earlier (candidate_at candidates j) zone last times o.steps o.walked from (omega (arith, o.first m)) allowed;
      }

  -- where the best agrees from some allowed span on
  pub is_choice : (k : ℕ) → IsAllowed (candidate_at candidates best) zone k → Agrees (candidate_at candidates best) zone last k → IsChoice candidates zone last best from
  is_choice k allowed agrees = ⊎_elim {C = IsChoice candidates zone last best from}
      (λ past. absurd (none_is (candidate_at candidates best) zone last times from h.walked past k allowed agrees))
      (λ within. is_choice_at within)
      (cases_lt (length zone.shifts) from)
