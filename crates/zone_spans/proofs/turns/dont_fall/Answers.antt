use Rattle.std.proofs.{Common.{◌≡◌, ◌≤◌, ◌+◌, ◌-◌, ℕ, List, drop, get_or, sym, ◌∙◌, subst, arith}, lemmas.List.{length-drop}}
use Rattle.zone_spans.{specs.Entries.{Entry}, specs.GoesOn.{dont_fall}, proofs.GoesOnLemmas.{falls_here, rises_here, short_rises}}
use Rattle.zone_spans.proofs.turns.dont_fall.Goals as goal

-- the entry at a place after the first
behind : (es : List Entry) (i : ℕ) (y : Entry) → 1 ≤ i → y ≡ get_or es i y → y ≡ get_or es (i - 1 + 1) y
behind es i y begun is = let at : i ≡ i - 1 + 1 = omega (arith, begun) in subst (λ k. y ≡ get_or es k y) at is

pub returns-then-is_sooner : goal.returns-then-is_sooner
returns-then-is_sooner c =
    let es = c.args.entries.now in
    let i = c.loop-i.i in
    let y = c.index-entries-i.result in
    let y_is = behind es i y c.loop-i.invariant.begun c.index-entries-i.is in
    falls_here es (i - 1) c.index-entries-i-in-loop-i.result y (omega arith) c.index-entries-i-in-loop-i.is y_is c.loop-i.invariant.rest
    (sym c.is_sooner.ensures ∙ c.if-is_sooner.true)

pub loop-i-preserved : goal.loop-i-preserved
loop-i-preserved c =
    let es = c.args.entries.now in
    let i = c.loop-i.i in
    let next : i - 1 + 1 ≡ i + 1 - 1 = omega (arith, c.loop-i.invariant.begun) in
    let y = c.index-entries-i.result in
    let y_is = behind es i y c.loop-i.invariant.begun c.index-entries-i.is in
    record {
      begun = omega arith;
      rest = subst (λ k. dont_fall (drop k es) ≡ dont_fall es) next
          (rises_here es (i - 1) c.index-entries-i-in-loop-i.result y (omega arith) c.index-entries-i-in-loop-i.is y_is c.loop-i.invariant.rest
          (sym c.is_sooner.ensures ∙ c.if-is_sooner.false));
    }

pub returns : goal.returns
returns c =
    let es = c.args.entries.now in
    let i = c.loop-i.i in
    let left = length-drop (i - 1) es in
    sym (short_rises (drop (i - 1) es) (omega (arith, left))) ∙ c.loop-i.invariant.rest
