use Rattle.std.proofs.{Common.{◌≡◌, Option, MatchOption, string_bytes, subst, ⊎_elim, arith}, lemmas.Bool.{cases_lt}}
use Rattle.zone_tzif.specs.{Tails.{CarriesForEver, CarriesNothing}, Tried.{tried}, declared.outcome.EverTail.{EverTail}}
use Rattle.zone_tzif.proofs.call.first_tail.Goals as goal

pub loop-number-preserved : goal.loop-number-preserved
loop-number-preserved g c j l =
    let set = g.S.SpanTable.seen c.args.set.now in
    let n = c.loop-number.number in
    let nothing = subst (λ (o : Option EverTail). MatchOption o (CarriesNothing set (tried set n))
    (λ tail. CarriesForEver set tail.from (string_bytes tail.text) × (string_bytes tail.text ≡ tried set n))) c.in-Ok-None.field-0-is c.in-Ok-None.ensures in
    ⊎_elim {C = CarriesNothing set (tried set j)}
    (λ before. c.loop-number.invariant j before)
    (λ past. let e : n ≡ j = omega arith in subst (λ k. CarriesNothing set (tried set k)) e nothing)
    (cases_lt j n)

pub returns : goal.returns
returns g c = (c.requires.unsaved, c.requires.none, λ j l. c.loop-number.invariant j (omega arith))
