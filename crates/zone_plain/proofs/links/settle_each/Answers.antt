use Rattle.std.proofs.{Common.{◌<◌, ◌≤◌, ◌∙◌, ◌≡◌, ◌+◌, ◌++◌, ◌∷◌, [], true, nat_lt, map, length, arith, sym, ap, take, subst}, lemmas.List.{length-map, map-append}}
use Rattle.zone_table.specs.Values.{line_value}
use Rattle.zone_plain.{specs.Settled.{settled, settled_line}, specs.Stands.{IsAt}, proofs.StageLemmas.{Settling, line_at, still_small, large_now, nothing_settled, one_settled, refused_here, too_long_here, all_settled, size_is_small}}
use Rattle.zone_plain.proofs.links.settle_each.Goals as goal
use Rattle.zone_plain_lines.specs.{Told.{IsRefused}, LineFaults.{IsFaultOf}}

pub loop-place-init : goal.loop-place-init
loop-place-init c = rw c.new-led.ensures.items (nothing_settled _ _ _ _ c.requires)

pub returns-in-Err-clause-err : goal.returns-in-Err-clause-err
returns-in-Err-clause-err c =
    let values = map line_value c.args.lines.now in
    let inside : c.loop-place.place < length c.args.lines.now = omega (arith, c.loop-place-test.true) in
    subst (IsFaultOf (settled values)) (sym c.fault_at.ensures)
    (refused_here _ _ _ values _ c.loop-place.place _ c.in-Err.refused (omega (arith, inside, length-map c.args.lines.now line_value)) c.loop-place.invariant
    (subst (λ v. IsRefused (settled_line values (take c.loop-place.place values) v) c.in-Err.refused) (line_at c.args.lines.now c.loop-place.place inside)
    (c.in-Err.ensures.err values (take c.loop-place.place values) c.loop-place.invariant.here)))

pub loop-place-preserved : goal.loop-place-preserved
loop-place-preserved c =
    let values = map line_value c.args.lines.now in
    let before = take c.loop-place.place values in
    let inside : c.loop-place.place < length c.args.lines.now = omega (arith, c.loop-place-test.true) in
    let item = line_at c.args.lines.now c.loop-place.place inside in
    let now = c.in-Ok.ensures.ok values before c.loop-place.invariant.here in
    subst (λ ws. Settling c.args.declared.now c.settle_line.new.seen (length c.args.lines.now) values ws (c.loop-place.place + 1)
    (c.loop-place.size + c.link_size-added.result)) (sym (ap (map line_value) c.in-Ok-push.ensures.items ∙ map-append line_value c.loop-place.led.items (c.in-Ok.found ∷ [])))
    (one_settled _ c.loop-place.seen c.settle_line.new.seen (length c.args.lines.now) values _ c.loop-place.place c.loop-place.size _ (line_value c.in-Ok.found)
    (omega (arith, inside, length-map c.args.lines.now line_value)) c.loop-place.invariant (ap (settled_line values before) (sym item) ∙ now.0)
    (ap (λ n. c.loop-place.size + n) c.link_size-added.ensures)
    (still_small c.loop-place.size c.link_size-added.result (size_is_small _ _ _ _ _ _ _ c.loop-place.invariant) c.if-added-size.false)
    (subst (λ v. IsAt c.args.declared.now c.settle_line.new.seen (length c.args.lines.now) values (before ++ v ∷ [])) item now.1))

pub returns-then-added-size-clause-err : goal.returns-then-added-size-clause-err
returns-then-added-size-clause-err c =
    let values = map line_value c.args.lines.now in
    let before = take c.loop-place.place values in
    let inside : c.loop-place.place < length c.args.lines.now = omega (arith, c.loop-place-test.true) in
    let now = c.in-Ok.ensures.ok values before c.loop-place.invariant.here in
    too_long_here _ _ _ values _ c.loop-place.place c.loop-place.size (line_value c.in-Ok.found) (omega (arith, inside, length-map c.args.lines.now line_value))
    c.loop-place.invariant (ap (settled_line values before) (sym (line_at c.args.lines.now c.loop-place.place inside)) ∙ now.0)
    (subst (λ n. nat_lt 16777216 (c.loop-place.size + n) ≡ true) c.link_size-added.ensures
    (large_now c.loop-place.size c.link_size-added.result (size_is_small _ _ _ _ _ _ _ c.loop-place.invariant) c.if-added-size.true))

pub returns-clause-ok : goal.returns-clause-ok
returns-clause-ok c =
    let past : length (map line_value c.args.lines.now) ≤ c.loop-place.place = omega (arith, length-map c.args.lines.now line_value, c.loop-place-test.false) in
    all_settled _ _ _ _ _ _ _ past c.loop-place.invariant
