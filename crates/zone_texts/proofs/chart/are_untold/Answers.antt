use Rattle.std.proofs.{Common.{◌≡◌, ℕ, ◌+◌, ◌<◌, Bool, ◌||◌, List, ◌∷◌, length, map, drop, slice_index_or, refl, ℤ, pos, int_lt, to_z, of_z, to_z-of_z, FitsSigned, w32, ap, sym, ◌∙◌, arith, rules}, lemmas.List.{at_drop_more, at_drop_all}}
use Rattle.basics.specs.SignedLaws.{signed_casts}
use Rattle.zone_texts.specs.{Views.{ZoneView}, Charts.{are_untold}, SeenZones.{named}, declared.zone.ChartZone.{ChartZone}}
use Rattle.zone_texts.proofs.chart.are_untold.Goals as goal

-- the test of the code is that of the numbers
tested : (last year told : ℤ) (n : ℕ) (b : Bool) → FitsSigned w32 last → n < 65536 → last ≡ told → year ≡ pos n
    → int_lt (to_z w32 (of_z w32 last)) (to_z w32 (of_z w32 year)) ≡ b → int_lt told (pos n) ≡ b
tested last year told n b fits small is by test =
    let short : FitsSigned w32 year = omega (arith, signed_casts) in
    ap (λ x. int_lt x (pos n)) (sym (to_z-of_z fits ∙ is)) ∙ ap (int_lt (to_z w32 (of_z w32 last))) (sym (to_z-of_z short ∙ by)) ∙ test

-- what the test of a zone says of all that are left
found : {Z : Type 0} → (view : Z → ZoneView) (year : ℕ) (zones : List (ChartZone Z)) (n : ℕ) (zone : ChartZone Z) (last from : ℤ) (b : Bool)
    → n < length zones → zone ≡ slice_index_or zones n zone → FitsSigned w32 last → year < 65536 → last ≡ (view zone.zone).last_year → from ≡ pos year
    → int_lt (to_z w32 (of_z w32 last)) (to_z w32 (of_z w32 from)) ≡ b
    → are_untold year (map (named view) (drop n zones)) ≡ (b || are_untold year (map (named view) (drop (n + 1) zones)))
found view year zones n zone last from b l is fits small shown by test =
    let untold : List (ChartZone _) → Bool = λ zs. are_untold year (map (named view) zs) in
    at_drop_more untold zones n zone l ∙ ap (λ z. untold (z ∷ drop (n + 1) zones)) (sym is)
    ∙ ap (λ t. t || untold (drop (n + 1) zones)) (tested last from (view zone.zone).last_year year b fits small shown by test)

pub returns-then-last_year-from : goal.returns-then-last_year-from
returns-then-last_year-from g c =
    sym (found g.Z.ReplyZone.view c.args.year c.args.zones.now c.loop-zone.zone-index c.zone-item.result c.last_year.result c.from.result _
    c.loop-zone-test.true c.zone-item.is (search rules) c.ranges.year.fits c.last_year.ensures c.from.ensures c.if-last_year-from.true)
    ∙ c.loop-zone.invariant

pub loop-zone-preserved : goal.loop-zone-preserved
loop-zone-preserved g c =
    sym (found g.Z.ReplyZone.view c.args.year c.args.zones.now c.loop-zone.zone-index c.zone-item.result c.last_year.result c.from.result _
    c.loop-zone-test.true c.zone-item.is (search rules) c.ranges.year.fits c.last_year.ensures c.from.ensures c.if-last_year-from.false)
    ∙ c.loop-zone.invariant

pub returns : goal.returns
returns g c =
    let untold : List (ChartZone _) → Bool = λ zones. are_untold c.args.year (map (named g.Z.ReplyZone.view) zones) in
    sym (at_drop_all untold c.args.zones.now c.loop-zone.zone-index c.loop-zone-test.false) ∙ c.loop-zone.invariant
