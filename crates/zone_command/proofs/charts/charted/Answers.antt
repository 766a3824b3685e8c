use Rattle.std.{proofs.Common.{◌≡◌, ℕ, ◌+◌, ◌<◌, List, [], ◌∷◌, Bor, length, slice_index_or, ap, drop, map, sym, ◌∙◌}, proofs.lemmas.List.{at_drop_more, drop_all}, specs.Prelude.{Result, Err, Vec}, specs.declared.alloc.Global.{Global}}
use Rattle.zone_command.{specs.Named.{Found, named_view}, specs.Replies.{behind_found, named_zones}, proofs.ChartLemmas.{ended}}
use Rattle.zone_command.proofs.charts.charted.Goals as goal
use Rattle.zone_texts.specs.SeenZones.{Named, named}
use Rattle.zone_words.specs.Shown.{word_shown}

-- the next name and those left after it
next_is : (found : List ℕ → Found) (zones : List Named) (names : List (Bor (List ℕ))) (n : ℕ) → n < length names
    → behind_found zones (named_zones found (map word_shown (drop n names)))
    ≡ behind_found zones (named_zones found (word_shown (slice_index_or names n (record { ref_ptr = (0, 0); now = [] })) ∷ map word_shown (drop (n + 1) names)))
next_is found zones names n l =
    at_drop_more (λ left. behind_found zones (named_zones found (map word_shown left))) names n (record { ref_ptr = (0, 0); now = [] }) l

same_words : (due : Result (List Named) (List ℕ)) (words held : Vec ℕ Global) → due ≡ Err words.items → held ≡ words → due ≡ Err held.items
same_words due words held e is = e ∙ sym (ap (λ w. Err w.items) is)

pub returns-clause-ok : goal.returns-clause-ok
returns-clause-ok g c =
    let found = g.S.ZoneSource.found c.args.source.now in
    let zones = map (named (named_view g.S.Zone.ReplyZone.view)) c.loop-name.zones.items in
    sym c.loop-name.invariant
    ∙ ap (λ left. behind_found zones (named_zones found (map word_shown left))) (drop_all c.loop-name.name-index c.args.names.now c.loop-name-test.false)
    ∙ ended found zones

pub loop-name-preserved : goal.loop-name-preserved
loop-name-preserved g c =
    let found = g.S.ZoneSource.found c.args.source.now in
    let names = c.args.names.now in
    let n = c.loop-name.name-index in
    let zones = map (named (named_view g.S.Zone.ReplyZone.view)) c.loop-name.zones.items in
    sym (c.in-Ok.ensures.ok (map word_shown (drop (n + 1) names))) ∙ sym (next_is found zones names n c.loop-name-test.true) ∙ c.loop-name.invariant

pub returns-in-Err-Why-clause-err : goal.returns-in-Err-Why-clause-err
returns-in-Err-Why-clause-err g c =
    let found = g.S.ZoneSource.found c.args.source.now in
    let names = c.args.names.now in
    let n = c.loop-name.name-index in
    let zones = map (named (named_view g.S.Zone.ReplyZone.view)) c.loop-name.zones.items in
    let told = rw c.in-Err-Why.field-0-is at c.in-Err-Why.ensures.err in
    same_words (named_zones found (map word_shown names)) c.in-Err-Why.words _
    (sym c.loop-name.invariant ∙ next_is found zones names n c.loop-name-test.true ∙ told zones (map word_shown (drop (n + 1) names))) c.in-Err-Why.words-is
