use Rattle.std.{proofs.Common.{◌++◌, ◌∷◌, [], map, sym, ap, ◌∙◌, append_assoc}, specs.List.{list_all}, proofs.lemmas.Bool.{and_parts}, proofs.lemmas.List.{map-append}}
use Rattle.tz_lookup.{specs.Databases.{found_as, found_in, first_refused, name_shown, resolves, zone_refusal}, specs.declared.database.Known.{Known}, proofs.DatabaseLemmas.{no_refusal, refused_later}}
use Rattle.tz_lookup.proofs.database.know_all.Goals as goal

pub loop-name-preserved : goal.loop-name-preserved
loop-name-preserved c =
    let table = c.args.table.now in
    let inv = c.loop-name.invariant in
    let left = c.in-Some.ensures.steps in
    let name = c.in-Some.name.now.now in
    let names = map name_shown c.next.new.self in
    let shown = λ (known : Known). found_as known.set in
    let known = c.in_ok-know.field-0 in
    let ok = c.in_ok-know.ensures.ok in
    record {
      found = (and_parts (resolves table name) _ (ap (λ l. list_all (resolves table) (map name_shown l)) (sym left) ∙ inv.found)).1;
      whole =
          ap (λ zones. map shown zones ++ map (found_in table) names) c.in_ok-push.ensures.ok
          ∙ ap (λ found. found ++ map (found_in table) names) (map-append shown c.loop-name.zones (known ∷ []))
          ∙ append_assoc (map shown c.loop-name.zones) (shown known ∷ []) (map (found_in table) names)
          ∙ ap (λ found. map shown c.loop-name.zones ++ found ∷ map (found_in table) names) ok
          ∙ ap (λ l. map shown c.loop-name.zones ++ map (found_in table) (map name_shown l)) (sym left) ∙ inv.whole;
      refused =
          sym (refused_later (zone_refusal table) name names (no_refusal table name known.set known.accepted ok))
          ∙ ap (λ l. first_refused (zone_refusal table) (map name_shown l)) (sym left) ∙ inv.refused;
    }
