use Rattle.std.{proofs.Common.{◌∙◌, ◌∷◌, [], ap, length, map, sym}, proofs.lemmas.{List.{map-append, length-map}, Result.{IfOk-weaker}}, specs.FinMap.{insert}}
use Rattle.zone_plain.proofs.links.add_zone.Goals as goal

pub returns-clause-names : goal.returns-clause-names
returns-clause-names c =
    IfOk-weaker c.insert.result _ _
    (λ _ _. ap (map (λ one. one.now)) c.in_ok-push.ensures.items ∙ map-append (λ one. one.now) c.args.names.now.items (c.args.name ∷ []))
    c.insert.ensures.ok

pub returns-clause-zones : goal.returns-clause-zones
returns-clause-zones c =
    IfOk-weaker c.insert.result _ _
    (λ _ added. added ∙ ap (insert c.args.zones.now c.args.name.now) (ap length c.as_slice-place.ensures.value ∙ sym (length-map c.args.names.now.items (λ one. one.now))))
    c.insert.ensures.ok
