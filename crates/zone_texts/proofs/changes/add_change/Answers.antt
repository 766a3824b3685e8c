use Rattle.std.proofs.{Common.{◌++◌, ap, sym, ◌∙◌}, lemmas.Result.{on_ok_weaker}}
use Rattle.civil_base.specs.{DateTimes.{instant, offset_of}, Instants.{local_at}}
use Rattle.zone_texts.{specs.{Forces.{force_shown}, Lists.{change_text, kind_between}, Objects.{change_object_text}}, proofs.LocalLemmas.{local_is}}
use Rattle.zone_texts.proofs.changes.add_change.Goals as goal

pub returns-in-Json : goal.returns-in-Json
returns-in-Json c =
    let start = c.args.into.now.items in
    let name = c.args.style.now.name.now in
    let d = c.args.after.now in
    let before = c.args.old.now.offset in
    let old = force_shown c.args.old.now in
    let new = force_shown c.args.new.now in
    on_ok_weaker c.add_listed.result
    (λ added. added
    ∙ ap (λ x. start ++ change_object_text name (instant d) x (offset_of d) new (kind_between before (offset_of d)) before) (local_is d)
    ∙ ap (λ o. start ++ change_object_text name (instant d) (local_at (instant d) o) o new (kind_between before o) before) c.requires.new
    ∙ ap (λ f. start ++ change_text f name (instant d) old new) (sym c.in-Json.is))
    c.add_listed.ensures
