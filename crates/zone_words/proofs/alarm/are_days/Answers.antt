use Rattle.std.proofs.{Common.{rules, tests}, lemmas.Iterator.Search.{all_from_yields_List}, lemmas.Iterator.Splits.{YieldsList-from_slice_split}}
use Rattle.zone_words.specs.Alarms.{is_comma, is_day}
use Rattle.zone_words.proofs.alarm.are_days.Goals as goal

pub returns : goal.returns
returns c =
    all_from_yields_List is_day _ _ c.all.result c.all.ensures.ran
    (YieldsList-from_slice_split _ is_comma c.args.text.now c.split.ensures.rest c.split.ensures.done c.split.ensures.closure
    (λ x b q k. search (rules, tests)))
    (λ x b q k. search (rules, tests))
