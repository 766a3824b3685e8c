use Rattle.std.proofs.{Common.{rules, tests, bytes_eq}, lemmas.Iterator.Search.{any_from_yields_List}, lemmas.Iterator.Splits.{YieldsList-from_slice_split}}
use Rattle.zone_words.specs.Alarms.{is_comma}
use Rattle.zone_words.proofs.alarm.has_day.Goals as goal

pub returns : goal.returns
returns c =
    any_from_yields_List (λ part. bytes_eq part c.args.day.now) _ _ c.any.result c.any.ensures.ran
    (YieldsList-from_slice_split _ is_comma c.args.text.now c.split.ensures.rest c.split.ensures.done c.split.ensures.closure
    (λ x b q k. search (rules, tests)))
    (λ x b q k. search (rules, tests))
