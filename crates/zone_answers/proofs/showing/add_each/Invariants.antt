use Rattle.std.proofs.Common.{◌≡◌, ◌++◌, length, map, take}
use Rattle.tz_lookup.specs.{AllLeft.{all_left}, InForce.{all_in_force, shown_of}}
use Rattle.zone_answers.{specs.Due.{answer_text, text_shown}, proofs.ShowingLemmas.{AreAt, texts_left}}
use Rattle.zone_answers.proofs.showing.add_each.Given as goal

abbrev pub invariant-loop-date : goal.invariant-loop-date
invariant-loop-date g l =
    (l.text.items ++ texts_left l.is_first (map text_shown (map shown_of (all_left l.date-iterator)))
    ≡ l.fn.text.items ++ answer_text (all_in_force (g.T.TimeZone.total_at l.zone) l.local))
    × (take (length l.fn.text.items) l.text.items ≡ l.fn.text.items)
    × AreAt l.local (map shown_of (all_left l.date-iterator))
