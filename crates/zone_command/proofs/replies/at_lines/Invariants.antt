use Rattle.std.proofs.Common.{◌≡◌, [], drop, map}
use Rattle.civil_base.specs.DateTimes.{instant}
use Rattle.zone_words.specs.TimesShown.{asked}
use Rattle.zone_command.specs.Replies.{at_lines, instants_at}
use Rattle.zone_command.proofs.replies.at_lines.Given as goal

-- what is left, behind what was written, is what is due of all
abbrev pub invariant-loop-time : goal.invariant-loop-time
invariant-loop-time g l =
    let left = at_lines l.style.form (g.Z.ReplyZone.view l.zone) l.style.name.now in
    left l.text.items (instants_at (instant l.now) (map asked (drop l.time-index l.times)))
    ≡ left [] (instants_at (instant l.now) (map asked l.fn.times))
