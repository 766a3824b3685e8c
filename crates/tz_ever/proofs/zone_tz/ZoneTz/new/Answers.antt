use Rattle.std.proofs.Common.{sym, ◌∙◌}
use Rattle.tz_ever.proofs.ZoneLemmas.{is_sound, sound_of}
use Rattle.tz_ever.proofs.zone_tz.ZoneTz.new.Goals as goal

pub invariant_of-result : goal.invariant_of-result
invariant_of-result c =
    let sound = is_sound _ _ _ _ (sym c.recurrence-recurrence.ensures) (sym (c.new-zone.ensures ∙ c.compact.ensures.seen)) (sound_of c.args.set.now) in
    record { repeats = sound.repeats; range = sound.range; two = sound.two }
