use Rattle.std.proofs.Common.{sym}
use Rattle.zone_words.proofs.WrittenLemmas.{local_long, moment_written}
use Rattle.zone_words.proofs.write.put_moment.Goals as goal

pub parts-requires : goal.parts-requires
parts-requires c = rw c.write_local-end.ensures.text (local_long c.args.local.now)

pub returns-clause-text : goal.returns-clause-text
returns-clause-text c =
    let x = c.args.local.now in
    let text = sym c.write_local-end.ensures.text in
    moment_written x c.args.separator _ _ _ _ _ _ _ (c.parts.ensures.date x text) (c.parts.ensures.clock x text) (c.parts.ensures.fraction x text)
    c.put-after_date.ensures.text c.put-after_separator.ensures.text c.put-after_second.ensures.text c.put_fraction.ensures.text
