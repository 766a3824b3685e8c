use Rattle.std.proofs.Common.{rules}
use Rattle.zone_words.proofs.WrittenLemmas.{offset_written, size_is}
use Rattle.zone_words.proofs.write.put_offset.Goals as goal

pub returns-clause-text : goal.returns-clause-text
returns-clause-text c =
    let size = size_is c.args.offset c.whole_seconds.result c.unsigned_abs-size.result (search rules) c.whole_seconds.ensures.value
    c.unsigned_abs-size.ensures.value in
    offset_written c.args.offset c.unsigned_abs-size.result _ _ _ _ _ _ _ _ size c.sign_of.ensures c.digit.ensures c.digit-2.ensures
    c.digit-3.ensures c.digit-4.ensures c.put-end.ensures.text c.put_seconds.ensures.text
