use Rattle.std.proofs.{Common.{w64, rules}, lemmas.Int.{to_z-of_z}}
use Rattle.tz_lookup.proofs.OffsetLemmas.{kept_sum_fits, sum_cast_fits, sum_cast}
use Rattle.tz_lookup.proofs.lookups.total_of.Goals as goal

pub overflow_add-result : goal.overflow_add-result
overflow_add-result c =
    let span = c.args.span.now in
    kept_sum_fits _ _ span.utc_offset span.dst_offset (to_z-of_z w64 span.utc_offset (search rules)) (to_z-of_z w64 span.dst_offset (search rules)) c.requires

pub overflow_cast-result : goal.overflow_cast-result
overflow_cast-result c =
    let span = c.args.span.now in
    sum_cast_fits _ _ span.utc_offset span.dst_offset (to_z-of_z w64 span.utc_offset (search rules)) (to_z-of_z w64 span.dst_offset (search rules)) c.requires

pub returns : goal.returns
returns c =
    let span = c.args.span.now in
    sum_cast _ _ span.utc_offset span.dst_offset (to_z-of_z w64 span.utc_offset (search rules)) (to_z-of_z w64 span.dst_offset (search rules)) c.requires
