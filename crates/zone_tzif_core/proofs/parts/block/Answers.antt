use Rattle.std.proofs.Common.{ap, ◌∙◌, option_map}
use Rattle.zone_tzif_core.proofs.CutLemmas.{block_short, block_cut, parts_of}
use Rattle.zone_tzif_core.proofs.parts.block.Goals as goal

pub returns-then-times-time-clause-parts : goal.returns-then-times-time-clause-parts
returns-then-times-time-clause-parts c = block_short c.args.wide c.args.header.now c.args.bytes.now c.times_len-times.result c.times_len-times.ensures c.if-times-time.true

pub returns-in_err-footer-clause-parts : goal.returns-in_err-footer-clause-parts
returns-in_err-footer-clause-parts c =
    rw c.from_residual.ensures
    (ap (option_map (parts_of c.args.wide c.args.header.now c.split_at.result.0.now c.split_at-2.result.0.now c.split_at-3.result.0.now c.split_at-4.result.0.now)) c.in_err-footer.ensures
    ∙ block_cut c.args.wide c.args.header.now c.args.bytes.now c.times_len-times.result c.split_at.result.0.now c.split_at.result.1.now c.split_at-2.result.0.now c.split_at-2.result.1.now
    c.split_at-3.result.0.now c.split_at-3.result.1.now c.split_at-4.result.0.now c.split_at-4.result.1.now c.times_len-times.ensures c.if-times-time.false
    c.split_at.ensures.front c.split_at.ensures.back c.split_at-2.ensures.front c.split_at-2.ensures.back
    c.split_at-3.ensures.front c.split_at-3.ensures.back c.split_at-4.ensures.front c.split_at-4.ensures.back)

pub returns-clause-parts : goal.returns-clause-parts
returns-clause-parts c =
    ap (option_map (parts_of c.args.wide c.args.header.now c.split_at.result.0.now c.split_at-2.result.0.now c.split_at-3.result.0.now c.split_at-4.result.0.now)) c.in_ok-footer.ensures
    ∙ block_cut c.args.wide c.args.header.now c.args.bytes.now c.times_len-times.result c.split_at.result.0.now c.split_at.result.1.now c.split_at-2.result.0.now c.split_at-2.result.1.now
    c.split_at-3.result.0.now c.split_at-3.result.1.now c.split_at-4.result.0.now c.split_at-4.result.1.now c.times_len-times.ensures c.if-times-time.false
    c.split_at.ensures.front c.split_at.ensures.back c.split_at-2.ensures.front c.split_at-2.ensures.back
    c.split_at-3.ensures.front c.split_at-3.ensures.back c.split_at-4.ensures.front c.split_at-4.ensures.back
