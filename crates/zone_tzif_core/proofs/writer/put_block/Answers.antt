use Rattle.std.proofs.Common.{ap, subst}
use Rattle.zone_tzif_core.{specs.Shown.{kinds_seen, names_seen, shifts_shown, zone_shown}, specs.Tzif.{name_bytes, TimesFit}, proofs.CheckLemmas.{few_kinds, few_chars, all_among, all_placed, block_put}}
use Rattle.zone_tzif_core.proofs.writer.put_block.Goals as goal

pub put_numbers-requires-clause-few : goal.put_numbers-requires-clause-few
put_numbers-requires-clause-few c = few_kinds (zone_shown c.args.zone.now) c.args.kinds.now c.requires.fits c.requires.distinct

pub put_numbers-requires-clause-among : goal.put_numbers-requires-clause-among
put_numbers-requires-clause-among c = all_among c.args.zone.now c.args.kinds.now c.as_slice-2.result.now c.requires.distinct c.as_slice-2.ensures.value

pub put_records-requires-clause-few : goal.put_records-requires-clause-few
put_records-requires-clause-few c = few_chars (zone_shown c.args.zone.now) (name_bytes (names_seen c.args.names.now)) c.requires.fits (ap name_bytes c.requires.named)

pub put_records-requires-clause-named : goal.put_records-requires-clause-named
put_records-requires-clause-named c = all_placed (zone_shown c.args.zone.now) c.args.kinds.now c.args.names.now c.requires.fits c.requires.distinct c.requires.named

pub returns-clause-range : goal.returns-clause-range
returns-clause-range c = subst (λ l. TimesFit (shifts_shown l)) c.as_slice.ensures.value c.in_ok-put_times.ensures.range

pub returns-clause-bytes : goal.returns-clause-bytes
returns-clause-bytes c =
    block_put (zone_shown c.args.zone.now) (kinds_seen c.args.kinds.now) (names_seen c.args.names.now) (shifts_shown c.as_slice.result.now) (shifts_shown c.as_slice-2.result.now) c.args.into.now.items c.put_times.new.into.items c.put_numbers.new.into.items c.put_records.new.into.items c.put_names.new.into.items
    c.requires.distinct c.requires.named (ap shifts_shown c.as_slice.ensures.value) (ap shifts_shown c.as_slice-2.ensures.value)
    c.in_ok-put_times.ensures.bytes c.in_ok-put_numbers.ensures c.in_ok-put_records.ensures c.in_ok-put_names.ensures
