use Rattle.std.proofs.Common.{option_and_then, subst}
use Rattle.zone_tzif_core.{specs.Reading.{joined_in, said_in}, specs.Shown.{TellsExactly}, specs.ZoneFiles.{zone_seen}, proofs.ExactLemmas.{reads, what_is_said}}
use Rattle.zone_tzif_core.proofs.file_reader.read_file.Goals as goal

pub returns : goal.returns
unfolding said_in
returns c =
    let told = subst (λ parts. TellsExactly zone_seen c.zone_of.result (option_and_then joined_in parts)) c.said_parts.ensures.parts c.zone_of.ensures in
    record { exact = reads zone_seen (said_in c.args.bytes.now) (what_is_said c.args.bytes.now) c.zone_of.result told }
