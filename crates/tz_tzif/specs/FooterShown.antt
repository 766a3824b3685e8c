-- What is seen of the code's footers.
use Rattle.std.specs.Prelude.{Option, Some, None}
use Rattle.zone_tzif_core.specs.Zones.{KindValue}
use Rattle.tz_tzif.specs.{FooterForce.{FooterZone, fixed, yearly}, declared.footer.Footer.{Footer}, declared.footer.Yearly.{Yearly}, declared.held.Held.{Held}}
use Rattle.tz_posix.specs.Yearly.{time_shown}

abbrev pub held_shown : Held → KindValue
held_shown held = record { utoff = held.offset; is_dst = held.is_dst; name = held.name.now }

abbrev pub zone_shown : KindValue → Option Yearly → FooterZone
zone_shown standard None = fixed standard
zone_shown standard (Some y) = yearly standard (held_shown y.held) (time_shown y.rule.start) (time_shown y.rule.end)

abbrev pub footer_shown : Footer → FooterZone
footer_shown footer = zone_shown (held_shown footer.standard) footer.saving
