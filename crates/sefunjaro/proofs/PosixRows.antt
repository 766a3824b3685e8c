-- Worked examples: the standard time of POSIX strings.
use Rattle.std.{proofs.Common.{◌≡◌, true, false, pos, negsuc, refl}, specs.Prelude.{Some, None, codes}}
use Rattle.tz_posix.specs.Seconds.{offset_seconds, time_seconds}
use Rattle.tz_tzif.specs.Values.{FooterValue}
use Rattle.sefunjaro.specs.Posix.{standard_kind}

-- `CET-1` lies an hour east of UTC, and is no daylight saving time
abbrev central : FooterValue
central = record { standard = record { name = codes "CET"; offset = record { positive = false; time = record { hh = 1; mm = None; ss = None } } }; saving = None }

central_time : standard_kind central ≡ record { utoff = pos 3600; is_dst = false; name = codes "CET" }
unfolding offset_seconds time_seconds
central_time = refl

-- `NST3:30` lies three and a half hours west of it
abbrev newfoundland : FooterValue
newfoundland = record { standard = record { name = codes "NST"; offset = record { positive = true; time = record { hh = 3; mm = Some 30; ss = None } } }; saving = None }

newfoundland_time : standard_kind newfoundland ≡ record { utoff = negsuc 12599; is_dst = false; name = codes "NST" }
unfolding offset_seconds time_seconds
newfoundland_time = refl
