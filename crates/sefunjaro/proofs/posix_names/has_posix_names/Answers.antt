use Rattle.std.proofs.Common.{◌∙◌, ap}
use Rattle.tz_posix.specs.Shown.{tz_shown}
use Rattle.sefunjaro.specs.PosixNames.{has_posix_names}
use Rattle.sefunjaro.proofs.posix_names.has_posix_names.Goals as goal

pub returns-in-Some : goal.returns-in-Some
returns-in-Some c = λ value spelled.
    c.are_posix_names.ensures ∙ ap has_posix_names (c.one_reading.ensures c.args.text.now (tz_shown c.in-Some.tz) value c.in-Some.ensures.exact spelled)
