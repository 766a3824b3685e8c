use Rattle.std.proofs.Common.{◌∙◌, ap}
use Rattle.tz_posix.specs.Shown.{tz_shown}
use Rattle.sefunjaro.specs.PosixNames.{is_posix_string}
use Rattle.sefunjaro.proofs.posix_names.is_posix_string.Goals as goal

pub returns-in-Some-clause-told : goal.returns-in-Some-clause-told
returns-in-Some-clause-told c = λ value spelled.
    c.is_posix_value.ensures ∙ ap is_posix_string (c.one_reading.ensures c.args.text.now (tz_shown c.in-Some.tz) value c.in-Some.ensures.exact spelled)

pub returns-in-Some-clause-read : goal.returns-in-Some-clause-read
returns-in-Some-clause-read c = λ _. record { value = tz_shown c.in-Some.tz; spells = c.in-Some.ensures.exact }
