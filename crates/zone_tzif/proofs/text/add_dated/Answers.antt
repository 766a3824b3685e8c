use Rattle.std.proofs.Common.{◌≡◌, ◌++◌, to_z-of_z, OnOk, string_bytes, subst}
use Rattle.zone_tzif.specs.Tried.{dated_text, numbered_text}
use Rattle.zone_tzif.proofs.text.add_dated.Goals as goal

pub returns : goal.returns
unfolding dated_text
returns c =
    let number = rw (to_z-of_z c.ranges.day) at c.number_in_year.ensures in
    let seconds = to_z-of_z c.ranges.seconds in
    subst (λ more. OnOk c.add_numbered.result (string_bytes c.add_numbered.new.text ≡ string_bytes c.args.text.now ++ more))
    (λ i. numbered_text (number i) (seconds i)) c.add_numbered.ensures
