use Rattle.std.{proofs.Common.{◌≡◌, ◌+◌, ◌-◌, take, drop, sym, subst, arith}, proofs.lemmas.Str.{IsUtf8-from_is_utf8}, specs.Str.{IsUtf8}}
use Rattle.zone_tzif_core.specs.Stored.{stored_name}
use Rattle.zone_tzif_core.proofs.zone_file.named.Goals as goal

pub from_utf8_unchecked-requires : goal.from_utf8_unchecked-requires
from_utf8_unchecked-requires c =
    let kind = c.args.kind.now in
    let names = c.args.names.now in
    let size : kind.from + kind.length - kind.from ≡ kind.length = omega arith in
    subst (λ n. IsUtf8 (take n (drop kind.from names))) (sym size) (IsUtf8-from_is_utf8 (stored_name names kind) c.requires.1)
