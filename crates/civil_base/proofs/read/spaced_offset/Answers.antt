use Rattle.std.proofs.Common.{rules, ◌≡◌, ℕ, ℤ, to_z, of_z, to_z-of_z, FitsSigned, w32, unsigned_abs}
use Rattle.civil_base.specs.Layout.{offset_text}
use Rattle.civil_base.proofs.read.spaced_offset.Goals as goal

size_is : (o s : ℤ) (n : ℕ) → FitsSigned w32 o → s ≡ o → n ≡ unsigned_abs (to_z w32 (of_z w32 s)) → n ≡ unsigned_abs o
size_is o s n f e k = rw (e, to_z-of_z f) at k

pub returns-clause-text : goal.returns-clause-text
unfolding offset_text
returns-clause-text c =
    let size : c.unsigned_abs-size.result ≡ unsigned_abs c.args.offset = size_is c.args.offset c.whole_seconds.result
    c.unsigned_abs-size.result (search rules) c.whole_seconds.ensures.value c.unsigned_abs-size.ensures.value in
    rw (← size) (cc)
