-- How long a text may be that is read whole.
use Rattle.std.{specs.Prelude.{◌≡◌, ℕ}, proofs.Common.{refl}}
use Rattle.zone_outside.specs.declared.outside.TheConstants.{LIMIT}

-- 16,777,216 bytes
abbrev pub text_limit : ℕ
text_limit = 16777216

-- the code's limit is this one
pub limit_is : LIMIT ≡ text_limit
limit_is = refl
