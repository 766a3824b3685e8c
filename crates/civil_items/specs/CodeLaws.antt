-- Encoding and decoding undo each other.
use Rattle.std.specs.Prelude.{◌≡◌, ◌≢◌, ℕ, Option, Some, None, refl}
use Rattle.civil_items.specs.{Codes.{code, Decodes}, declared.config.Config.{Config}}

-- the code of a configuration is decoded to that configuration
pub decode-encode : (config : Config) (answer : Option Config) → Decodes (code config) answer → answer ≡ Some config
decode-encode config answer decodes = decodes.every_code config refl

-- and what is decoded is encoded as the number that it came from
pub encode-decode : (encoded : ℕ) (config : Config) → Decodes encoded (Some config) → code config ≡ encoded
encode-decode encoded config decodes = decodes.only_codes

-- so what is not decoded is the code of no configuration
pub no_code : (encoded : ℕ) → Decodes encoded None → (config : Config) → code config ≢ encoded
no_code encoded decodes config e = let none : None ≡ Some config = decodes.every_code config e in cc

-- and no two configurations have one code
pub one_code : (answer : Option Config) (one other : Config) → Decodes (code one) answer → code other ≡ code one → one ≡ other
one_code answer one other decodes e =
    let first : answer ≡ Some one = decodes.every_code one refl in
    let second : answer ≡ Some other = decodes.every_code other e in
    cc
