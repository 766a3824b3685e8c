-- The words of the format at worked rows: RFC 8536, sections 3.1 and 3.3.
use Rattle.std.proofs.Common.{◌≡◌, ℕ, ℤ, true, false, List, [], ◌∷◌, ◌++◌, length, map, codes, refl}
use Rattle.zone_tzif_core.specs.{Format.{begins_well, block_len, is_one_line, suits}, Tzif.{are_times}, Zones.{KindValue, rises}, declared.header.Header.{Header}}

-- each of the four bytes counts, and what follows them doesn't
magics : map begins_well
    (codes "TZif2" ∷ codes "TZif" ∷ codes "tZif2" ∷ codes "Tzif2" ∷ codes "TZIf2" ∷ codes "TZiF2" ∷ codes "TZi" ∷ codes " TZif" ∷ [])
    ≡ true ∷ true ∷ false ∷ false ∷ false ∷ false ∷ false ∷ false ∷ []
unfolding begins_well
magics = refl

-- of a version, so many times, kinds, characters, leap seconds, and flags of either sort
abbrev header : ℕ → ℕ → ℕ → ℕ → ℕ → ℕ → ℕ → Header
header version time kind char leap isstd isut =
    record { version = version; isut = isut; isstd = isstd; leap = leap; time = time; kind = kind; char = char }

abbrev of_version : ℕ → Header
of_version version = header version 0 2 4 0 0 0

-- `2` to `4`, and the same in both headers
versions : suits 52 50 (of_version 50) ∷ suits 52 51 (of_version 51) ∷ suits 52 52 (of_version 52) ∷ suits 52 50 (of_version 51) ∷ suits 52 51 (of_version 50)
    ∷ suits 52 49 (of_version 49) ∷ suits 52 53 (of_version 53) ∷ suits 52 0 (of_version 0) ∷ []
    ≡ true ∷ true ∷ true ∷ false ∷ false ∷ false ∷ false ∷ false ∷ []
unfolding suits
versions = refl

-- no leap second, some kind and character, and no flags or one for each kind
counts : map (suits 52 50) (header 50 0 1 1 0 0 0 ∷ header 50 0 2 4 1 0 0 ∷ header 50 0 0 4 0 0 0 ∷ header 50 0 2 0 0 0 0 ∷ header 50 0 2 4 0 2 0
    ∷ header 50 0 2 4 0 0 2 ∷ header 50 0 2 4 0 1 0 ∷ header 50 0 2 4 0 0 1 ∷ header 50 0 2 4 0 3 3 ∷ [])
    ≡ true ∷ false ∷ false ∷ false ∷ true ∷ true ∷ false ∷ false ∷ false ∷ []
unfolding suits
counts = refl

-- five bytes for each time, six for each kind, eight for each leap second and one for each of the others
lengths : map block_len (header 0 0 0 0 0 0 0 ∷ header 0 1 0 0 0 0 0 ∷ header 0 0 1 0 0 0 0 ∷ header 0 0 0 1 0 0 0 ∷ header 0 0 0 0 1 0 0
    ∷ header 0 0 0 0 0 1 0 ∷ header 0 0 0 0 0 0 1 ∷ header 50 236 6 20 0 6 6 ∷ [])
    ≡ 0 ∷ 5 ∷ 6 ∷ 1 ∷ 8 ∷ 1 ∷ 1 ∷ 1248 ∷ []
unfolding block_len
lengths = refl

-- a footer may have a carriage return, but neither a line feed nor a zero byte
lines : map is_one_line ([] ∷ codes "EST5" ∷ (codes "EST5" ++ 13 ∷ []) ∷ (codes "EST5" ++ 10 ∷ []) ∷ (10 ∷ codes "EST5") ∷ (69 ∷ 0 ∷ []) ∷ [])
    ≡ true ∷ true ∷ true ∷ false ∷ false ∷ false ∷ []
lines = refl

-- as many changes as a count of 32 bits tells, and none more
most_times : (shifts : List (ℤ × KindValue)) → rises shifts ≡ true
    → (length shifts ≡ 4294967295 → are_times shifts ≡ true) × (length shifts ≡ 4294967296 → are_times shifts ≡ false)
unfolding are_times
most_times shifts up = (λ n. rw (up, n) refl, λ n. rw (up, n) refl)
