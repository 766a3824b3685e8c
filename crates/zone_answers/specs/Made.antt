-- The two texts that are made from a number: a source of so many zones under two rules, and two requests for each zone.
use Rattle.std.specs.{Prelude.{ℕ, zero, suc, ◌*◌, ◌%◌, ◌^◌, List, [], ◌∷◌, ◌++◌, map, codes, decimal}, List.{flat_map}}
use Rattle.zone_source.specs.LineLists.{ended}

-- 1, 2, 3 and so on, up to n
abbrev pub numbers_to : ℕ → List ℕ
numbers_to zero = []
numbers_to (suc n) = numbers_to n ++ suc n ∷ []

-- an hour of saving from spring to autumn
abbrev pub rule_lines : List (List ℕ)
rule_lines = codes "Rule Gen 2000 max - Mar lastSun 2:00 1:00 D" ∷ codes "Rule Gen 2000 max - Oct lastSun 3:00 0 S" ∷ []

-- `Zone Gen/Z13 1:00 Gen G%sT`
abbrev pub zone_line : ℕ → List ℕ
zone_line k = codes "Zone Gen/Z" ++ decimal k ++ codes " " ++ decimal (k % 12) ++ codes ":00 Gen G%sT"

-- 37 days
abbrev pub time_step : ℕ
time_step = 37 * 86400 * 10 ^ 9

-- `at Gen/Z1 3196800000000000`
abbrev pub at_line : ℕ → List ℕ
at_line k = codes "at Gen/Z" ++ decimal k ++ codes " " ++ decimal (k * time_step)

abbrev pub local_line : ℕ → List ℕ
local_line k = codes "local Gen/Z" ++ decimal k ++ codes " 2024-07-01 12:00:00.000000000"

-- the source of n zones
unfoldable pub made_source : ℕ → List ℕ
made_source n = ended (rule_lines ++ map zone_line (numbers_to n))

-- the requests
unfoldable pub made_requests : ℕ → List ℕ
made_requests n = ended (flat_map (λ k. at_line k ∷ local_line k ∷ []) (numbers_to n))
