-- Whether parts have a value.
use Rattle.std.specs.{Prelude.{ℕ, zero, suc, ℤ, Bool, ◌&&◌, List, [], ◌∷◌, length, take, drop, is_some, nat_le, nat_lt}, List.{list_all}}
use Rattle.zone_tzif_core.specs.{Reading.{Cuts, kinds_in, time_of, time_size}, Zones.{go_up}}

-- so many times
unfoldable pub times_in : Bool → ℕ → List ℕ → List ℤ
times_in wide zero bytes = []
times_in wide (suc n) bytes = time_of wide (take (time_size wide) bytes) ∷ times_in wide n (drop (time_size wide) bytes)

-- times that rise, some kind, a kind for each number, and records that are kinds
abbrev pub passes : Cuts → Bool
passes parts =
    go_up (times_in parts.wide (length parts.numbers) parts.times) && nat_le 1 parts.kinds
    && list_all (λ number. nat_lt number parts.kinds) parts.numbers && is_some (kinds_in parts.names parts.kinds parts.records)
