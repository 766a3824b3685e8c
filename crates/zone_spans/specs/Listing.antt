-- Which firings of a line become entries, and the firing whose saving and name the line starts with.
use Rattle.std.specs.{Prelude.{Bool, nat_lt, List, length, ◌++◌, reverse, filter, find, take, drop, Option, Some, None, ℤ, pos, int_lt, if◌then◌else◌}, List.{position_or_len}, Option.{option_or}, Ordering.{int_eq}}
use Rattle.zone_spans.specs.Firings.{Firing}

abbrev pub is_at : ℤ → Firing → Bool
is_at start f = int_eq f.time start

-- the first firing at the start and all after it, and of those before it the ones above the start
unfoldable pub listed_from : ℤ → List Firing → List Firing
listed_from start fs =
    let place = position_or_len (is_at start) fs in
    filter (λ f. int_lt start f.time) (take place fs) ++ drop place fs

-- the firings that a line lists, by its start: all where it is the first, which has none
abbrev pub listed_firings : Option ℤ → List Firing → List Firing
listed_firings None fs = fs
listed_firings (Some start) fs = listed_from start fs

-- the last firing below the start, else the first that ends a saving; none where a firing is at the start
unfoldable pub start_firing : ℤ → List Firing → Option Firing
start_firing start fs =
    if nat_lt (position_or_len (is_at start) fs) (length fs) then None
    else option_or (find (λ f. int_lt f.time start) (reverse fs)) (find (λ f. int_eq f.rule.time_to_add (pos 0)) fs)
