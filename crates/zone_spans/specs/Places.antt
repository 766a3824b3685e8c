-- What a step of the collapse leaves in place.
use Rattle.std.specs.Prelude.{◌≡◌, ℕ, ◌+◌, List, ◌++◌, ◌∷◌, [], length, take, drop, reverse, slice_index_or}
use Rattle.zone_spans.specs.{Entries.{Entry}, Collapse.{kept_with}}

-- the list has changed at `place`, and at `from`, of which nothing is told
pub record IsPutAt (xs ys : List Entry) (place from : ℕ) (e : Entry) : Type 0 where
  pub len : length ys ≡ length xs
  pub front : take (place + 1) ys ≡ take place xs ++ e ∷ []
  pub back : drop (from + 1) ys ≡ drop (from + 1) xs

abbrev pub IsRespanned : List Entry → List Entry → ℕ → ℕ → Type 0
IsRespanned xs ys place from = (d : Entry) → IsPutAt xs ys place from ((slice_index_or xs place d).0, (slice_index_or xs from d).1)

abbrev pub IsMoved : List Entry → List Entry → ℕ → ℕ → Type 0
IsMoved xs ys place from = (d : Entry) → IsPutAt xs ys place from (slice_index_or xs from d)

-- the first of the list are what is kept of those before and of the entry at `from`, and those after it stay
pub record IsStep (xs ys : List Entry) (kept from now : ℕ) : Type 0 where
  pub len : length ys ≡ length xs
  pub front : (d : Entry) → reverse (take now ys) ≡ kept_with (reverse (take kept xs)) (slice_index_or xs from d)
  pub back : drop (from + 1) ys ≡ drop (from + 1) xs
