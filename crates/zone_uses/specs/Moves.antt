-- A zone that changes its offset once.
use Rattle.std.specs.Prelude.{Bool, true, false, List, [], ◌∷◌, ℤ, int_lt, if◌then◌else◌}

-- the total before a change, and from it on
abbrev pub total_around : ℤ → ℤ → ℤ → ℤ → ℤ
total_around change before after t = if int_lt t change then before else after

-- the totals at which a local time is read, by whether it is early at each: before the change at the first, before it at the second
abbrev pub around_list : Bool → Bool → ℤ → ℤ → List ℤ
around_list true true a b = a ∷ []
around_list true false a b = a ∷ b ∷ []
around_list false true a b = []
around_list false false a b = b ∷ []
