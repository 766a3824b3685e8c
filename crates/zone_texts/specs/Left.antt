-- On how many days it still rings.
use Rattle.std.specs.Prelude.{ℕ, ◌-◌, ◌==◌, Bool, false, Option, Some, None, if◌then◌else◌}

-- on no more
abbrev pub is_full : Option ℕ → Bool
is_full (Some count) = count == 0
is_full None = false

-- after a day on which it rang or not
abbrev pub left_after : Option ℕ → Bool → Option ℕ
left_after (Some count) rung = if rung then Some (count - 1) else Some count
left_after None rung = None
