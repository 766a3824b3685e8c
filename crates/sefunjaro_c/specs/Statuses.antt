-- The statuses of calls, as the header numbers them.
use Rattle.std.specs.Prelude.{ℕ, ◌<◌}

abbrev pub done : ℕ
done = 0

-- the handle holds nothing, or nothing of the kind that is asked
abbrev pub not_open : ℕ
not_open = 1

abbrev pub out_of_memory : ℕ
out_of_memory = 2

abbrev pub too_long : ℕ
too_long = 3

abbrev pub not_text : ℕ
not_text = 4

abbrev pub bad_line : ℕ
bad_line = 5

abbrev pub bad_join : ℕ
bad_join = 6

abbrev pub unknown_zone : ℕ
unknown_zone = 7

abbrev pub no_schedule : ℕ
no_schedule = 8

abbrev pub offset_range : ℕ
offset_range = 9

-- a time outside the years -9999 to 9999, or no time
abbrev pub out_of_range : ℕ
out_of_range = 10

-- there is none of what is asked for
abbrev pub none_there : ℕ
none_there = 11

abbrev pub not_read : ℕ
not_read = 12

-- a zone of a file, or of a string, has no changes and no saving
abbrev pub not_kept : ℕ
not_kept = 13

-- a source in any form has no plain form
abbrev pub no_plain_form : ℕ
no_plain_form = 14

-- this holds where a call is refused, that is where its status is not 0
abbrev pub IfRefused : ℕ → Type 0 → Type 0
IfRefused status P = done < status → P
