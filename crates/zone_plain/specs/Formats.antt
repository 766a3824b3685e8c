-- Where `%z` stands in a format.
use Rattle.std.specs.{Prelude.{ℕ, List, Option, option_map}, Option.{option_and_then}}
use Rattle.basics.specs.Marks.{after_mark, cut}

-- what stands before `%z` and what stands after it
pub record Around : Type 0 where
  pub before : List ℕ
  pub after : List ℕ

abbrev pub around : List ℕ → List ℕ → Around
around before after = record { before = before; after = after }

abbrev pub around_z : List ℕ × List ℕ → Option Around
around_z parts = option_map (around parts.0) (after_mark 122 parts.1)

-- the parts of a format with `%z`; a format has one `%` at most
unfoldable pub around_mark : List ℕ → Option Around
around_mark format = option_and_then around_z (cut 37 format)
