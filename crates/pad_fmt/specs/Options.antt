-- The options of a format, as contracts see them.
use Rattle.std.specs.{Prelude.{◌≡◌, ℕ, Bool, false, Option, None}, Borrow.{MutBor}}
use Rattle.pad_fmt.specs.declared.options.Alignment.{Alignment}

-- the fill is a character; width and precision are numbers of characters
pub record Options : Type 0 where
  pub fill : ℕ
  pub align : Option Alignment
  pub width : Option ℕ
  pub precision : Option ℕ
  pub sign_plus : Bool
  pub sign_minus : Bool
  pub alternate : Bool
  pub sign_aware_zero_pad : Bool

-- the fill is a space, and nothing is asked for
abbrev pub default_options : Options
default_options = record {
  fill = 32;
  align = None;
  width = None;
  precision = None;
  sign_plus = false;
  sign_minus = false;
  alternate = false;
  sign_aware_zero_pad = false;
}

-- the reference that was given comes back, and leads to these options
pub record HandsBack (given result : MutBor Options) (options : Options) : Type 0 where
  pub same_reference : result.ghost_name ≡ given.ghost_name
  pub options_are : result.now ≡ options
