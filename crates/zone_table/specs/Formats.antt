-- The formats of abbreviations.
use Rattle.std.specs.{Prelude.{ℕ, ◌==◌, ℤ, pos, Bool, true, false, ◌&&◌, ◌||◌, List, [], ◌∷◌, ◌++◌, Option, unwrap_or, if◌then◌else◌}, Ordering.{int_eq}, List.{before_first, after_first, list_any}}
use Rattle.zone_table.specs.declared.zone.Format.{Format, TheVariants.{Constant, Alternate, Placeholder}}

abbrev pub is_slash : ℕ → Bool
is_slash byte = byte == 47

-- the two bytes are `%s`
abbrev pub is_placeholder : ℕ → ℕ → Bool
is_placeholder byte next = byte == 37 && next == 115

-- `%s` stands somewhere in the text
unfoldable pub has_placeholder : List ℕ → Bool
has_placeholder [] = false
has_placeholder (byte ∷ []) = false
has_placeholder (byte ∷ next ∷ rest) = is_placeholder byte next || has_placeholder (next ∷ rest)

-- with a slash two texts, that of standard time before the first
unfoldable pub format_of : List ℕ → Format
format_of template =
    if list_any is_slash template
    then Alternate (before_first is_slash template) (after_first is_slash template)
    else if has_placeholder template then Placeholder template
    else Constant template

-- the text with the letters in place of each `%s`, from the left
unfoldable pub filled : List ℕ → List ℕ → List ℕ
filled letters [] = []
filled letters (byte ∷ []) = byte ∷ []
filled letters (byte ∷ next ∷ rest) =
    if is_placeholder byte next then letters ++ filled letters rest
    else byte ∷ filled letters (next ∷ rest)

-- the abbreviation under a saving, in seconds, and a rule's letters; no letters are no bytes
unfoldable pub abbreviation : Format → ℤ → Option (List ℕ) → List ℕ
abbreviation (Constant text) saving letters = text
abbreviation (Alternate standard dst) saving letters = if int_eq saving (pos 0) then standard else dst
abbreviation (Placeholder text) saving letters = filled (unwrap_or letters []) text

-- the text of a format that is always the same
abbrev pub is_constant : Format → Bool
is_constant (Constant text) = true
is_constant _ = false

abbrev pub constant_text : Format → List ℕ
constant_text (Constant text) = text
constant_text _ = []
