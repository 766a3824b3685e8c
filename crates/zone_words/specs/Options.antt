-- The options among the words.
use Rattle.std.specs.{Prelude.{ℕ, ◌==◌, Bool, true, false, ◌&&◌, ◌||◌, not, List, [], ◌∷◌, Option, Some, None, is_some, bytes_eq, codes, if◌then◌else◌}, Char.{is_ascii_digit}}

-- the word of an option, and the word behind it, which is empty where it wants none
abbrev pub GivenOption : Type 0
GivenOption = List ℕ × List ℕ

-- a `-`, and behind it no digit, so that `-03:30` is none
abbrev pub is_option : List ℕ → Bool
is_option [] = false
is_option (c ∷ []) = false
is_option (c ∷ d ∷ rest) = c == 45 && not (is_ascii_digit d)

-- a form of the answers; `--plain` is that of another program
abbrev pub is_form : List ℕ → Bool
is_form word =
    bytes_eq word (codes "--rfc3339") || bytes_eq word (codes "--epoch") || bytes_eq word (codes "--json") || bytes_eq word (codes "--plain")

-- without a word behind it
abbrev pub is_flag : List ℕ → Bool
is_flag word =
    bytes_eq word (codes "--rfc3339") || bytes_eq word (codes "--epoch") || bytes_eq word (codes "--json")
    || bytes_eq word (codes "--help") || bytes_eq word (codes "--version") || bytes_eq word (codes "--plain")
    || bytes_eq word (codes "--to-2099")

-- the end of an alarm
abbrev pub is_end : List ℕ → Bool
is_end word = bytes_eq word (codes "--count") || bytes_eq word (codes "--until")

-- with a word behind it
abbrev pub is_valued : List ℕ → Bool
is_valued word =
    bytes_eq word (codes "--source") || bytes_eq word (codes "--from") || bytes_eq word (codes "--count")
    || bytes_eq word (codes "--until") || bytes_eq word (codes "--every") || bytes_eq word (codes "--on")
    || bytes_eq word (codes "--gap") || bytes_eq word (codes "--fold") || bytes_eq word (codes "--field")

-- no two of these stand together
abbrev pub is_exclusive : List ℕ → List ℕ → Bool
is_exclusive name other = bytes_eq name other || is_form name && is_form other || is_end name && is_end other

abbrev pub is_among : List GivenOption → List ℕ → Bool
is_among [] name = false
is_among (option ∷ given) name = if is_exclusive name option.0 then true else is_among given name

-- the word behind an option that is given
abbrev pub value_of : List GivenOption → List ℕ → Option (List ℕ)
value_of [] name = None
value_of (option ∷ given) name = if bytes_eq option.0 name then Some option.1 else value_of given name

abbrev pub has : List GivenOption → List ℕ → Bool
has given name = is_some (value_of given name)
