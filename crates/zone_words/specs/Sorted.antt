-- The words sorted: options with the words behind them, and the others, each in their order.
use Rattle.std.specs.Prelude.{ℕ, List, [], ◌∷◌, ◌++◌, Ok, bytes_eq, codes, if◌then◌else◌}
use Rattle.zone_words.specs.{Faults.{Reading, wrong, ◌>>=◌}, Options.{GivenOption, is_among, is_flag, is_option, is_valued}, declared.fault.WordCause.TheVariants.{UnknownOption, ValueMissing, Twice}}

-- what the next word may be: anything; the word behind an option; a word that is no option, since `--` stands before it
pub data Next : Type 0 where
  any : Next
  behind : List ℕ → Next
  plain : Next

pub record SortedWords : Type 0 where
  pub words : List (List ℕ)
  pub given : List GivenOption
  pub next : Next

unfoldable pub put_word : SortedWords → List ℕ → Reading SortedWords
put_word s word = Ok (record { words = s.words ++ word ∷ []; given = s.given; next = s.next })

-- an option, which may stand there once
unfoldable pub put_option : SortedWords → List ℕ → List ℕ → Reading SortedWords
put_option s name value =
    if is_among s.given name then wrong name Twice
    else Ok (record { words = s.words; given = s.given ++ (name, value) ∷ []; next = any })

unfoldable pub put_any : SortedWords → List ℕ → Reading SortedWords
put_any s word =
    if bytes_eq word (codes "--") then Ok (record { words = s.words; given = s.given; next = plain })
    else (if is_valued word then Ok (record { words = s.words; given = s.given; next = behind word })
    else (if is_flag word then put_option s word []
    else (if is_option word then wrong word UnknownOption else put_word s word)))

-- one word more
abbrev pub put_by : Next → SortedWords → List ℕ → Reading SortedWords
put_by any s word = put_any s word
put_by (behind name) s word = put_option s name word
put_by plain s word = put_word s word

abbrev pub step : SortedWords → List ℕ → Reading SortedWords
step s word = put_by s.next s word

-- no option may want a word at the end
abbrev pub ended_by : Next → SortedWords → Reading SortedWords
ended_by any s = Ok s
ended_by (behind name) s = wrong name ValueMissing
ended_by plain s = Ok s

-- the words from the left to the right, behind those that were sorted
abbrev pub sorted_from : SortedWords → List (List ℕ) → Reading SortedWords
sorted_from s [] = ended_by s.next s
sorted_from s (word ∷ words) = step s word >>= (λ t. sorted_from t words)

abbrev pub none_sorted : SortedWords
none_sorted = record { words = []; given = []; next = any }

abbrev pub sorted : List (List ℕ) → Reading SortedWords
sorted words = sorted_from none_sorted words
