-- What the line of a request asks.
use Rattle.std.specs.{Prelude.{ℕ, ◌-◌, Bool, false, ◌||◌, ◌==◌, List, [], ◌∷◌, ◌++◌, length, take, drop, Result, Ok, Err, codes, if◌then◌else◌}, List.{slice_split}, Str.{is_utf8}}
use Rattle.zone_words.specs.{FaultLines.{fault_line}, Faults.{Reading}, Options.{is_option}, Tasks.{TaskAsked, Word, WordsAsked}, Words.{words_in}}

abbrev pub is_space : ℕ → Bool
is_space c = c == 32

-- a piece that has a byte is a word
abbrev pub word_in : List ℕ → List Word
word_in piece = if length piece == 0 then [] else piece ∷ []

-- the words among pieces, behind those that were found
abbrev pub words_among : List Word → List (List ℕ) → List Word
words_among found [] = found
words_among found (piece ∷ pieces) = words_among (found ++ word_in piece) pieces

-- the longest pieces without a space
abbrev pub words_of : List ℕ → List Word
words_of text = words_among [] (slice_split is_space text)

abbrev pub has_option : List Word → Bool
has_option [] = false
has_option (word ∷ words) = is_option word || has_option words

-- a line of the command without `zone: ` and its end
abbrev pub bare : List ℕ → List ℕ
bare line = take (length line - 7) (drop 6 line)

-- what is asked, or the words of the fault
abbrev pub Request : Type 0
Request = Result TaskAsked (List ℕ)

abbrev pub task_of : Reading WordsAsked → Request
task_of (Ok asked) = Ok asked.task
task_of (Err fault) = Err (bare (fault_line fault))

-- what words ask of the command, without options
abbrev pub request_of : List Word → Request
request_of [] = Err (codes "a request is missing")
request_of (word ∷ words) =
    if has_option (word ∷ words) then Err (codes "a request has no options") else task_of (words_in (word ∷ words))

-- what the bytes of a line ask
unfoldable pub request_in : List ℕ → Request
request_in line = if is_utf8 line then request_of (words_of line) else Err (codes "a request is text in UTF-8")
