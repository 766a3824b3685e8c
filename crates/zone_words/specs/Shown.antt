-- What the words that were sorted show.
use Rattle.std.specs.{Prelude.{ℕ, List, map, Result, Ok, Err}, Borrow.{Bor}}
use Rattle.zone_words.specs.{Faults.{Reading}, Options.{GivenOption}, Sorted.{Next, any, behind, plain, SortedWords}, Told.{fault_shown}, declared.fault.WordFault.{WordFault}, declared.given.Given.{Given}, declared.sorted.Expected.{Expected}}
use Rattle.zone_words.specs.declared.sorted.{Expected.TheVariants.{Any, Behind, Plain}, Sorted.{Sorted}}

abbrev pub word_shown : Bor (List ℕ) → List ℕ
word_shown word = word.now

abbrev pub row_shown : {A : Type 0} → Bor (List ℕ) × A → List ℕ × A
row_shown row = (row.0.now, row.1)

abbrev pub given_shown : Given → GivenOption
given_shown option = (option.name.now, option.value.now)

abbrev pub next_shown : Expected → Next
next_shown Any = any
next_shown (Behind name) = behind name.now
next_shown Plain = plain

abbrev pub sorted_shown : Sorted → SortedWords
sorted_shown s = record { words = map word_shown s.words.items; given = map given_shown s.given.items; next = next_shown s.next }

-- what a step told of what it changed
abbrev pub stepped : Result (Unit {0}) WordFault → Sorted → Reading SortedWords
stepped (Ok done) s = Ok (sorted_shown s)
stepped (Err fault) s = Err (fault_shown fault)
