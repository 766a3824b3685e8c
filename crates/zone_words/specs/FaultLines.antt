-- The line that tells a fault of words.
use Rattle.std.specs.{Prelude.{ℕ, List, [], ◌∷◌, ◌++◌, length, nat_eq, codes, if◌then◌else◌}, Option.{option_map_or}}
use Rattle.zone_words.specs.{FaultTexts.{fault_text}, Faults.{Fault}, ToldWords.{told_word}, declared.fault.WordCause.{WordCause}}
use Rattle.zone_words.specs.declared.fault.WordCause.TheVariants as cause

abbrev pub cause_text : WordCause → List ℕ
cause_text cause.UnknownOption = codes "no option has this name; zone --help tells them, and a value is a word of its own, as in --from 2024-10-27"
cause_text cause.ValueMissing = codes "a word is missing behind this option"
cause_text cause.Twice = codes "this option is there twice, or beside another of its kind"
cause_text cause.CommandMissing = codes "a command is missing, as in zone at Europe/Paris now"
cause_text cause.UnknownCommand = codes "no command has this name; zone --help tells them"
cause_text cause.OtherOption = codes "this option goes with another command"
cause_text cause.TooFew = codes "words are missing behind this command"
cause_text cause.TooMany = codes "this word is one too many"
cause_text cause.FirstMissing = codes "the first day is missing, as in --from 2024-10-27"
cause_text cause.EndMissing = codes "the end is missing, as in --count 7 or --until 2024-12-31"
cause_text cause.BeforeFirst = codes "the last day comes before the first"
cause_text cause.Number = codes "a number goes from 1 to 65535"
cause_text cause.Weekdays = codes "weekdays are missing, as in mon,thu"
cause_text cause.GapRule = codes "a rule for gaps is skip, before or after"
cause_text cause.FoldRule = codes "a rule for folds is first, second or both"
cause_text cause.Year = codes "a year goes from 0 to 9999"
cause_text (cause.Text fault) = fault_text fault
cause_text cause.NoMemory = codes "out of memory"

-- the word and the one behind it in quotes, as words are told, and `: `; nothing for no word
abbrev pub quoted : Fault → List ℕ
quoted fault =
    if nat_eq (length fault.word) 0 then []
    else ((34 ∷ told_word fault.word) ++ option_map_or (λ more. 32 ∷ told_word more) fault.more []) ++ 34 ∷ codes ": "

unfoldable pub fault_line : Fault → List ℕ
fault_line fault = ((codes "zone: " ++ quoted fault) ++ cause_text fault.cause) ++ 10 ∷ []
