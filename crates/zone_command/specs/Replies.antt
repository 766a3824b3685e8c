-- What is due of words over zones.
use Rattle.std.specs.Prelude.{◌≡◌, ◌⊎◌, ◌&&◌, ◌||◌, ℕ, Bool, true, false, List, [], ◌∷◌, ◌++◌, map, Option, Result, Ok, Err, codes, decimal, int_lt, length, ◌==◌, unwrap_or, ℤ, if◌then◌else◌}
use Rattle.civil_base.specs.Ranges.{is_in_years}
use Rattle.zone_command.specs.{Answers.{Answer, OfName, lined, of_name, told, ◌>>=◌}, Named.{Found, named_in}, Refusals.{name_words, told_line}, Due.{Answers, Due as Delivered}}
use Rattle.zone_texts.specs.{Charts.{chart_due}, SeenZones.{Named}, SeenNames.{NameSeen}, Texts.{names_text}, Rings.{rings_due}, Faults.{Due, behind, ended}, Frames.{framed}, Instants.{is_untold, line_due}, Lists.{list_due}, Readings.{convert_due}, Views.{ZoneView}, declared.fault.ReplyFault.TheVariants.{OutOfYears}}
use Rattle.zone_words.specs.{declared.answer_form.AnswerForm.{AnswerForm}, Tasks.{TaskAsked, WordsAsked, at_instants, local_time, converted, list_changes, alarm, names, file, posix_string, tree, chart, plain_form}}

-- a line for each instant, behind those that there are
abbrev pub at_lines : AnswerForm → ZoneView → List ℕ → List ℕ → List ℤ → Due
at_lines form view name text [] = Ok text
at_lines form view name text (t ∷ times) = behind text (line_due form view name t) >>= (λ more. at_lines form view name more times)

-- a line for each reading
abbrev pub convert_lines : AnswerForm → ZoneView → List ℕ → ZoneView → List ℕ → ℤ → Due
convert_lines form from from_name to to_name x = ended (convert_due form from from_name to to_name (10 ∷ []) x)

-- whose fault it is that a local time of a zone isn't told by another: of the first, where it doesn't tell it or skips it
abbrev pub at_fault : ZoneView → List ℕ → List ℕ → ℤ → List ℕ
at_fault from from_name to_name x = if is_untold from x || length (from.readings x) == 0 then from_name else to_name

-- a line for each change from an instant on and before another, whose dates by UTC lie in the years
unfoldable pub list_lines : AnswerForm → ZoneView → List ℕ → ℤ → ℤ → Due
list_lines form view name from to = if is_in_years from && is_in_years to then list_due form view name from to else Err OutOfYears

-- the instant that is asked for, at an instant
abbrev pub instant_at : ℤ → Option ℤ → ℤ
instant_at now t = unwrap_or t now

abbrev pub instants_at : ℤ → List (Option ℤ) → List ℤ
instants_at now times = map (instant_at now) times

-- what is due of the zone that a name finds
abbrev pub on_zone : (List ℕ → Found) → List ℕ → (ZoneView → Answer) → Answer
on_zone found name due = named_in found name >>= due

-- the zones that names find, each under its name; or why the first finds none that does
unfoldable pub named_zones : (List ℕ → Found) → List (List ℕ) → Result (List Named) (List ℕ)
named_zones found [] = Ok []
named_zones found (name ∷ others) =
    named_in found name >>= (λ view. named_zones found others >>= (λ zones. Ok (record { name = name; view = view } ∷ zones)))

-- the lines of these over a year, in a picture between any two texts
abbrev pub chart_answer : List ℕ → List ℕ → (List ℕ → Found) → List (List ℕ) → ℕ → Answer
chart_answer head tail found wanted year =
    named_zones found wanted >>= (λ zones. told (decimal year) (framed head (chart_due zones year) tail))

abbrev pub IsCharted : (List ℕ → Found) → List (List ℕ) → ℕ → Answer → Type 0
IsCharted found wanted year answer = (head : List ℕ) × (tail : List ℕ) × (chart_answer head tail found wanted year ≡ answer)

-- the changes of a zone from an instant on and before another, whose word is told where it isn't after the first
abbrev pub list_answer : (List ℕ → Found) → AnswerForm → List ℕ → ℤ → ℤ → List ℕ → Answer
list_answer found form name from to word =
    if int_lt from to then on_zone found name (λ view. told name (list_lines form view name from to))
    else Err (name_words word (codes "this isn't after FROM"))

-- zones that were found, and those that the names left find
abbrev pub behind_found : List Named → Result (List Named) (List ℕ) → Result (List Named) (List ℕ)
behind_found zones left = left >>= (λ more. Ok (zones ++ more))

-- the zone of a name was found
abbrev pub IsStep : (List ℕ → Found) → List ℕ → List (List ℕ) → List Named → List Named → Type 0
IsStep found name others before now =
    behind_found before (named_zones found (name ∷ others)) ≡ behind_found now (named_zones found others)

-- the answer to a task by what names find, at an instant
abbrev pub reply_of : (List ℕ → Found) → List NameSeen → AnswerForm → ℤ → TaskAsked → Answer
reply_of found entries form now (at_instants name times) =
    on_zone found name (λ view. told name (at_lines form view name [] (instants_at now times)))
reply_of found entries form now (local_time name x) = on_zone found name (λ view. told name (convert_lines form view name view name x))
reply_of found entries form now (converted from to x) =
    on_zone found from (λ view. on_zone found to (λ other. told (at_fault view from to x) (convert_lines form view from other to x)))
reply_of found entries form now (list_changes name from to word) = list_answer found form name (instant_at now from) (instant_at now to) word
reply_of found entries form now (alarm name asked) = on_zone found name (λ view. told name (rings_due form view name asked))
reply_of found entries form now (names word) = Ok (names_text form entries word)
reply_of found entries form now _ = Ok []

-- what is said of a zone's file and string by its name, and of the tree
abbrev pub Says : Type 1
Says = Answer → Type 0

abbrev pub IsReplyTo : (List ℕ → Found) → List NameSeen → (List ℕ → Says) → (List ℕ → Says) → (Bool → Says) → AnswerForm → ℤ → TaskAsked → Says
IsReplyTo found entries files strings trees form now (file name) answer = OfName name (files name) answer
IsReplyTo found entries files strings trees form now (posix_string name) answer = OfName name (strings name) answer
IsReplyTo found entries files strings trees form now (tree to_2099) answer = trees to_2099 answer
IsReplyTo found entries files strings trees form now (chart wanted year) answer = IsCharted found wanted year answer
IsReplyTo found entries files strings trees form now task answer = reply_of found entries form now task ≡ answer

-- the source that the text is read as, and what is due over it
pub record IsReplyOver {S : Type 0} (reads : List ℕ → S → Type 0) (found : S → List ℕ → Found) (entries : S → List NameSeen)
    (files strings : S → List ℕ → Says) (trees : S → Bool → Says) (asked : WordsAsked) (now : ℤ) (text : List ℕ) (due : Delivered) : Type 0 where
  pub source : S
  pub read : reads text source
  pub answer : Answer
  pub reply : IsReplyTo (found source) (entries source) (files source) (strings source) (trees source) asked.form now asked.task answer
  pub is : due ≡ lined answer

-- why the text is no source, which is told of the file
pub record IsNoSource (unread : List ℕ → List ℕ → Type 0) (file text : List ℕ) (due : Delivered) : Type 0 where
  pub why : List ℕ
  pub unread_for : unread text why
  pub line : due ≡ Err (told_line (name_words file why))

-- what is due of zones over the text of a file
abbrev pub IsZoneOver : {S : Type 0} → (List ℕ → S → Type 0) → (List ℕ → List ℕ → Type 0) → (S → List ℕ → Found) → (S → List NameSeen)
    → (S → List ℕ → Says) → (S → List ℕ → Says) → (S → Bool → Says) → Answers
IsZoneOver reads unread found entries files strings trees asked now name text due =
    IsReplyOver reads found entries files strings trees asked now text due ⊎ IsNoSource unread name text due

-- the plain form of a text is asked for, and no zone
abbrev pub asks_form : TaskAsked → Bool
asks_form (plain_form path) = true
asks_form _ = false

-- what is due over the text of a file
abbrev pub IsDueOver : {S : Type 0} → (List ℕ → S → Type 0) → (List ℕ → List ℕ → Type 0) → (S → List ℕ → Found) → (S → List NameSeen)
    → (S → List ℕ → Says) → (S → List ℕ → Says) → (S → Bool → Says) → (List ℕ → Answer) → Answers
IsDueOver reads unread found entries files strings trees forms asked now name text due =
    ((asks_form asked.task ≡ true) × (due ≡ lined (of_name name (forms text))))
    ⊎ ((asks_form asked.task ≡ false) × IsZoneOver reads unread found entries files strings trees asked now name text due)
