-- The commands, and which options each takes.
use Rattle.std.specs.Prelude.{ℕ, Bool, true, false, ◌||◌, not, ◌==◌, List, [], ◌∷◌, Option, Some, None, bytes_eq, codes, if◌then◌else◌}
use denote.Enum.Declared.{tag_of as place_among}
use Rattle.zone_words.specs.contracts.command.Command.{the_type as commands}
use Rattle.zone_words.specs.declared.command.Command.{Command, TheVariants.{At, Local, Convert, List as ListOf, Alarm, Names, Stream, Log, Tree, File, String, Chart, Plain}}

-- what the first pair stands for whose text is the word
abbrev pub standing_for : {A : Type 0} → List (List ℕ × A) → List ℕ → Option A
standing_for [] word = None
standing_for (entry ∷ more) word = if bytes_eq word entry.0 then Some entry.1 else standing_for more word

abbrev pub command_named : List ℕ → Option Command
command_named =
    standing_for ((codes "at", At) ∷ (codes "local", Local) ∷ (codes "convert", Convert) ∷ (codes "list", ListOf) ∷ (codes "alarm", Alarm)
    ∷ (codes "names", Names) ∷ (codes "stream", Stream) ∷ (codes "log", Log) ∷ (codes "tree", Tree) ∷ (codes "file", File)
    ∷ (codes "string", String) ∷ (codes "chart", Chart) ∷ (codes "plain", Plain) ∷ [])

abbrev pub is_alarm_option : List ℕ → Bool
is_alarm_option name =
    bytes_eq name (codes "--from") || bytes_eq name (codes "--count") || bytes_eq name (codes "--until")
    || bytes_eq name (codes "--every") || bytes_eq name (codes "--on") || bytes_eq name (codes "--gap") || bytes_eq name (codes "--fold")

-- they are one command
abbrev pub is : Command → Command → Bool
is command other = place_among commands command == place_among commands other

-- what is written are no lines of times: an archive, a file, a string, a picture or a source
abbrev pub makes_whole : Command → Bool
makes_whole Tree = true
makes_whole File = true
makes_whole String = true
makes_whole Chart = true
makes_whole Plain = true
makes_whole _ = false

-- what is written are times, which have a form
abbrev pub tells_times : Command → Bool
tells_times command = not (is Names command || makes_whole command)

-- what is written may be objects, which have no place in a log
abbrev pub has_objects : Command → Bool
has_objects command = not (is Log command || makes_whole command)

-- the source goes with every command but the one that names its file itself
abbrev pub takes : Command → List ℕ → Bool
takes command name =
    if is_alarm_option name then is Alarm command
    else (if bytes_eq name (codes "--plain") then is Stream command
    else (if bytes_eq name (codes "--field") then is Log command
    else (if bytes_eq name (codes "--to-2099") then is Tree command
    else (if bytes_eq name (codes "--source") then not (is Plain command)
    else (if bytes_eq name (codes "--json") then has_objects command
    else (if bytes_eq name (codes "--rfc3339") || bytes_eq name (codes "--epoch") then tells_times command else true))))))
