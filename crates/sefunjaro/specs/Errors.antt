-- What the fault of a call becomes. Want of memory is one variant, whichever call it comes of.
use Rattle.sefunjaro.specs.declared.{any_source.AnySourceFault.{AnySourceFault}, error.Error.{Error}}
use Rattle.sefunjaro.specs.declared.{error.Error.TheVariants.{TooLong, Source, Line, PlainTooLong, Plain, Zone, Database, List, Alarm, Tail, EverTail, Tzif, Tree, File, FileZone, Posix, NoMemory}, file.FileFault.{FileFault}, file.PosixFault.{PosixFault}}
use Rattle.sefunjaro.specs.declared.source.OpenFault.{OpenFault}
use Rattle.sefunjaro.specs.declared.any_source.AnySourceFault.TheVariants as any_source
use Rattle.sefunjaro.specs.declared.file.FileFault.TheVariants as opened_file
use Rattle.sefunjaro.specs.declared.file.PosixFault.TheVariants as posix
use Rattle.sefunjaro.specs.declared.source.OpenFault.TheVariants as opened
use Rattle.tz_lookup.specs.{declared.database.DatabaseFault.{DatabaseFault}, declared.compile.ZoneFault.{ZoneFault}}
use Rattle.tz_lookup.specs.declared.database.DatabaseFault.TheVariants as database
use Rattle.tz_tzif.specs.declared.fault.TzifFault.{TzifFault}
use Rattle.tz_tzif.specs.declared.fault.TzifFault.TheVariants as file_zone
use Rattle.tz_lookup.specs.declared.compile.ZoneFault.TheVariants as zone
use Rattle.zone_alarm.specs.declared.ring.AlarmFault.{AlarmFault}
use Rattle.zone_alarm.specs.declared.ring.AlarmFault.TheVariants as alarm
use Rattle.zone_list.specs.declared.listing.ListFault.{ListFault}
use Rattle.zone_list.specs.declared.listing.ListFault.TheVariants as listed
use Rattle.zone_source.specs.declared.error.SourceError.{SourceError}
use Rattle.zone_source.specs.declared.error.SourceError.TheVariants as source
use Rattle.zone_tail.specs.declared.outcome.TailFault.{TailFault}
use Rattle.zone_tail.specs.declared.outcome.TailFault.TheVariants as tail
use Rattle.zone_tzif.specs.declared.{outcome.EverTailFault.{EverTailFault}, ever.EverFileFault.{EverFileFault}}
use Rattle.zone_tzif.specs.declared.outcome.EverTailFault.TheVariants as ever_tail
use Rattle.zone_tzif.specs.declared.ever.EverFileFault.TheVariants as ever_file
use Rattle.zone_tzif.specs.declared.file.FileFault as made
use Rattle.zone_tzif.specs.declared.file.FileFault.TheVariants as made_file
use Rattle.zone_tree.specs.declared.refusal.TreeFault.{TreeFault}
use Rattle.zone_tree.specs.declared.refusal.TreeFault.TheVariants as tree
use Rattle.zone_tzif_core.specs.declared.values.ReadFault.{ReadFault}
use Rattle.zone_tzif_core.specs.declared.values.ReadFault.TheVariants as read

abbrev pub of_source : SourceError → Error
of_source source.NoMemory = NoMemory
of_source fault = Source fault

abbrev pub of_open : OpenFault → Error
of_open opened.TooLong = TooLong
of_open (opened.Source fault) = Source fault
of_open opened.NoMemory = NoMemory

abbrev pub of_any_source : AnySourceFault → Error
of_any_source any_source.TooLong = TooLong
of_any_source (any_source.Line n cause) = Line n cause
of_any_source any_source.PlainTooLong = PlainTooLong
of_any_source (any_source.Plain fault) = Plain fault
of_any_source any_source.NoMemory = NoMemory

abbrev pub of_zone : ZoneFault → Error
of_zone zone.NoMemory = NoMemory
of_zone fault = Zone fault

abbrev pub of_database : DatabaseFault → Error
of_database database.NoMemory = NoMemory
of_database fault = Database fault

abbrev pub of_list : ListFault → Error
of_list listed.NoMemory = NoMemory
of_list fault = List fault

abbrev pub of_alarm : AlarmFault → Error
of_alarm alarm.NoMemory = NoMemory
of_alarm fault = Alarm fault

abbrev pub of_tail : TailFault → Error
of_tail tail.NoMemory = NoMemory
of_tail fault = Tail fault

abbrev pub of_ever_tail : EverTailFault → Error
of_ever_tail ever_tail.NoMemory = NoMemory
of_ever_tail fault = EverTail fault

abbrev pub of_made_file : made.FileFault → Error
of_made_file made_file.NoMemory = NoMemory
of_made_file fault = Tzif fault

abbrev pub of_ever_file : EverFileFault → Error
of_ever_file (ever_file.Footer cause) = of_ever_tail cause
of_ever_file (ever_file.File cause) = of_made_file cause

abbrev pub of_tree : TreeFault → Error
of_tree (tree.Source fault) = of_source fault
of_tree tree.NoMemory = NoMemory
of_tree fault = Tree fault

abbrev pub of_read : ReadFault → Error
of_read read.NoMemory = NoMemory
of_read fault = File fault

abbrev pub of_file_zone : TzifFault → Error
of_file_zone file_zone.NoMemory = NoMemory
of_file_zone fault = FileZone fault

-- a file that is opened is refused as its bytes are, or as its zone is
abbrev pub of_opened_file : FileFault → Error
of_opened_file opened_file.Refused = File read.Refused
of_opened_file opened_file.Footer = FileZone file_zone.Footer
of_opened_file opened_file.NoMemory = NoMemory

abbrev pub of_posix : PosixFault → Error
of_posix posix.Refused = Posix
of_posix posix.NoMemory = NoMemory
