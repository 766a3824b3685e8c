-- The words that tell why a name has no entry, and which cause comes first, at worked rows.
use Rattle.std.{proofs.Common.{◌≡◌, ℕ, List, [], ◌∷◌, ◌++◌, map, codes, Some, None, Ok, Err, refl}}
use Rattle.zone_source.specs.Faults.{not_text}
use Rattle.zone_spans.specs.declared.fault.SpanFault.TheVariants as span
use Rattle.tz_ever.specs.declared.open.EverFault.TheVariants.{LaterDay, LaterOffset, RulesEnd as Ending, Zone}
use Rattle.tz_lookup.specs.declared.compile.ZoneFault.TheVariants as zone
use Rattle.zone_tzif.specs.declared.ever.EverFileFault.TheVariants.{Footer, File as MadeOf}
use Rattle.zone_tzif.specs.declared.file.FileFault.TheVariants as file
use Rattle.zone_tzif.specs.declared.outcome.EverTailFault.TheVariants as tail
use Rattle.zone_tree.specs.{EverTrees.{file_why, footer_why, zone_why}, Refusals.{group_of, word_of}, Trees.{of_source, of_name, refused, after_source}, declared.refusal.Why.{Why}}
use Rattle.zone_tree.specs.declared.refusal.Why.TheVariants.{Schedule, OffsetRange, RulesEnd, String, Format, File, Link, Name, Size}
use Rattle.zone_tzif_core.specs.declared.values.WriteFault.TheVariants as write

abbrev words_of : Why → List ℕ
words_of why = group_of why ++ word_of why

-- of each fault of a schedule
words_of_schedules : map (λ fault. words_of (Schedule fault))
    (span.UnknownRuleset ∷ span.MissingUntil ∷ span.YearRange ∷ span.RuleYears ∷ span.DayRange ∷ span.NoStandardSpan ∷ [])
    ≡ codes "schedule UnknownRuleset" ∷ codes "schedule MissingUntil" ∷ codes "schedule YearRange" ∷ codes "schedule RuleYears"
    ∷ codes "schedule DayRange" ∷ codes "schedule NoStandardSpan" ∷ []
words_of_schedules = refl

-- and of each other reason
words_of_reasons : map words_of
    (OffsetRange ∷ RulesEnd ∷ String tail.Shape ∷ String tail.OffsetRange ∷ String tail.Name ∷ String tail.NoRule ∷ Format ∷ File write.Times ∷ File write.Types ∷ File write.Names ∷ Link ∷ Name ∷ Size ∷ String tail.Saving ∷ [])
    ≡ codes "offset range" ∷ codes "rules end" ∷ codes "string shape" ∷ codes "string range" ∷ codes "string name" ∷ codes "string rule"
    ∷ codes "format" ∷ codes "times" ∷ codes "types" ∷ codes "names" ∷ codes "link" ∷ codes "name" ∷ codes "size" ∷ codes "string saving" ∷ []
words_of_reasons = refl

-- what each fault of a zone becomes; want of memory is no reason
of_zones : map zone_why (Zone zone.UnknownZone ∷ Zone (zone.Schedule span.YearRange) ∷ Zone zone.OffsetRange ∷ Zone zone.NoMemory ∷ LaterDay ∷ Ending ∷ LaterOffset ∷ [])
    ≡ Some Name ∷ Some (Schedule span.YearRange) ∷ Some OffsetRange ∷ None ∷ Some (Schedule span.DayRange) ∷ Some RulesEnd ∷ Some OffsetRange ∷ []
of_zones = refl

-- of its footer
of_footers : map footer_why (tail.Saving ∷ tail.Shape ∷ tail.OffsetRange ∷ tail.Name ∷ tail.NoRule ∷ tail.NoMemory ∷ [])
    ≡ Some (String tail.Saving) ∷ Some (String tail.Shape) ∷ Some (String tail.OffsetRange) ∷ Some (String tail.Name) ∷ Some (String tail.NoRule) ∷ None ∷ []
of_footers = refl

-- and of its file
of_files : map file_why (Footer tail.NoRule ∷ Footer tail.NoMemory ∷ MadeOf file.Times ∷ MadeOf file.Types ∷ MadeOf file.Names ∷ MadeOf file.NoMemory ∷ [])
    ≡ Some (String tail.NoRule) ∷ None ∷ Some (File write.Times) ∷ Some (File write.Types) ∷ Some (File write.Names) ∷ None ∷ []
of_files = refl

-- a fault of the source comes before a name that has no entry, and comes in place of an archive
first_causes : map (λ fault. after_source fault (Err (refused (codes "A") Size))) (Some (not_text 3) ∷ None ∷ [])
    ≡ Err (of_source (not_text 3)) ∷ Err (of_name (refused (codes "A") Size)) ∷ []
first_causes = refl

no_archive : map (λ fault. after_source fault (Ok (1 ∷ 2 ∷ []))) (Some (not_text 3) ∷ None ∷ []) ≡ Err (of_source (not_text 3)) ∷ Ok (1 ∷ 2 ∷ []) ∷ []
no_archive = refl
