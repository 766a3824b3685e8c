-- The parts of a footer in its ranges.
use Rattle.std.{proofs.Common.{◌≡◌, [], ◌∷◌, Option, Some, None}, specs.Prelude.{option_and_then}}
use Rattle.tz_posix.specs.{RangeLaws.{none_first}, Ranges.{first_miss, offset_miss, rule_range}, Spells.{signed_times}, Values.{StdPart}}
use Rattle.tz_tzif.specs.{Ranges.{footer_miss}, Values.{SavingValue}}

pub standard_offset : (standard : StdPart) (saving : Option SavingValue) → footer_miss (record { standard = standard; saving = saving }) ≡ None
    → offset_miss standard.offset ≡ None
unfolding first_miss
standard_offset standard None h = h
standard_offset standard (Some s) h = (none_first _ _ h).0

pub saving_parts : (standard : StdPart) (s : SavingValue) → footer_miss (record { standard = standard; saving = Some s }) ≡ None
    → (option_and_then offset_miss s.offset ≡ None) × (rule_range signed_times s.rule ≡ None)
unfolding first_miss
saving_parts standard s h =
    let own = option_and_then offset_miss s.offset in
    let rule = rule_range signed_times s.rule in
    let later = none_first (offset_miss standard.offset) (own ∷ rule ∷ []) h in
    let both = none_first own (rule ∷ []) later.1 in
    (both.0, (none_first rule [] both.1).0)
