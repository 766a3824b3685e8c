-- Where nothing misses its range, no part does.
use Rattle.std.{proofs.Common.{◌≡◌, [], ◌∷◌, Option, Some, None}, specs.Prelude.{option_and_then, option_map}}
use Rattle.tz_posix.specs.{RangeLaws.{none_first}, Ranges.{first_miss, offset_miss, posix_range, rule_range}, Shown.{dst_shown, std_shown, tz_shown}, Spells.{day_times}, Values.{StdPart, DstPart, expanded}, declared.time.Time.{Time}}
use Rattle.tz_posix.specs.declared.values.{Rule.{Rule}, Dst.{Dst}, Std.{Std}, Tz.{Tz}, Tz.TheVariants.{Expanded}}

standard_fits : (std : StdPart) (dst : Option (DstPart Time)) → posix_range (expanded std dst) ≡ None → offset_miss std.offset ≡ None
unfolding first_miss
standard_fits std None e = e
standard_fits std (Some dst) e = (none_first _ _ e).0

saving_fits : (std : StdPart) (dst : DstPart Time) → posix_range (expanded std (Some dst)) ≡ None
    → (option_and_then offset_miss dst.offset ≡ None) × (option_and_then (rule_range day_times) dst.rule ≡ None)
unfolding first_miss
saving_fits std dst e =
    let own = option_and_then offset_miss dst.offset in
    let rule = option_and_then (rule_range day_times) dst.rule in
    let later = none_first (offset_miss std.offset) (own ∷ rule ∷ []) e in
    let both = none_first own (rule ∷ []) later.1 in
    (both.0, (none_first rule [] both.1).0)

-- the same of a value of the code
pub standard_in_range : (tz : Tz (Rule Time)) (std : Std) (dst : Option (Dst (Rule Time))) → tz ≡ Expanded std dst → posix_range (tz_shown tz) ≡ None
    → offset_miss std.offset ≡ None
standard_in_range tz std dst is fits = standard_fits (std_shown std) (option_map dst_shown dst) (rw is at fits)

pub saving_in_range : (tz : Tz (Rule Time)) (std : Std) (d : Option (Dst (Rule Time))) (dst : Dst (Rule Time)) → tz ≡ Expanded std d → d ≡ Some dst
    → posix_range (tz_shown tz) ≡ None
    → (option_and_then offset_miss dst.offset ≡ None) × (option_and_then (rule_range day_times) dst.rule ≡ None)
saving_in_range tz std d dst is there fits = saving_fits (std_shown std) (dst_shown dst) (rw (is, there) at fits)
