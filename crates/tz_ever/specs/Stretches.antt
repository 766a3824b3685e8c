-- The seconds around one in a zone: from entry to entry, as far as its cycle reaches.
use Rattle.std.specs.Prelude.{ℕ, zero, suc, ◌*◌, ℤ, pos, ◌+ℤ◌, ◌-ℤ◌}
use Rattle.std.specs.Int.{int_max, int_min}
use Rattle.civil_base.specs.Instants.{nanos_of}
use Rattle.zone_spans.specs.Schedules.{Schedule}
use Rattle.tz_lookup.specs.{Sets.{schedule_of}, declared.set.FixedTimespanSet.{FixedTimespanSet}, Stretches.{stretch_begin, stretch_end}}
use Rattle.tz_ever.specs.{Seam.{cycles_past}, Unrolled.{next_seam_second, seam_second}, declared.recurrence.Recurrence.{Recurrence}, declared.recurrence.Recurrence.TheVariants.{Never, Later, Always}}

-- where they begin in the cycle, so many cycles past it: the cycle itself goes on from the years before
abbrev pub begin_in_cycle : ℕ → ℤ → ℤ
begin_in_cycle zero begin = begin
begin_in_cycle (suc cycles) begin = int_max begin seam_second

-- the same so many cycles of 12,622,780,800 seconds later
abbrev pub begin_past : Schedule → ℕ → ℤ → ℤ
begin_past zone cycles second =
    begin_in_cycle cycles (stretch_begin zone (second -ℤ pos (cycles * 12622780800))) +ℤ pos (cycles * 12622780800)

abbrev pub end_past : Schedule → ℕ → ℤ → ℤ
end_past zone cycles second =
    int_min (stretch_end zone (second -ℤ pos (cycles * 12622780800))) next_seam_second +ℤ pos (cycles * 12622780800)

-- the second from which is in force what is at a second, and the one up to which it is
unfoldable pub ever_begin : FixedTimespanSet → ℤ → ℤ
ever_begin set second = begin_past (schedule_of set) (cycles_past (nanos_of second)) second

unfoldable pub ever_end : FixedTimespanSet → ℤ → ℤ
ever_end set second = end_past (schedule_of set) (cycles_past (nanos_of second)) second

-- the same of a cycle that goes on from no years before
unfoldable pub cycle_begin : FixedTimespanSet → ℤ → ℤ
cycle_begin set second =
    let cycles = cycles_past (nanos_of second) in
    int_max (stretch_begin (schedule_of set) (second -ℤ pos (cycles * 12622780800))) seam_second +ℤ pos (cycles * 12622780800)

-- of a zone: where the changes come again always, those of 31 cycles later, moved
abbrev pub zone_begin : Recurrence → FixedTimespanSet → ℤ → ℤ
zone_begin Never set second = stretch_begin (schedule_of set) second
zone_begin Later set second = ever_begin set second
zone_begin Always set second = cycle_begin set (second +ℤ pos 391306204800) -ℤ pos 391306204800

abbrev pub zone_end : Recurrence → FixedTimespanSet → ℤ → ℤ
zone_end Never set second = stretch_end (schedule_of set) second
zone_end Later set second = ever_end set second
zone_end Always set second = ever_end set (second +ℤ pos 391306204800) -ℤ pos 391306204800
