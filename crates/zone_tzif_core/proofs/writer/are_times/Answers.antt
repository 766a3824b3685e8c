use Rattle.std.proofs.{Common.{◌≡◌, ◌∙◌, ◌&&◌, ap, sym, nat_le, length, ℤ}, lemmas.Simd.{map-map}, lemmas.List.{length-map}}
use Rattle.zone_tzif_core.specs.{Shown.{shift_shown, shifts_shown}, Tzif.{are_times}, Zones.{KindValue, go_up, rises}}
use Rattle.zone_tzif_core.proofs.writer.are_times.Goals as goal

pub returns : goal.returns
unfolding are_times
returns c =
    let shifts = c.args.shifts.now in
    let long : length (shifts_shown shifts) ≡ length shifts = length-map _ _ in
    ap (λ b. b && nat_le (length shifts) 4294967295) (c.do_rise-rises.ensures ∙ ap go_up (sym (map-map (λ (shift : ℤ × KindValue). shift.0) shift_shown shifts)))
    ∙ ap (λ n. rises (shifts_shown shifts) && nat_le n 4294967295) (sym long)
