-- The texts of a set's zone are UTF-8, and its times have 64 bits.
use Rattle.std.proofs.{Common.{◌≡◌, ℕ, ◌<◌, ℤ, pos, List, length, map, get_or, FitsSigned, sym, ap, subst, arith}, lemmas.Int.{ints}, lemmas.List.{get_or-map, length-map}, lemmas.List.Elements.{All-get_or}, lemmas.Str.{IsUtf8-string_bytes}}
use Rattle.std.specs.{Int.{w64}, Str.{IsUtf8}}
use Rattle.zone_spans.specs.Entries.{Entry}
use Rattle.tz_lookup.specs.{Sets.{shift_of, shifts_of, IsSpanTime, AreSpanTimes}, Spans.{Shift}, declared.set.FixedTimespanSet.{FixedTimespanSet}}
use Rattle.zone_tzif_core.specs.{Shown.{shift_shown, shifts_shown, zone_shown}, Tzif.{IsValue}, Zones.{KindValue}, declared.values.TzifZone.{TzifZone}}
use Rattle.zone_tzif.specs.{Values.{change_by, value_by}, declared.convert.Saves.{Saves}}

span_time_fits : (x : ℤ) → IsSpanTime x → FitsSigned w64 x
span_time_fits x is = grind (arith, ints, is.0, is.1)

time_fits : (saves : Saves) (entries : List Entry) (start : Entry) (k : ℕ) (d : ℤ × KindValue) → k < length (map (change_by saves) entries) → AreSpanTimes (map shift_of entries) → FitsSigned w64 (get_or (map (change_by saves) entries) k d).0
time_fits saves entries start k d within bound =
    let changes : length (map (change_by saves) entries) ≡ length entries = length-map _ _ in
    let shifts : length (map shift_of entries) ≡ length entries = length-map _ _ in
    let inside : k < length entries = omega (arith, changes, within) in
    let is = All-get_or (λ (s : Shift). IsSpanTime s.0) (map shift_of entries) k (shift_of start) (omega (arith, shifts, inside)) bound in
    let time = subst (λ (s : Shift). IsSpanTime s.0) (get_or-map shift_of entries k start (shift_of start) inside) is in
    subst (λ (c : ℤ × KindValue). FitsSigned w64 c.0) (sym (get_or-map (change_by saves) entries k start d inside)) (span_time_fits (get_or entries k start).0 time)

pub value_is : (saves : Saves) (set : FixedTimespanSet) (footer : List ℕ) (zone : TzifZone) → AreSpanTimes (shifts_of set) → zone_shown zone ≡ value_by saves set footer → IsValue (zone_shown zone)
unfolding value_by
value_is saves set footer zone bound is = record {
  first_text = IsUtf8-string_bytes zone.first.name;
  texts = λ k d within.
      let long : length (shifts_shown zone.rest.items) ≡ length zone.rest.items = length-map _ _ in
      let inside : k < length zone.rest.items = omega (arith, long, within) in
      let read = get_or-map shift_shown zone.rest.items k (pos 0, zone.first) d inside in
      subst (λ (shift : ℤ × KindValue). IsUtf8 shift.1.name) (sym read) (IsUtf8-string_bytes (get_or zone.rest.items k (pos 0, zone.first)).1.name);
  times = λ k d within.
      let rest : shifts_shown zone.rest.items ≡ map (change_by saves) set.others = ap (λ z. z.rest) is in
      subst (λ l. FitsSigned w64 (get_or l k d).0) (sym rest) (time_fits saves set.others (pos 0, set.first) k d (subst (λ l. k < length l) rest within) bound);
  footer = IsUtf8-string_bytes zone.footer;
}
