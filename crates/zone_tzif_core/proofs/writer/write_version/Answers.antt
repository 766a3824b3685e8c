-- The code's own values.
use Rattle.std.proofs.{Common.{◌≡◌, ℕ, ◌<◌, ℤ, pos, List, length, get_or, Result, Ok, Err, OnOk, IfOk, sym, subst, arith, ◌∙◌, ap}, lemmas.List.{get_or-map, length-map}, lemmas.Str.{IsUtf8-string_bytes}, lemmas.Result.{err_from_is_err_and}}
use Rattle.std.specs.Str.{IsUtf8}
use Rattle.zone_tzif_core.specs.{Shown.{shift_shown, shifts_shown, zone_shown}, Tzif.{IsValue, IsTzifBy, TimesFit, WritesBy, are_times}, Zones.{KindValue}, declared.values.TzifZone.{TzifZone}, declared.values.Version.{Version}}
use Rattle.zone_tzif_core.specs.declared.values.WriteFault.{WriteFault}
use Rattle.zone_tzif_core.proofs.CheckLemmas.{times_refuse, kinds_refuse}
use Rattle.zone_tzif_core.proofs.writer.write_version.Goals as goal

-- its texts are UTF-8
value_of_code : (zone : TzifZone) → TimesFit (zone_shown zone).rest → IsValue (zone_shown zone)
value_of_code zone fit = record {
  first_text = IsUtf8-string_bytes zone.first.name;
  texts = λ k d within.
      let long : length (shifts_shown zone.rest.items) ≡ length zone.rest.items = length-map _ _ in
      let inside : k < length zone.rest.items = omega (arith, long, within) in
      let read = get_or-map shift_shown zone.rest.items k (pos 0, zone.first) d inside in
      subst (λ (shift : ℤ × KindValue). IsUtf8 shift.1.name) (sym read) (IsUtf8-string_bytes (get_or zone.rest.items k (pos 0, zone.first)).1.name);
  times = fit;
  footer = IsUtf8-string_bytes zone.footer;
}

-- what is written is the file of a value
file_of_value : {V : Type 0} (v : Version) (bytes : V → List ℕ) (zone : TzifZone) (r : Result V WriteFault) → WritesBy v bytes (zone_shown zone) r
    → OnOk r (TimesFit (zone_shown zone).rest) → IfOk r (λ file. IsTzifBy v (bytes file) (zone_shown zone))
file_of_value v bytes zone (Ok file) writes fit = record {
  value = value_of_code zone fit;
  writable = sym writes.0;
  written = writes.1;
}
file_of_value v bytes zone (Err fault) writes fit = tt

pub returns-then-not-times : goal.returns-then-not-times
returns-then-not-times c = record {
  exact = times_refuse (zone_shown c.args.zone.now) (c.if-not-times.ensures ∙ ap (λ l. are_times (shifts_shown l)) c.as_slice.ensures.value);
  file = tt;
}

pub returns-in_err-kinds : goal.returns-in_err-kinds
returns-in_err-kinds c =
    let p = err_from_is_err_and c.from_residual.result c.from_residual.ensures.1 in
    let times = c.if-not-times.ensures ∙ ap (λ l. are_times (shifts_shown l)) c.as_slice.ensures.value in
    rw (p.1, p.2) (record { exact = kinds_refuse (zone_shown c.args.zone.now) c.in_err-kinds.field-0.0 (sym times) c.in_err-kinds.ensures; file = tt })

pub returns-clause-file : goal.returns-clause-file
returns-clause-file c = file_of_value c.args.version (λ file. file.items) c.args.zone.now c.write_kinds.result c.write_kinds.ensures.exact c.write_kinds.ensures.range
