use Rattle.std.proofs.{Common.{◌≡◌, cond, None, Ok, Some, refl, subst, sym, ap, ◌∙◌}, lemmas.Option.{IfSome_then}, lemmas.Result.{err_from_is_err_and}}
use Rattle.std.specs.Str.{is_utf8}
use Rattle.zone_answers.specs.{Asked.{asked}, AskedLaws.{asks}, Faults.{range}, Found.{found_in_table}, Opened.{table_of}, Requests.{name_of, request_of}}
use Rattle.zone_answers.proofs.{ReadBackLemmas.{line_back}, RefusalLemmas.{not_text_refused, bad_request_refused, refusal_is, dates_are, line_is, zone_refused}, ZoneLemmas.{placed_there, placed_within}}
use Rattle.zone_answers.proofs.answering.answer.Goals as goal

pub returns-in_default-clause-err : goal.returns-in_default-clause-err
returns-in_default-clause-err g c = not_text_refused _ c.args.number c.args.line.now c.in_default.ensures.none

pub returns-in_default-read-clause-err : goal.returns-in_default-read-clause-err
returns-in_default-read-clause-err g c =
    let text = c.in-Some.ensures.text in
    bad_request_refused _ c.args.number c.args.line.now c.in-Some.asked.now text.1 text.0 c.in_default-read.ensures.read

pub returns-in_err-place-clause-err : goal.returns-in_err-place-clause-err
returns-in_err-place-clause-err g c =
    let text = c.in-Some.ensures.text in
    let request = c.in-Some-read.spelled.request in
    let reads = asks request_of c.args.line.now c.in-Some.asked.now (asked request) text.1 text.0 c.in-Some-read.ensures.read in
    let error = err_from_is_err_and c.from_residual-in_err-place.result c.from_residual-in_err-place.ensures.1 in
    rw (refusal_is (found_in_table g.Z.OpenedZone.read (table_of c.args.zones.now)) c.args.number c.args.line.now (asked request) reads, ← c.name.ensures, error.1, error.2)
    (zone_refused _ c.args.number (asked request) _ c.in_err-place.ensures.err)

pub zone_at-zone-requires : goal.zone_at-zone-requires
zone_at-zone-requires g c = placed_within _ c.place_of.new.self.opened c.in_ok-place.place c.in_ok-place.ensures.placed

pub returns-clause-accepted : goal.returns-clause-accepted
returns-clause-accepted g c =
    let text = c.in-Some.ensures.text in
    let request = c.in-Some-read.spelled.request in
    let reads = asks request_of c.args.line.now c.in-Some.asked.now (asked request) text.1 text.0 c.in-Some-read.ensures.read in
    let there = placed_there _ c.place_of.new.self.opened c.in_ok-place.place _ c.zone_at-zone.ensures c.in_ok-place.ensures.placed in
    let found = rw c.name.ensures at there in
    dates_are (found_in_table g.Z.OpenedZone.read (table_of c.args.zones.now)) c.args.number c.args.line.now (asked request) _
    reads found ∙ ap (λ b. cond b None (Some (range c.args.number))) c.in_ok-show_line.ensures.dates

pub returns-clause-text : goal.returns-clause-text
returns-clause-text g c =
    let text = c.in-Some.ensures.text in
    let request = c.in-Some-read.spelled.request in
    let reads = asks request_of c.args.line.now c.in-Some.asked.now (asked request) text.1 text.0 c.in-Some-read.ensures.read in
    let there = placed_there _ c.place_of.new.self.opened c.in_ok-place.place _ c.zone_at-zone.ensures c.in_ok-place.ensures.placed in
    let found = rw c.name.ensures at there in
    c.in_ok-show_line.ensures.text ∙ sym (line_is (found_in_table g.Z.OpenedZone.read (table_of c.args.zones.now)) c.args.line.now (asked request) _ reads found)

pub returns-clause-read_back : goal.returns-clause-read_back
returns-clause-read_back g c =
    let text = c.in-Some.ensures.text in
    let request = c.in-Some-read.spelled.request in
    let reads = asks request_of c.args.line.now c.in-Some.asked.now (asked request) text.1 text.0 c.in-Some-read.ensures.read in
    let there = placed_there _ c.place_of.new.self.opened c.in_ok-place.place _ c.zone_at-zone.ensures c.in_ok-place.ensures.placed in
    let found = rw c.name.ensures at there in
    line_back (found_in_table g.Z.OpenedZone.read (table_of c.args.zones.now)) c.args.line.now (asked request) _ reads found
    c.show_line.ensures.range c.in_ok-show_line.ensures.dates

pub returns-in_err-show_line-clause-err : goal.returns-in_err-show_line-clause-err
returns-in_err-show_line-clause-err g c =
    let text = c.in-Some.ensures.text in
    let request = c.in-Some-read.spelled.request in
    let reads = asks request_of c.args.line.now c.in-Some.asked.now (asked request) text.1 text.0 c.in-Some-read.ensures.read in
    let there = placed_there _ c.place_of.new.self.opened c.in_ok-place.place _ c.zone_at-zone.ensures c.in_ok-place.ensures.placed in
    let found = rw c.name.ensures at there in
    let error = err_from_is_err_and c.from_residual-in_err-show_line.result c.from_residual-in_err-show_line.ensures.1 in
    rw (dates_are (found_in_table g.Z.OpenedZone.read (table_of c.args.zones.now)) c.args.number c.args.line.now (asked request) _ reads found, error.1, error.2) c.in_err-show_line.ensures.err

-- what is kept of the day, where the line was shown
pub keep-requires-clause-day : goal.keep-requires-clause-day
keep-requires-clause-day g c =
    let request = c.in-Some-read.spelled.request in
    let there = placed_there _ c.place_of.new.self.opened c.in_ok-place.place _ c.zone_at-zone.ensures c.in_ok-place.ensures.placed in
    let found = rw c.name.ensures at there in
    let read = g.Z.OpenedZone.read in
    let text = c.in-Some.ensures.text in
    let asks = asks request_of c.in-Some.asked.now c.in-Some.asked.now (asked request) (ap is_utf8 text.0 ∙ text.1) refl c.in-Some-read.ensures.read in
    IfSome_then c.of-day.result c.of-day.ensures.day (λ day law.
    law (found_in_table read (table_of c.place_of.new.self)) asks
    (subst (λ table. found_in_table read table (name_of (asked request)) ≡ Ok (g.Z.OpenedZone.total_at c.zone_at-zone.result.now)) (sym c.in_ok-place.ensures.same) found)
    (c.deref.ensures.value ∙ c.in_ok-show_line.ensures.text) c.show_line.ensures.range)
