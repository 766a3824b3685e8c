use Rattle.std.proofs.{Common.{arith, ◌≡◌, ℕ, ap, sym, ◌∙◌}, Common.{drop, get_or}, lemmas.Bool.{and_parts, false≢true}}
use Rattle.civil_base.specs.{Clock.{hour_of, minute_of, second_of, nanosecond_of, time_at, IsClockTime}, Layout.{time_text}, ClockLaws.{clock_parts, time_at-parts}}
use Rattle.civil_base.proofs.{FoundLemmas.{result_ok-found}, ReadLemmas.{byte-is, time-listed, ok_gives}}
use Rattle.civil_base.proofs.read.parse_time.Goals as goal

pub returns-then-marked-clause-found : goal.returns-then-marked-clause-found
unfolding time_text
returns-then-marked-clause-found c = λ t within text.
    let clock = clock_parts t within in
    let hour = c.two-hour.ensures.value (hour_of t) (omega arith) (ap (λ l. get_or l 1 0) text) (ap (λ l. get_or l 2 0) text) in
    let minute = c.two-minute.ensures.value (minute_of t) (omega arith) (ap (λ l. get_or l 4 0) text) (ap (λ l. get_or l 5 0) text) in
    let second = c.two-second.ensures.value (second_of t) (omega arith) (ap (λ l. get_or l 7 0) text) (ap (λ l. get_or l 8 0) text) in
    let nano = c.nine-nano.ensures.value (nanosecond_of t) (omega arith) (c.split_at.ensures.back ∙ ap (drop 10) text) in
    let made = rw (hour, minute, second, nano) at c.from_hms_nano.ensures in
    c.ok.ensures.value ∙ result_ok-found c.from_hms_nano.result t (made.accepts.1 clock) (simp (time_at-parts t) at made.value)

record AreParts (t h m s n : ℕ) : Type 0 where
  hours : hour_of t ≡ h
  minutes : minute_of t ≡ m
  seconds : second_of t ≡ s
  nanoseconds : nanosecond_of t ≡ n

are_parts : (t h m s n : ℕ) → IsClockTime h m s n → t ≡ time_at h m s n → AreParts t h m s n
unfolding hour_of minute_of second_of nanosecond_of time_at
are_parts t h m s n clock is = record {
  hours = omega arith;
  minutes = omega arith;
  seconds = omega arith;
  nanoseconds = omega arith;
}

pub returns-then-marked-clause-spelled : goal.returns-then-marked-clause-spelled
unfolding time_text
returns-then-marked-clause-spelled c =
    let three = and_parts _ _ c.if-marked.true in
    let two = and_parts _ _ three.0 in
    let one = and_parts _ _ two.0 in
    rw c.ok.ensures.value (ok_gives c.from_hms_nano.result c.from_hms_nano.ensures.accepts.0 c.from_hms_nano.ensures.value (λ t clock is.
    let parts = are_parts t c.two-hour.result c.two-minute.result c.two-second.result c.nine-nano.result clock is in
    let hour = c.two-hour.ensures.spelled (omega arith) in
    let minute = c.two-minute.ensures.spelled (omega arith) in
    let second = c.two-second.ensures.spelled (omega arith) in
    let nano = c.nine-nano.ensures.spelled clock.nanoseconds in
    rw (parts.hours, parts.minutes, parts.seconds, parts.nanoseconds) (time-listed c.args.bytes.now c.two-hour.result c.two-minute.result
    c.two-second.result c.nine-nano.result c.requires (byte-is _ _ one.0) hour.0 hour.1 (byte-is _ _ one.1) minute.0 minute.1
    (byte-is _ _ two.1) second.0 second.1 (byte-is _ _ three.1) (sym c.split_at.ensures.back ∙ nano))))

pub returns-else-marked-clause-found : goal.returns-else-marked-clause-found
unfolding time_text
returns-else-marked-clause-found c = λ t within text.
    let no = rw text at c.if-marked.false in
    absurd (false≢true (sym no))
