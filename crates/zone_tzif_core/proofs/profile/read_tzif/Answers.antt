-- The one spelling of a value.
use Rattle.std.proofs.{Common.{ℕ, List, Err, subst, Ok}, lemmas.Result.{err_from_is_err_and}}
use Rattle.zone_tzif_core.specs.{Denotes.{Denotes}, Profile.{Compares, ReadsWritten}, Shown.{Reads, zone_shown}, Tzif.{IsTzif}, Zones.{ZoneValue}, declared.values.ReadFault.{ReadFault}, declared.values.ReadFault.TheVariants.{Refused, NoMemory}}
use Rattle.zone_tzif_core.proofs.{ExactLemmas.{one_reading}, WrittenLemmas.{written_denotes}}
use Rattle.zone_tzif_core.proofs.profile.read_tzif.Goals as goal

-- where nothing is denoted, nothing is written
read_refused : (bytes : List ℕ) (fault : ReadFault) → Reads (Denotes bytes) (Err fault) → ReadsWritten bytes (Err fault)
read_refused bytes Refused none = λ zone is. none zone (written_denotes bytes zone is)
read_refused bytes NoMemory some = some

-- what is written for another value is another file
other_file : (bytes : List ℕ) (zone : ZoneValue) → Denotes bytes zone → ¬ (IsTzif bytes zone) → (other : ZoneValue) → ¬ (IsTzif bytes other)
other_file bytes zone denoted differs other is =
    differs (subst (IsTzif bytes) (one_reading bytes other zone (written_denotes bytes other is) denoted) is)

-- what can't be compared was read
not_compared : (bytes : List ℕ) (zone : ZoneValue) (fault : ReadFault) → Denotes bytes zone → Compares bytes zone (Err fault) → ReadsWritten bytes (Err fault)
not_compared bytes zone Refused denoted none = absurd none
not_compared bytes zone NoMemory denoted none = (zone, denoted)

pub returns-in_err-zone : goal.returns-in_err-zone
returns-in_err-zone c =
    let p = err_from_is_err_and c.from_residual.result c.from_residual.ensures.1 in
    rw (p.1, p.2) (record { exact = read_refused c.args.bytes.now c.in_err-zone.field-0.0 c.in_err-zone.ensures.exact })

pub returns-in_err-same : goal.returns-in_err-same
returns-in_err-same c =
    let p = err_from_is_err_and c.from_residual-in_err-same.result c.from_residual-in_err-same.ensures.1 in
    rw (p.1, p.2) (record { exact = not_compared c.args.bytes.now (zone_shown c.in_ok-zone.zone) c.in_err-same.field-0.0 c.in_ok-zone.ensures.exact c.in_err-same.ensures })

pub returns-then-same : goal.returns-then-same
returns-then-same c = record {
  exact = subst (λ same. Compares c.args.bytes.now (zone_shown c.in_ok-zone.zone) (Ok same)) c.if-same.true c.in_ok-same.ensures;
}

pub returns-else-same : goal.returns-else-same
returns-else-same c =
    let differs = subst (λ same. Compares c.args.bytes.now (zone_shown c.in_ok-zone.zone) (Ok same)) c.if-same.false c.in_ok-same.ensures in
    record { exact = other_file c.args.bytes.now (zone_shown c.in_ok-zone.zone) c.in_ok-zone.ensures.exact differs }
