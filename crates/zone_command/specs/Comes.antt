-- What the code's results come to.
use Rattle.std.specs.{Prelude.{◌≡◌, ℕ, Result, Ok, Err, Vec}, declared.alloc.Global.{Global}}
use Rattle.zone_outside.specs.Exchanges.{ExchangeSeen}
use Rattle.zone_words.specs.{Filters.{Made}, Runs.{Ends}, declared.running.StreamEnd.{StreamEnd}}
use Rattle.zone_command.specs.{Ends.{Outcome, answered, served, failed}, FailureShown.{failure_shown}, declared.failure.Failure.{Failure}, declared.find.Found.{Found}, declared.find.Found.TheVariants.{Text, Input}}

-- an outcome that this says, and what it did to the exchange
abbrev pub Comes : (Outcome → Type 0) → ExchangeSeen → ExchangeSeen → Result Found Failure → Type 0
Comes cause before now (Ok (Text bytes)) = cause (answered bytes.items) × (now ≡ before)
Comes cause before now (Ok (Input end)) = (made : Made) × cause (served made end) × Ends made before now end
Comes cause before now (Err failure) = cause (failed (failure_shown failure)) × (now ≡ before)

-- the same of answers alone, and of a run over the exchange alone
abbrev pub ComesTo : (Outcome → Type 0) → Result (Vec ℕ Global) Failure → Type 0
ComesTo cause (Ok bytes) = cause (answered bytes.items)
ComesTo cause (Err failure) = cause (failed (failure_shown failure))

abbrev pub ComesBy : (Outcome → Type 0) → ExchangeSeen → ExchangeSeen → Result StreamEnd Failure → Type 0
ComesBy cause before now (Ok end) = (made : Made) × cause (served made end) × Ends made before now end
ComesBy cause before now (Err failure) = cause (failed (failure_shown failure)) × (now ≡ before)
