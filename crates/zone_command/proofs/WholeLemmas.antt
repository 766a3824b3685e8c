-- What is given of a zone that goes on.
use Rattle.std.{proofs.Common.{◌≡◌, ℕ, List, Some, Ok, Err, inr}, specs.Prelude.{Result, Vec}, specs.declared.alloc.Global.{Global}}
use Rattle.tz_lookup.specs.declared.set.FixedTimespanSet.{FixedTimespanSet}
use Rattle.zone_command.specs.{Answers.{Answer, IsGiven}, declared.source.Refusal.{Refusal}, declared.source.Refusal.TheVariants.{Why, NoMemory}, Views.{ever_found}, Wholes.{IsWhole}}
use Rattle.zone_table.specs.declared.table.Table.{Table}

pub given : (Says : FixedTimespanSet → Answer → Type 0) (table : Table) (name : List ℕ) (set : FixedTimespanSet) (r : Result (Vec ℕ Global) Refusal)
    → ever_found table name ≡ Some set → IsGiven (Says set) r → IsGiven (IsWhole Says table name) r
given Says table name set (Ok text) goes says = inr (inr (record { set = set; goes_on = goes; says = says }))
given Says table name set (Err (Why words)) goes says = inr (inr (record { set = set; goes_on = goes; says = says }))
given Says table name set (Err NoMemory) goes says = record {}
