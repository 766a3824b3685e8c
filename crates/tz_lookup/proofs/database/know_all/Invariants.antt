use Rattle.std.{proofs.Common.{◌≡◌, ◌++◌, true, map}, specs.List.{list_all}}
use Rattle.tz_lookup.specs.Databases.{found_as, found_in, first_refused, name_shown, resolves, zone_refusal}
use Rattle.tz_lookup.proofs.database.know_all.Given as goal

-- the zones so far and what the names left find make the whole; the first that is refused is left
abbrev pub invariant-loop-name : goal.invariant-loop-name
invariant-loop-name l = record {
  found : list_all (resolves l.table) (map name_shown l.name-iterator) ≡ true;
  whole :
      map (λ known. found_as known.set) l.zones ++ map (found_in l.table) (map name_shown l.name-iterator)
      ≡ map (found_in l.table) (map name_shown l.names.keys);
  refused :
      first_refused (zone_refusal l.table) (map name_shown l.name-iterator)
      ≡ first_refused (zone_refusal l.table) (map name_shown l.names.keys);
}
