-- The owned form of a line that is bounded is bounded.
use Rattle.std.{specs.Prelude.{IsTrue, true, ◌&&◌, Option, Some, None}, specs.Option.{option_map_or}, proofs.lemmas.Bool.{and_from, and_parts}}
use Rattle.zone_table.specs.{LineBounds.{are_small_seconds}, Days.{has_day_of_month}, Ends.{end_day, end_seconds}, Seconds.{seconds_of}, Values.{SavingValue, no_saving, one_off, multiple, InfoValue, RuleValue}, declared.change.ChangeTime.{ChangeTime}, Bounds.{is_bounded_rule, is_bounded_saving, is_bounded_info}, Owned.{owned_rule, owned_saving, owned_info}}
use Rattle.zone_table.specs.LineBounds as line

pub owned_rule-bounded : (rule : RuleValue) → IsTrue (line.is_bounded_rule rule) → IsTrue (is_bounded_rule (owned_rule rule))
owned_rule-bounded rule bounded = bounded

pub owned_info-bounded : (info : InfoValue) → IsTrue (line.is_bounded_info info) → IsTrue (is_bounded_info (owned_info info))
owned_info-bounded info bounded =
    let offset = are_small_seconds (seconds_of info.utc_offset) in
    let parts = and_parts (offset && line.is_bounded_saving info.saving) (option_map_or line.is_bounded_end info.time true) bounded in
    let amounts = and_parts offset (line.is_bounded_saving info.saving) parts.0 in
    and_from _ _ (and_from offset _ amounts.0 (saving info.saving amounts.1)) (end info.time parts.1)
  where
    saving : (s : SavingValue) → IsTrue (line.is_bounded_saving s) → IsTrue (is_bounded_saving (owned_saving s))
    saving no_saving held = held
    saving (one_off amount) held = held
    saving (multiple name) held = held

    end : (time : Option ChangeTime) → IsTrue (option_map_or line.is_bounded_end time true)
        → IsTrue (option_map_or (λ end. has_day_of_month (end_day end)) time true)
    end None held = held
    end (Some time) held = (and_parts (has_day_of_month (end_day time)) (are_small_seconds (end_seconds time)) held).0
