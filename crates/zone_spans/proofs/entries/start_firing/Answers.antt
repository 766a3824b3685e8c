use Rattle.std.{proofs.Common.{◌≡◌, ◌<◌, true, None, length, nat_lt, if◌then◌else◌, sym, subst, ap, lt-ltb, find, reverse, int_lt, int_eq, pos}, specs.List.{position_or_len}, specs.Option.{option_or}}
use Rattle.zone_spans.specs.Listing.{is_at, start_firing}
use Rattle.zone_spans.proofs.entries.start_firing.Goals as goal

pub returns-then-place-fired : goal.returns-then-place-fired
unfolding start_firing
returns-then-place-fired c =
    let fs = c.args.fired.now in
    let test : nat_lt (position_or_len (is_at c.args.start) fs) (length fs) ≡ true =
    lt-ltb _ _ (subst (λ k. k < length fs) c.requires c.if-place-fired.true) in
    sym (ap (λ b. if b then None else option_or (find (λ f. int_lt f.time c.args.start) (reverse fs))
    (find (λ f. int_eq f.rule.time_to_add (pos 0)) fs)) test)
