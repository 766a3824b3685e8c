use Rattle.std.proofs.{Common.{◌≡◌, ◌++◌, refl, append_assoc, replicate}, lemmas.Result.{on_ok_weaker}}
use Rattle.zone_tzif_core.specs.{Numbers.{count_bytes}, Tzif.{header_bytes}}
use Rattle.zone_tzif_core.proofs.write.put_header.Goals as goal

-- what is reserved, and three counts of zero
zeros : replicate 27 0 ≡ replicate 15 0 ++ count_bytes 0 ++ count_bytes 0 ++ count_bytes 0
unfolding count_bytes
zeros = refl

pub returns : goal.returns
unfolding header_bytes
returns c =
    let put : c.put_count-3.new.into.items ≡ c.put_count-2.new.into.items ++ count_bytes c.args.chars
    → c.put_count-3.new.into.items ≡ c.args.into.now.items ++ header_bytes c.args.version c.args.times c.args.kinds c.args.chars = λ last.
    rw (last, c.in_ok-put_count-2.ensures, c.in_ok-put_count.ensures, c.in_ok-extend_from_slice-2.ensures.items, zeros, c.in_ok-push.ensures.items, c.byte.ensures, c.in_ok-extend_from_slice.ensures.items, c.as_slice.ensures)
    (simp append_assoc refl) in
    on_ok_weaker c.put_count-3.result put c.put_count-3.ensures
