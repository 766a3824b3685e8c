-- Small numbers, as tests and as bounds.
use Rattle.std.{proofs.Common.{Bool, true, false, ◌&&◌, List, ℤ, All, refl, arith, IsTrue}, proofs.lemmas.Grind.{common_steps}, proofs.lemmas.List.Sums.{AllPass-from_list_all, list_all-from_AllPass}, specs.List.{list_all}}
use Rattle.zone_spans.specs.{Bounds.{is_small, is_bounded_entry, IsSmall, IsSmallEntry}, Entries.{Entry}}

pub both : (a b : Bool) → IsTrue a → IsTrue b → IsTrue (a && b)
both true b p q = q
both false b p q = cc

pub first : (a b : Bool) → IsTrue (a && b) → IsTrue a
first true b p = refl
first false b p = p

pub second : (a b : Bool) → IsTrue (a && b) → IsTrue b
second true b p = p
second false b p = cc

pub small_of : (z : ℤ) → IsTrue (is_small z) → IsSmall z
small_of z small = (grind (arith, common_steps), grind (arith, common_steps))

pub is_small_of : (z : ℤ) → IsSmall z → IsTrue (is_small z)
is_small_of z small = grind (arith, common_steps)

pub small_entry : (e : Entry) → IsTrue (is_bounded_entry e) → IsSmallEntry e
small_entry e small =
    let span = second (is_small e.0) _ small in
    record {
      time = small_of e.0 (first (is_small e.0) _ small);
      utc = small_of e.1.utc_offset (first (is_small e.1.utc_offset) _ span);
      dst = small_of e.1.dst_offset (second (is_small e.1.utc_offset) _ span);
    }

pub bounded_entry : (e : Entry) → IsSmallEntry e → IsTrue (is_bounded_entry e)
bounded_entry e small =
    both (is_small e.0) _ (is_small_of e.0 small.time)
    (both (is_small e.1.utc_offset) _ (is_small_of e.1.utc_offset small.utc) (is_small_of e.1.dst_offset small.dst))

pub small_entries : (es : List Entry) → IsTrue (list_all is_bounded_entry es) → All IsSmallEntry es
small_entries es bounded k d l = small_entry _ (AllPass-from_list_all is_bounded_entry es bounded k d l)

pub bounded_entries : (es : List Entry) → All IsSmallEntry es → IsTrue (list_all is_bounded_entry es)
bounded_entries es small = list_all-from_AllPass is_bounded_entry es (λ k d l. bounded_entry _ (small k d l))
