-- The laws that std asks of an equality, an order and a hash, for buffers of text.
use Rattle.std.{specs.Prelude.{◌≡◌, ℕ, List, IsTrue}, specs.Cmp.{IsEquivalence, IsPartialEquivalence, IsTotalOrder, partial_equiv_from_equiv}, specs.Cmp.Lexicographic.{nat_list_eq_equiv, nat_list_cmp_total}, specs.Cmp.Rules.{hashing}, proofs.Common.{rules}}
use Rattle.std.specs.Hash as fed
use Rattle.pad_fmt.specs.Buffer.{are_same_bytes, cmp_by_bytes}

pub same_bytes_equivalence : IsEquivalence are_same_bytes
same_bytes_equivalence = nat_list_eq_equiv

pub same_bytes_partial_equivalence : IsPartialEquivalence are_same_bytes
same_bytes_partial_equivalence = partial_equiv_from_equiv same_bytes_equivalence

pub bytes_total_order : IsTotalOrder cmp_by_bytes
bytes_total_order = nat_list_cmp_total

pub same_bytes_same_hash : (text other : List ℕ) → IsTrue (are_same_bytes text other) → fed.str text ≡ fed.str other
same_bytes_same_hash text other same = search (hashing, rules)
