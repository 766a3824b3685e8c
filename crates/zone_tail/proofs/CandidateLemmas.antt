-- What is asked of a candidate, of each kind.
use Rattle.std.proofs.Common.{◌≡◌, ◌↔◌, ℤ, pos, ◌≤ℤ◌, ◌<ℤ◌, sym, subst}
use Rattle.zone_tail.specs.{Candidates.{total_by, IsFixed}, Rules.{rule_total}, declared.candidate.Candidate.{Candidate}, declared.candidate.Candidate.TheVariants.{Fixed, Ruled}, declared.rule.YearlyRule.{YearlyRule}}

pub fixed_at : (P : Type 0) (fixed total : ℤ) → P ↔ (fixed ≡ total) → (candidate : Candidate) → candidate ≡ Fixed fixed
    → P ↔ (IsFixed candidate × ((s : ℤ) → total_by candidate s ≡ total))
fixed_at P fixed total says candidate is =
    subst (λ v. P ↔ (IsFixed v × ((s : ℤ) → total_by v s ≡ total))) (sym is)
    ((λ p. (tt, λ s. says.0 p)), (λ h. says.1 (h.1 (pos 0))))

pub ruled_constant : (P : Type 0) (rule : YearlyRule) (low high total : ℤ) → P ↔ ((s : ℤ) → low ≤ℤ s → s <ℤ high → rule_total rule s ≡ total)
    → (candidate : Candidate) → candidate ≡ Ruled rule → P ↔ ((s : ℤ) → low ≤ℤ s → s <ℤ high → total_by candidate s ≡ total)
ruled_constant P rule low high total says candidate is =
    subst (λ v. P ↔ ((s : ℤ) → low ≤ℤ s → s <ℤ high → total_by v s ≡ total)) (sym is) says
