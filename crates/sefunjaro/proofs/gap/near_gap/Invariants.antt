use Rattle.sefunjaro.proofs.gap.near_gap.Given as goal

-- whatever was looked at, a change is told only where it is seen to be the one
abbrev pub invariant-loop-place : goal.invariant-loop-place
invariant-loop-place l = Unit {0}
