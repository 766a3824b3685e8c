-- A release that a text names is something.
use Rattle.std.{proofs.Common.{◌≡◌, ℕ, ◌<◌, List, false, cond, length, Some, None, sym, ap, ◌∙◌, arith}, specs.Prelude.{◌==◌}, proofs.lemmas.Bool.Decides.{nat_tests}}
use Rattle.zone_source.specs.{ReleaseLaws.{release_line}, Releases.{release_of}}
use Rattle.sefunjaro.specs.Releases.{if_some}

not_none : (text : List ℕ) → 0 < length text → (length text == 0) ≡ false
not_none text some = grind (arith, nat_tests)

pub is_some : (source release : List ℕ) → Some release ≡ release_of source → if_some release ≡ release_of source
is_some source release named =
    ap (λ b. cond b None (Some release)) (not_none release (release_line source release (sym named)).some) ∙ named
