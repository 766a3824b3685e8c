-- Worked examples: which names POSIX has a place for.
use Rattle.std.{proofs.Common.{◌≡◌, true, false, refl, [], ◌∷◌, map}, specs.Prelude.{List, ℕ, Option, Some, None, codes}}
use Rattle.tz_posix.specs.{declared.date.Date.TheVariants.{M}, declared.time.Time.{Time}, Values.{TzValue, expanded}}
use Rattle.sefunjaro.specs.PosixNames.{has_posix_names, is_posix_string}

abbrev named : List ℕ → List ℕ → TzValue
named standard saving =
    expanded (record { name = standard; offset = record { positive = true; time = record { hh = 5; mm = None; ss = None } } })
    (Some (record { name = saving; offset = None; rule = None }))

-- both names count
both_names : map has_posix_names (named (codes "EST") (codes "EDT") ∷ named (codes "EST") (codes "ED") ∷ named (codes "E") (codes "EDT") ∷ [])
    ≡ true ∷ false ∷ false ∷ []
both_names = refl

abbrev with_time : Option Time → TzValue
with_time time =
    expanded (record { name = codes "EST"; offset = record { positive = true; time = record { hh = 5; mm = None; ss = None } } })
    (Some (record { name = codes "EDT"; offset = None; rule = Some (record { start = (M 3 2 0, time); end = (M 11 1 0, None) }) }))

abbrev hours : ℕ → Option Time
hours n = Some (record { hh = n; mm = None; ss = None })

-- 24 hours are POSIX's most
times : map is_posix_string (with_time None ∷ with_time (hours 24) ∷ with_time (hours 25) ∷ named (codes "E") (codes "EDT") ∷ [])
    ≡ true ∷ true ∷ false ∷ false ∷ []
times = refl
