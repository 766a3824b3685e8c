-- Rules in three fronts, one for each mark, each in order of local second, and where those tie of place.
use Rattle.std.specs.Prelude.{Bool, true, false, not, ◌&&◌, ◌||◌, List, [], ◌∷◌, ◌++◌, filter, cond, Option, Some, None, ℤ, int_lt, nat_lt}
use Rattle.basics.specs.Sorted.{stable_sort}
use Rattle.zone_table.specs.declared.{time.TimeType.{TimeType}, time.TimeType.TheVariants.{Wall, Standard, UTC}, change.ChangeTime.{ChangeTime}}
use Rattle.zone_spans.specs.{Firings.{Firing, is_over}, Placed.{Placed, time_of}, declared.front.YearRules.{YearRules}}

abbrev pub same_mark : TimeType → TimeType → Bool
same_mark Wall Wall = true
same_mark Standard Standard = true
same_mark UTC UTC = true
same_mark _ _ = false

abbrev pub has_mark : TimeType → Placed → Bool
has_mark mark p = same_mark mark p.rule.time_type

-- the rules by their marks
abbrev pub by_mark : List Placed → YearRules
by_mark ps = record { wall = filter (has_mark Wall) ps; standard = filter (has_mark Standard) ps; utc = filter (has_mark UTC) ps }

-- with one more
abbrev pub with_placed : Placed → YearRules → YearRules
with_placed p rules = record {
  wall = cond (has_mark Wall p) (rules.wall ++ p ∷ []) rules.wall;
  standard = cond (has_mark Standard p) (rules.standard ++ p ∷ []) rules.standard;
  utc = cond (has_mark UTC p) (rules.utc ++ p ∷ []) rules.utc;
}

abbrev pub is_below : Placed → Placed → Bool
is_below a b = int_lt a.local b.local

abbrev pub in_order : YearRules → YearRules
in_order rules = record {
  wall = stable_sort is_below rules.wall;
  standard = stable_sort is_below rules.standard;
  utc = stable_sort is_below rules.utc;
}

abbrev pub fronts_of : List Placed → YearRules
fronts_of ps = in_order (by_mark ps)

-- in order of moment, and where two fire at once of place
abbrev pub fires_sooner : ℤ → ℤ → Placed → Placed → Bool
fires_sooner offset saving a b =
    let s = time_of offset saving a in
    let t = time_of offset saving b in
    int_lt s t || (not (int_lt t s) && nat_lt a.place b.place)

abbrev pub sooner : ℤ → ℤ → Option Placed → Option Placed → Option Placed
sooner offset saving a None = a
sooner offset saving None (Some b) = Some b
sooner offset saving (Some a) (Some b) = cond (fires_sooner offset saving b a) (Some b) (Some a)

abbrev pub head_of : List Placed → Option Placed
head_of [] = None
head_of (p ∷ ps) = Some p

abbrev pub tail_of : List Placed → List Placed
tail_of [] = []
tail_of (p ∷ ps) = ps

-- the first of three fronts
abbrev pub first_of : ℤ → ℤ → YearRules → Option Placed
first_of offset saving fronts =
    sooner offset saving (head_of fronts.wall) (sooner offset saving (head_of fronts.standard) (head_of fronts.utc))

-- what is left of them where a rule of that mark fires
abbrev pub left : TimeType → YearRules → YearRules
left mark fronts = record {
  wall = cond (same_mark Wall mark) (tail_of fronts.wall) fronts.wall;
  standard = cond (same_mark Standard mark) (tail_of fronts.standard) fronts.standard;
  utc = cond (same_mark UTC mark) (tail_of fronts.utc) fronts.utc;
}

-- what fires next from them, unless it is over by then
abbrev pub firing_of : Option ChangeTime → ℤ → ℤ → Option Placed → Option Firing
firing_of end offset saving None = None
firing_of end offset saving (Some p) =
    let time = time_of offset saving p in
    cond (is_over end offset saving time) None (Some (record { time = time; rule = p.rule }))

abbrev pub next_firing : Option ChangeTime → ℤ → ℤ → YearRules → Option Firing
next_firing end offset saving fronts = firing_of end offset saving (first_of offset saving fronts)
