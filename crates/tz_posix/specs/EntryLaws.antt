-- The reading of a text is the value that it spells.
use Rattle.std.proofs.{Common.{◌≡◌, ℕ, List, Option, Some, None, option_map, MatchOption, sym, ◌∙◌}, lemmas.Option.{same_Some, none-some}}
use Rattle.tz_posix.specs.{AgainLaws.{entry_again}, FoundLaws.{entry_found}, Reading.{AreRead, entry_in}, Shown.{tz_shown}, Spells.{SpellsIn, TimeRange}, Values.{Value}, declared.values.Rule.{Rule}, declared.values.Tz.{Tz}}

module _ {T : Type 0} {range : TimeRange T} {time_at : List ℕ → Option (T × List ℕ)} (reads : AreRead range time_at) (text : List ℕ) where
  pub exact : (r : Option (Tz (Rule T))) → option_map tz_shown r ≡ entry_in time_at text
      → MatchOption r ((value : Value T) → ¬ (SpellsIn range text value)) (λ tz. SpellsIn range text (tz_shown tz))
  exact (Some tz) e = entry_found reads text (tz_shown tz) (sym e)
  exact None e = λ value spelled. none-some value (e ∙ entry_again reads spelled)

  pub one_reading : (x y : Value T) → SpellsIn range text x → SpellsIn range text y → x ≡ y
  one_reading x y a b = same_Some x y (sym (entry_again reads a) ∙ entry_again reads b)
