-- Charts: worked rows, whose numbers and texts were worked out apart from the definitions.
use Rattle.std.{proofs.Common.{◌≡◌, refl, map, ℤ, pos, [], ◌∷◌, ◌++◌, ◌&&◌, if◌then◌else◌}, specs.Prelude.{codes, neg_ℤ, int_le, int_lt, Ok, Err}, specs.Fmt.{digits}, specs.List.{filter}}
use Rattle.basics.specs.Days.{day, days_after_zero, days_in_month, days_in_year, days_into_year, days_through, is_leap, year_start}
use Rattle.zone_words.specs.declared.answer_form.AnswerForm.TheVariants.{People}
use Rattle.zone_texts.specs.{Faults.{each_due}, Fixed.{fixed_view}, Lists.{change_due, sides_text}, Views.{InForce, ZoneView}, declared.fault.ReplyFault.TheVariants.{OutOfYears, Untold}, declared.kind.Kind.TheVariants.{Gap, Fold}, Charts.{chart_due, circle_text, drawing_due, head_text, line_text, mark_due, opening_text, point_text, year_begin}, Escapes.{escaped_text}, Frames.{each_numbered}}

abbrev winter : InForce
winter = record { offset = pos 3600; saving = pos 0; name = codes "CET" }

abbrev summer : InForce
summer = record { offset = pos 7200; saving = pos 3600; name = codes "CEST" }

-- Europe/Berlin in 2024
abbrev berlin : ℤ → ZoneView
berlin last = record {
  total = λ t. pos 3600;
  readings = λ x. [];
  force = λ s. if int_le (pos 1711846800) s && int_lt s (pos 1729990800) then summer else winter;
  changes = λ a b. filter (λ s. int_le a s && int_lt s b) (pos 1698541200 ∷ pos 1711846800 ∷ pos 1729990800 ∷ pos 1743296400 ∷ []);
  last_year = last;
}

escapes : escaped_text (codes "a<b> & \"c\"'") ≡ codes "a&lt;b&gt; &amp; &quot;c&quot;'"
unfolding escaped_text
escapes = refl

opening : opening_text 2024 1 (record { name = codes "a&b"; view = berlin (pos 2099) })
    ≡ codes "<g id=\"zone1\"><title>a&amp;b</title>\n<path class=\"line\" d=\"M0 900000H7779600V1800000H25923600V900000H31622400\"/>\n"
unfolding digits opening_text head_text escaped_text line_text point_text year_begin day year_start days_after_zero days_in_year is_leap days_into_year days_through days_in_month
opening = refl

circles : circle_text 2024 (berlin (pos 2099)) Gap (pos 1711846800) ∷ circle_text 2024 (berlin (pos 2099)) Fold (pos 1729990800) ∷ []
    ≡ codes "<circle class=\"gap\" cx=\"7779600\" cy=\"1800000\" r=\"200000\"><title>"
    ∷ codes "<circle class=\"fold\" cx=\"25923600\" cy=\"900000\" r=\"200000\"><title>" ∷ []
unfolding digits circle_text point_text year_begin day year_start days_after_zero days_in_year is_leap days_into_year days_through days_in_month
circles = refl

-- the changes of the year, each with its mark
marks : drawing_due 2024 0 (record { name = []; view = berlin (pos 2099) })
    ≡ Ok (opening_text 2024 0 (record { name = []; view = berlin (pos 2099) }) ++ (((circle_text 2024 (berlin (pos 2099)) Gap (pos 1711846800)
    ++ (escaped_text (sides_text People (pos 1711846800000000000) winter summer ++ 10 ∷ []) ++ codes "</title></circle>\n"))
    ++ ((circle_text 2024 (berlin (pos 2099)) Fold (pos 1729990800)
    ++ (escaped_text (sides_text People (pos 1729990800000000000) summer winter ++ 10 ∷ []) ++ codes "</title></circle>\n")) ++ [])) ++ codes "</g>\n"))
unfolding drawing_due each_due mark_due change_due year_begin day year_start days_after_zero days_in_year is_leap days_into_year days_through days_in_month
marks = refl

-- a change that keeps the offset has no mark
no_mark : mark_due 2024 (berlin (pos 2099)) (pos 1700000000) ≡ Ok []
unfolding mark_due
no_mark = refl

faults : map (chart_due (record { name = []; view = berlin (pos 2023) } ∷ [])) (10000 ∷ 2024 ∷ []) ≡ Err OutOfYears ∷ Err Untold ∷ []
unfolding chart_due
faults = refl

two_zones : chart_due (record { name = codes "UTC"; view = fixed_view (pos 0) (codes "UTC") }
    ∷ record { name = codes "-03:30"; view = fixed_view (neg_ℤ (pos 12600)) (codes "") } ∷ []) 2023 ≡ Ok (
    codes "<g id=\"zone0\"><title>UTC</title>\n<path class=\"line\" d=\"M0 0H31536000\"/>\n</g>\n" ++
    codes "<g id=\"zone1\"><title>-03:30</title>\n<path class=\"line\" d=\"M0 -3150000H31536000\"/>\n</g>\n")
unfolding digits chart_due each_numbered drawing_due each_due opening_text head_text escaped_text line_text year_begin day year_start days_after_zero days_in_year is_leap days_into_year days_through days_in_month point_text
two_zones = refl
