-- The lines of zones in a picture of a year, and the marks of their changes.
use Rattle.std.specs.{Prelude.{ℕ, ◌+◌, List, [], ◌++◌, codes, Bool, Ok, Err, ℤ, pos, ◌-ℤ◌, ◌*ℤ◌, decimal, int_lt, nat_lt, if◌then◌else◌}, Fmt.{signed_decimal}, List.{flat_map, list_any}}
use Rattle.basics.specs.Days.{day}
use Rattle.zone_words.specs.declared.answer_form.AnswerForm.TheVariants.{People}
use Rattle.zone_texts.specs.{Escapes.{escaped_due, escaped_text}, Faults.{Due, each_due}, Frames.{each_numbered, framed}, Kinds.{kind_text}, Lists.{change_due, kind_between}, SeenZones.{Named}, Skips.{after_of, before_of}, Views.{ZoneView}, declared.fault.ReplyFault.TheVariants.{OutOfYears, Untold}, declared.kind.Kind.{Kind}, declared.kind.Kind.TheVariants.{One, Gap, Fold, More}}

-- the second at which a year begins by UTC
unfoldable pub year_begin : ℕ → ℤ
year_begin year = day (pos year) 1 1 *ℤ pos 86400

abbrev pub changes_in : ℕ → ZoneView → List ℤ
changes_in year view = view.changes (year_begin year) (year_begin (year + 1))

-- across a second a unit from the year's beginning, and up 250 units a second of offset
abbrev pub x_of : ℕ → ℤ → ℤ
x_of year second = second -ℤ year_begin year

abbrev pub y_of : ZoneView → ℤ → ℤ
y_of view second = pos 250 *ℤ after_of view second

-- the point of the offset in force at a second, its numbers behind two texts
unfoldable pub point_text : List ℕ → List ℕ → ℕ → ZoneView → ℤ → List ℕ
point_text before between year view second =
    before ++ signed_decimal (x_of year second) ++ between ++ signed_decimal (y_of view second)

-- from the year's beginning across (H) to each change, up or down (V) to the offset from it on, and across to the year's end
unfoldable pub line_text : ℕ → ZoneView → List ℕ
line_text year view =
    point_text (codes "M") (codes " ") year view (year_begin year)
    ++ flat_map (point_text (codes "H") (codes "V") year view) (changes_in year view)
    ++ codes "H" ++ signed_decimal (x_of year (year_begin (year + 1)))

-- a zone by its number, its name and its line
unfoldable pub head_text : ℕ → List ℕ → List ℕ
head_text n name = codes "<g id=\"zone" ++ decimal n ++ codes "\"><title>" ++ escaped_text name

unfoldable pub opening_text : ℕ → ℕ → Named → List ℕ
opening_text year n zone =
    head_text n zone.name ++ codes "</title>\n<path class=\"line\" d=\"" ++ line_text year zone.view ++ codes "\"/>\n"

-- at a change by which clocks skip local times (gap) or read some twice (fold)
unfoldable pub circle_text : ℕ → ZoneView → Kind → ℤ → List ℕ
circle_text year view kind second =
    codes "<circle class=\"" ++ kind_text kind ++ point_text (codes "\" cx=\"") (codes "\" cy=\"") year view second
    ++ codes "\" r=\"200000\"><title>"

-- with the line of the change as its title
abbrev pub titled_due : ℕ → ZoneView → Kind → ℤ → Due
titled_due year view kind second =
    framed (circle_text year view kind second) (escaped_due (change_due People view [] second)) (codes "</title></circle>\n")

abbrev pub marked_due : ℕ → ZoneView → Kind → ℤ → Due
marked_due year view One second = Ok []
marked_due year view Gap second = titled_due year view Gap second
marked_due year view Fold second = titled_due year view Fold second
marked_due year view More second = Ok []

unfoldable pub mark_due : ℕ → ZoneView → ℤ → Due
mark_due year view second = marked_due year view (kind_between (before_of view second) (after_of view second)) second

-- the line of a zone and the marks of its changes
unfoldable pub drawing_due : ℕ → ℕ → Named → Due
drawing_due year n zone = framed (opening_text year n zone) (each_due (mark_due year zone.view) (changes_in year zone.view)) (codes "</g>\n")

-- some zone isn't told for the year
abbrev pub are_untold : ℕ → List Named → Bool
are_untold year zones = list_any (λ zone. int_lt zone.view.last_year (pos year)) zones

-- all zones' lines and marks
unfoldable pub chart_due : List Named → ℕ → Due
chart_due zones year =
    if nat_lt 9999 year then Err OutOfYears
    else (if are_untold year zones then Err Untold else each_numbered (drawing_due year) 0 zones)
