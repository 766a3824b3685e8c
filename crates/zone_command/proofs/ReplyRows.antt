-- Answers over a source with one zone, which has no saving and lists four seconds.
use Rattle.std.{proofs.Common.{◌≡◌, refl, true, false, ap, arith, map, lit≤, ℕ, pos, List, [], ◌∷◌, ◌++◌, ◌&&◌, ◌||◌, cond, filter, length, ◌==◌, int_le, int_lt, Some, None}, specs.Prelude.{Ok, Err, bytes_eq, codes}, specs.Fmt.{digits}}
use Rattle.basics.specs.{DateLaws.{year_of-day}, Dates.{year_of}, Days.{is_leap, days_in_year, days_in_month, days_after_zero, days_before_zero, year_start, days_through, days_into_year, day, IsCountedYear}, SignedLaws.{signed}, Numbers.{value_in}}
use Rattle.civil_base.specs.{Instants.{seconds_of}, Layout.{day_part}}
use Rattle.zone_command.specs.{Answers.{lined, of_name, told}, Named.{Found, named_in}, Offsets.{two_in, size_in, offset_in}, Replies.{asks_form, at_fault, list_lines, reply_of}}
use Rattle.zone_words.specs.{Written.{epoch_text, fraction_text, offset_shown}, declared.answer_form.AnswerForm.TheVariants.{Epoch}, Tasks.{converted, list_changes, plain_form, tree}}
use Rattle.zone_texts.specs.{Faults.{each_due}, Fixed.{fixed_view}, Lists.{change_due, list_due, sides_text}, Views.{ZoneView}, declared.fault.ReplyFault.TheVariants.{OutOfYears, Untold}}

view : ZoneView
view = record {
  total = λ _. pos 0;
  readings = λ x. x ∷ [];
  force = λ _. record { offset = pos 0; saving = pos 0; name = codes "A" };
  changes = λ from to. filter (λ s. int_le from s && int_lt s to) (pos 4 ∷ pos 5 ∷ pos 8 ∷ pos 9 ∷ []);
  last_year = pos 2099;
}

found : List ℕ → Found
found name = cond (bytes_eq name (codes "a")) (Ok view) (Err (codes "none"))

-- an offset comes before the names of the source, and a name that finds none is told
named : map (named_in found) (codes "a" ∷ codes "+02:00" ∷ codes "b" ∷ []) ≡ Ok view ∷ Ok (fixed_view (pos 7200) (codes "+02:00")) ∷ Err (codes "\"b\": none") ∷ []
unfolding found value_in two_in size_in offset_in
named = refl

-- the first name that finds none
converts : map (λ (names : List ℕ × List ℕ). reply_of found [] Epoch (pos 0) (converted names.0 names.1 (pos 0))) ((codes "b", codes "c") ∷ (codes "a", codes "c") ∷ [])
    ≡ Err (codes "\"b\": none") ∷ Err (codes "\"c\": none") ∷ []
unfolding found value_in two_in size_in offset_in
converts = refl

counted_year : IsCountedYear (pos 1970)
counted_year = record { first = omega (arith, signed); last = omega (arith, signed) }

year : year_of (pos 0) ≡ pos 1970
unfolding is_leap days_in_year days_in_month days_after_zero days_before_zero year_start days_through days_into_year day
year = year_of-day (pos 1970) 1 1 counted_year (record { first_month = lit≤ tt; last_month = lit≤ tt; first_day = lit≤ tt; last_day = lit≤ tt })

-- the first zone's fault: it doesn't tell the local time, or skips it; else the other's
blamed : map (λ (v : ZoneView). at_fault v (codes "a") (codes "b") (pos 0)) (view ∷ record view { last_year = pos 1969 } ∷ record view { readings = λ x. [] } ∷ [])
    ≡ codes "b" ∷ codes "a" ∷ codes "a" ∷ []
unfolding view day_part
blamed = λ i. map (λ (v : ZoneView). cond (int_lt v.last_year (year i) || length (v.readings (pos 0)) == 0) (codes "a") (codes "b"))
    (view ∷ record view { last_year = pos 1969 } ∷ record view { readings = λ x. [] } ∷ [])

line : List ℕ → List ℕ
line second = (64 ∷ second ++ codes ": +00:00 A to +00:00 A, saving 0") ++ 10 ∷ []

-- from now on, and before the other instant
listed : reply_of found [] Epoch (pos 5000000000) (list_changes (codes "a") None (Some (pos 9000000000)) (codes "@9")) ≡ Ok (line (codes "5") ++ (line (codes "8") ++ []))
unfolding found view line value_in two_in size_in offset_in seconds_of day_part list_lines list_due each_due change_due sides_text epoch_text fraction_text offset_shown digits
listed = λ i. told (codes "a") (cond (ap (int_lt (pos 2099)) year i) (Err Untold) (Ok (line (codes "5") ++ (line (codes "8") ++ []))))

-- a second that isn't after the first, before the zone is looked for
backwards : map (λ to. reply_of found [] Epoch (pos 5) (list_changes (codes "b") None to (codes "x"))) (None ∷ Some (pos 5) ∷ Some (pos 4) ∷ Some (pos 6) ∷ [])
    ≡ Err (codes "\"x\": this isn't after FROM") ∷ Err (codes "\"x\": this isn't after FROM") ∷ Err (codes "\"x\": this isn't after FROM")
    ∷ Err (codes "\"b\": none") ∷ []
unfolding found value_in two_in size_in offset_in
backwards = refl

-- a name in front of why there is no answer
of_names : map (of_name (codes "f")) (Ok (codes "a") ∷ Err (codes "w") ∷ []) ≡ Ok (codes "a") ∷ Err (codes "\"f\": w") ∷ []
of_names = refl

-- a plain form is asked for
forms : map asks_form (plain_form (codes "f") ∷ tree true ∷ []) ≡ true ∷ false ∷ []
forms = refl

lines : map lined (Ok (codes "a") ∷ told (codes "x") (Err OutOfYears) ∷ [])
    ≡ Ok (codes "a") ∷ Err (codes "zone: \"x\": a date lies outside the years -9999 to 9999" ++ 10 ∷ []) ∷ []
lines = refl
