-- What is due of the days of an alarm, one after another.
use Rattle.std.proofs.{Common.{◌≡◌, ℕ, zero, suc, ◌+◌, ◌-◌, ◌<◌, ◌≤◌, ◌==◌, length, Bool, true, false, not, cond, List, [], ◌∷◌, map, append-nil, ℤ, refl, ap, sym, ◌∙◌, arith}, Math.Dec.{eqb-suc-zero}}
use Rattle.std.specs.{Prelude.{Option, Some, None, Ok, Err}, List.{range_with_len}}
use Rattle.zone_words.specs.{declared.answer_form.AnswerForm.{AnswerForm}, Tasks.{AlarmAsked}}
use Rattle.zone_texts.specs.{DueLaws.{behind_err, first, moved, pass, stepped}, Faults.{Due, behind, each_due, followed, IsFaultOf}, Instants.{is_untold}, Views.{ZoneView}, declared.fault.ReplyFault.{ReplyFault}, declared.fault.ReplyFault.TheVariants.{OutOfYears, Untold}, Days.{day_after, is_dated, is_on}, Left.{is_full, left_after}, Rings.{Rung, counts, lines_due, lines_on, rings_at, rung_on, time_on}}

nothing_before : (d : Due) → d ≡ behind [] d
nothing_before (Ok text) = refl
nothing_before (Err fault) = refl

-- the first day's lines, and those of the days after it
day_more : (form : AnswerForm) (view : ZoneView) (name : List ℕ) (left : Option ℕ) (r : Rung) (rs : List Rung) → is_full left ≡ false
    → lines_on form view name left (r ∷ rs) ≡ followed (lines_due form view name r) (lines_on form view name (left_after left (counts r)) rs)
unfolding lines_on each_due
day_more form view name None (Ok []) rs e = nothing_before _
day_more form view name None (Ok (t ∷ ts)) rs e = refl
day_more form view name None (Err f) rs e = refl
day_more form view name (Some zero) r rs e = cc
day_more form view name (Some (suc n)) (Ok []) rs e = nothing_before _
day_more form view name (Some (suc n)) (Ok (t ∷ ts)) rs e =
    let less : n ≡ suc n - 1 = omega arith in
    ap (λ k. followed (lines_due form view name (Ok (t ∷ ts))) (lines_on form view name (Some k) rs)) less
day_more form view name (Some (suc n)) (Err f) rs e = refl

-- what is told of so many days after so many
abbrev pub rungs : ZoneView → AlarmAsked → ℕ → ℕ → ℕ → List Rung
rungs view alarm step past n = map (rung_on view alarm) (map (day_after alarm.first step) (range_with_len past n))

rungs_more : (view : ZoneView) (alarm : AlarmAsked) (step count past : ℕ) → past < count
    → rungs view alarm step past (count - past) ≡ rung_on view alarm (day_after alarm.first step past) ∷ rungs view alarm step (past + 1) (count - (past + 1))
rungs_more view alarm step count past l =
    let more : count - past ≡ suc (count - (past + 1)) = omega arith in
    ap (rungs view alarm step past) more

through : (old now : List ℕ) (d all : Due) → behind now d ≡ behind old all → (f : ReplyFault) → IsFaultOf d f → IsFaultOf all f
through old now d all left f e = pass d all (λ g h. behind_err old all g (sym left ∙ ap (behind now) h)) f e

-- in the loop over the days
module _ (form : AnswerForm) (view : ZoneView) (name : List ℕ) (alarm : AlarmAsked) (step count past : ℕ) (old now : List ℕ) (left : Option ℕ) (all : Due) where
  next_is : past < count → is_full left ≡ false → lines_on form view name left (rungs view alarm step past (count - past))
      ≡ followed (lines_due form view name (rung_on view alarm (day_after alarm.first step past)))
      (lines_on form view name (left_after left (counts (rung_on view alarm (day_after alarm.first step past)))) (rungs view alarm step (past + 1) (count - (past + 1))))
  next_is l more =
      ap (lines_on form view name left) (rungs_more view alarm step count past l)
      ∙ day_more form view name left (rung_on view alarm (day_after alarm.first step past)) (rungs view alarm step (past + 1) (count - (past + 1))) more

  pub loop_more : (new : List ℕ) (rung : Bool) → past < count → is_full left ≡ false
      → behind now (lines_on form view name left (rungs view alarm step past (count - past))) ≡ behind old all
      → Ok new ≡ behind now (lines_due form view name (rung_on view alarm (day_after alarm.first step past)))
      → rung ≡ counts (rung_on view alarm (day_after alarm.first step past))
      → behind new (lines_on form view name (left_after left rung) (rungs view alarm step (past + 1) (count - (past + 1)))) ≡ behind old all
  loop_more new rung l more kept added is =
      ap (λ b. behind new (lines_on form view name (left_after left b) (rungs view alarm step (past + 1) (count - (past + 1))))) is
      ∙ stepped now new (lines_due form view name (rung_on view alarm (day_after alarm.first step past)))
      (lines_on form view name (left_after left (counts (rung_on view alarm (day_after alarm.first step past)))) (rungs view alarm step (past + 1) (count - (past + 1)))) added
      ∙ sym (ap (behind now) (next_is l more)) ∙ kept

  pub loop_fault : past < count → is_full left ≡ false
      → behind now (lines_on form view name left (rungs view alarm step past (count - past))) ≡ behind old all
      → (f : ReplyFault) → IsFaultOf (lines_due form view name (rung_on view alarm (day_after alarm.first step past))) f → IsFaultOf all f
  loop_fault l more kept f e =
      through old now _ all kept f
      (moved _ _ (sym (next_is l more)) f (first (lines_due form view name (rung_on view alarm (day_after alarm.first step past))) _ f e))

none_left : (form : AnswerForm) (view : ZoneView) (name : List ℕ) (left : Option ℕ) (rs : List Rung) → is_full left ≡ true → lines_on form view name left rs ≡ Ok []
unfolding lines_on each_due
none_left form view name None rs e = cc
none_left form view name (Some zero) rs e = refl
none_left form view name (Some (suc n)) rs e = let not_full = eqb-suc-zero n in cc

no_days : (form : AnswerForm) (view : ZoneView) (name : List ℕ) (left : Option ℕ) → lines_on form view name left [] ≡ Ok []
unfolding lines_on each_due
no_days form view name None = refl
no_days form view name (Some zero) = refl
no_days form view name (Some (suc n)) = refl

ended : (old now : List ℕ) (d all : Due) → d ≡ Ok [] → behind now d ≡ behind old all → Ok now ≡ behind old all
ended old now d all is kept = ap Ok (sym (append-nil now)) ∙ sym (ap (behind now) is) ∙ kept

pub loop_full : (form : AnswerForm) (view : ZoneView) (name : List ℕ) (left : Option ℕ) (rs : List Rung) (old now : List ℕ) (all : Due)
    → is_full left ≡ true → behind now (lines_on form view name left rs) ≡ behind old all → Ok now ≡ behind old all
loop_full form view name left rs old now all full kept = ended old now _ all (none_left form view name left rs full) kept

pub loop_end : (form : AnswerForm) (view : ZoneView) (name : List ℕ) (alarm : AlarmAsked) (step count past : ℕ) (left : Option ℕ) (old now : List ℕ) (all : Due)
    → count ≤ past → behind now (lines_on form view name left (rungs view alarm step past (count - past))) ≡ behind old all → Ok now ≡ behind old all
loop_end form view name alarm step count past left old now all l kept =
    let none : count - past ≡ 0 = omega arith in
    ended old now _ all (ap (λ n. lines_on form view name left (rungs view alarm step past n)) none ∙ no_days form view name left) kept

-- a day without rings adds nothing
pub quiet : (form : AnswerForm) (view : ZoneView) (name start : List ℕ) (r : Rung) → r ≡ Ok [] → Ok start ≡ behind start (lines_due form view name r)
unfolding each_due
quiet form view name start r is = ap Ok (sym (append-nil start)) ∙ sym (ap (λ q. behind start (lines_due form view name q)) is)

-- it rings where there is an instant
pub some_rings : {A : Type 0} (show : A → ℤ) (xs : List A) → not (length xs == 0) ≡ counts (Ok (map show xs))
some_rings show [] = refl
some_rings show (x ∷ xs) = ap not (eqb-suc-zero (length xs))

-- what is told of a day
abbrev told_by : Bool → Bool → Bool → List ℤ → Rung
told_by dated on untold ts = cond (not dated) (Err OutOfYears) (cond (not on) (Ok []) (cond untold (Err Untold) (Ok ts)))

module _ (view : ZoneView) (alarm : AlarmAsked) (day : ℤ) where
  pub not_dated : is_dated day ≡ false → rung_on view alarm day ≡ Err OutOfYears
  unfolding rung_on
  not_dated dated =
      λ i. told_by (dated i) (is_on alarm.days day) (is_untold view (time_on day alarm.time)) (rings_at alarm.gap alarm.fold view (time_on day alarm.time))

  pub not_on : is_dated day ≡ true → is_on alarm.days day ≡ false → rung_on view alarm day ≡ Ok []
  unfolding rung_on
  not_on dated on =
      λ i. told_by (dated i) (on i) (is_untold view (time_on day alarm.time)) (rings_at alarm.gap alarm.fold view (time_on day alarm.time))

  pub not_told : is_dated day ≡ true → is_on alarm.days day ≡ true → is_untold view (time_on day alarm.time) ≡ true → rung_on view alarm day ≡ Err Untold
  unfolding rung_on
  not_told dated on untold = λ i. told_by (dated i) (on i) (untold i) (rings_at alarm.gap alarm.fold view (time_on day alarm.time))

  pub told : is_dated day ≡ true → is_on alarm.days day ≡ true → is_untold view (time_on day alarm.time) ≡ false
      → rung_on view alarm day ≡ Ok (rings_at alarm.gap alarm.fold view (time_on day alarm.time))
  unfolding rung_on
  told dated on untold = λ i. told_by (dated i) (on i) (untold i) (rings_at alarm.gap alarm.fold view (time_on day alarm.time))

  -- by the local time at which it rings
  pub told_at : (local : ℤ) (ts : List ℤ) → local ≡ time_on day alarm.time → is_dated day ≡ true → is_on alarm.days day ≡ true
      → is_untold view local ≡ false → ts ≡ rings_at alarm.gap alarm.fold view local → rung_on view alarm day ≡ Ok ts
  told_at local ts at dated on in_time rings =
      told dated on (ap (is_untold view) (sym at) ∙ in_time) ∙ sym (λ i. Ok ((rings ∙ ap (rings_at alarm.gap alarm.fold view) at) i))
