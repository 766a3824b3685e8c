use Rattle.std.proofs.{Common.{◌++◌, ◌≡◌, ◌+◌, ◌-◌, length, sym, subst, ap, arith, ◌∙◌}, lemmas.List.{length-drop, take-append-drop, take_rest}}
use Rattle.std.specs.Str.Parse.{digits_value}
use Rattle.zone_answers.specs.SameDays.{AreLast, IsAnswered, at_time, front_of, last_of}
use Rattle.zone_answers.proofs.{LastLemmas.{all_digits}, SameDayLemmas.{added, no_digits, not_alike, number_before, number_past, one_of}}
use Rattle.zone_answers.proofs.same_day.SameDay.add.Goals.{then-number-self-via-then-number-self, then-number-self-via-else-number-self+then-self-number}
use Rattle.zone_answers.proofs.same_day.SameDay.add.Goals as goal

pub returns-then-not-are_alike-clause-told : goal.returns-then-not-are_alike-clause-told
returns-then-not-are_alike-clause-told c =
    sym (not_alike c.args.self.now c.args.before.now c.args.request.now (sym c.are_alike.ensures.is ∙ c.if-not-are_alike.true))

pub overflow_sub-last : goal.overflow_sub-last
overflow_sub-last c = c.are_alike.ensures.long c.if-not-are_alike.false

pub returns-then-not-all_digits-clause-told : goal.returns-then-not-all_digits-clause-told
returns-then-not-all_digits-clause-told c =
    let request = c.args.request.now in
    sym (no_digits c.args.self.now c.args.before.now request
    (ap all_digits (sym (take_rest request (length request - 14))) ∙ sym c.all_digits.ensures ∙ c.if-not-all_digits.true))

pub last_number-number-requires : goal.last_number-number-requires
last_number-number-requires c =
    let request = c.args.request.now in
    let long = c.are_alike.ensures.long c.if-not-are_alike.false in
    record {
      count = ap length (take_rest request (length request - 14)) ∙ omega (arith, long, length-drop (length request - 14) request);
      digits = sym c.all_digits.ensures ∙ c.if-not-all_digits.false;
    }

pub returns-then-number-self-clause-told : goal.returns-then-number-self-clause-told
returns-then-number-self-clause-told c =
    let request = c.args.request.now in
    let value = c.last_number-number.ensures.value ∙ ap (digits_value 10) (take_rest request (length request - 14)) in
    elim c.then-number-self.branch [
      | then-number-self-via-then-number-self w ↦
          sym (number_before c.args.self.now c.args.before.now request (omega (arith, value, w.if-number-self.true)))
      | then-number-self-via-else-number-self+then-self-number w ↦
          sym (number_past c.args.self.now c.args.before.now request (omega (arith, value, w.if-self-number.true)))
    ]

pub returns-clause-told : goal.returns-clause-told
returns-clause-told c =
    let request = c.args.request.now in
    let value = c.last_number-number.ensures.value ∙ ap (digits_value 10) (take_rest request (length request - 14)) in
    let digits = ap all_digits (sym (take_rest request (length request - 14))) ∙ sym c.all_digits.ensures ∙ c.if-not-all_digits.false in
    sym (one_of c.args.self.now c.args.before.now request (sym c.are_alike.ensures.is ∙ c.if-not-are_alike.false) digits
    (omega (arith, value, c.if-number-self.false)) (omega (arith, value, c.if-self-number.false)))

pub returns-clause-line : goal.returns-clause-line
returns-clause-line c = λ _ names latest same.
    let day = c.args.self.now in
    let request = c.args.request.now in
    let number = c.last_number-number.result in
    let last = last_of request in
    let long = c.are_alike.ensures.long c.if-not-are_alike.false in
    let cut : front_of c.args.before.now ++ last ≡ request =
    ap (λ t. t ++ last) (c.are_alike.ensures.front c.if-not-are_alike.false) ∙ take-append-drop (length request - 14) request in
    let value : number ≡ digits_value 10 last = c.last_number-number.ensures.value ∙ ap (digits_value 10) (take_rest request (length request - 14)) in
    let digits : AreLast last = record {
      count = omega (arith, long, length-drop (length request - 14) request);
      digits = ap all_digits (sym (take_rest request (length request - 14))) ∙ sym c.all_digits.ensures ∙ c.if-not-all_digits.false;
    } in
    let answered = same.each last digits (omega (arith, value, c.if-number-self.false)) (omega (arith, value, c.if-self-number.false)) in
    added names latest request _ c.args.text.now.items c.extend_from_slice.new.self.items
    (subst (λ r. IsAnswered names latest r c.at_time.result) cut
    (subst (λ t. IsAnswered names latest (front_of c.args.before.now ++ last) t) (sym (c.at_time.ensures ∙ ap (λ v. at_time day.line (day.begins + (v - day.from))) value)) answered))
    c.in_ok-extend_from_slice.ensures.items
