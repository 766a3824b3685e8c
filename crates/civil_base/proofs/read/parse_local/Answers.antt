use Rattle.std.proofs.{Common.{◌≡◌, ℕ, [], ◌++◌, ◌∷◌, List, length, take, Bool, true, false, ℤ, pos, ◌+ℤ◌, ◌*ℤ◌, sym, ap, ◌∙◌}, Common.{drop, get_or, Some, int_lt, ◌≢◌, if◌then◌else◌}, lemmas.Int.{by_lt_z}, lemmas.List.{take-append-drop}}
use Rattle.basics.specs.{ComparisonLaws.{lt_pass, lt_fail}, Dates.{year_of}}
use Rattle.civil_base.specs.{Clock.{nanos_per_day}, Layout.{local_text, day_part, time_part, date_digits, time_text, year_sign}, PartLaws.{day_part-inside, time_part-inside, parts-joined}}
use Rattle.civil_base.specs.LayoutLaws.{unsigned_text, local_text-sign, unsigned_text-shape, year_sign-negative, year_sign-other}
use Rattle.civil_base.proofs.FoundLemmas.{not_none, same_some}
use Rattle.civil_base.proofs.read.parse_local.Goals as goal

-- what the first split finds in a local text
abbrev Splits : ℤ → Bool → List ℕ → Type 0
Splits x negative rest = (int_lt (year_of (day_part x)) (pos 0) ≡ negative) × (rest ≡ unsigned_text x)

splits : (x : ℤ) (bytes rest : List ℕ) (negative : Bool) → local_text x ≡ bytes
    → ((r : List ℕ) → bytes ≡ 45 ∷ r → (negative ≡ true) × (rest ≡ r)) → (get_or bytes 0 0 ≢ 45 → (negative ≡ false) × (rest ≡ bytes))
    → Splits x negative rest
splits x bytes rest negative text minus none =
    let y = year_of (day_part x) in
    let pieces = sym text ∙ local_text-sign x in
    by_lt_z y (pos 0)
    (λ lt. let found = minus (unsigned_text x) (pieces ∙ ap (λ s. s ++ unsigned_text x) (year_sign-negative y lt)) in
    (lt_pass y (pos 0) lt ∙ sym found.0, found.1))
    (λ le. let whole = pieces ∙ ap (λ s. s ++ unsigned_text x) (year_sign-other y le) in
    let found = none (λ e. (unsigned_text-shape x).3 (ap (λ l. get_or l 0 0) (sym whole) ∙ e)) in
    (lt_fail y (pos 0) le ∙ sym found.0, found.1 ∙ whole))

pub returns-then-unsigned-ne29-clause-found : goal.returns-then-unsigned-ne29-clause-found
returns-then-unsigned-ne29-clause-found c = λ x years text.
    let split = splits x c.args.bytes.now c.split_sign-negative.result.1.now c.split_sign-negative.result.0 text
    c.split_sign-negative.ensures.minus c.split_sign-negative.ensures.none in
    absurd (c.if-unsigned-ne29.true (ap length split.1 ∙ (unsigned_text-shape x).0))

pub returns-in_err-date-clause-found : goal.returns-in_err-date-clause-found
returns-in_err-date-clause-found c = λ x years text.
    let split = splits x c.args.bytes.now c.split_sign-negative.result.1.now c.split_sign-negative.result.0 text
    c.split_sign-negative.ensures.minus c.split_sign-negative.ensures.none in
    let date = c.parse_date.ensures.found (day_part x) (day_part-inside x years) split.0 (c.split_at.ensures.front
    ∙ ap (take 10) split.1 ∙ (unsigned_text-shape x).1) in
    absurd (not_none c.parse_date.result (day_part x) date c.in_err-date.was)

pub returns-in_err-time-clause-found : goal.returns-in_err-time-clause-found
returns-in_err-time-clause-found c = λ x years text.
    let split = splits x c.args.bytes.now c.split_sign-negative.result.1.now c.split_sign-negative.result.0 text
    c.split_sign-negative.ensures.minus c.split_sign-negative.ensures.none in
    let time = c.parse_time.ensures.found (time_part x) (time_part-inside x) (c.split_at.ensures.back ∙ ap (drop 10) split.1
    ∙ (unsigned_text-shape x).2) in
    absurd (not_none c.parse_time.result (time_part x) time c.in_err-time.was)

pub returns-clause-found : goal.returns-clause-found
returns-clause-found c = λ x years text.
    let split = splits x c.args.bytes.now c.split_sign-negative.result.1.now c.split_sign-negative.result.0 text
    c.split_sign-negative.ensures.minus c.split_sign-negative.ensures.none in
    let date = c.parse_date.ensures.found (day_part x) (day_part-inside x years) split.0 (c.split_at.ensures.front
    ∙ ap (take 10) split.1 ∙ (unsigned_text-shape x).1) in
    let time = c.parse_time.ensures.found (time_part x) (time_part-inside x) (c.split_at.ensures.back ∙ ap (drop 10) split.1
    ∙ (unsigned_text-shape x).2) in
    let day = same_some c.parse_date.result c.in_ok-date.date (day_part x) c.in_ok-date.was date in
    let clock = same_some c.parse_time.result c.in_ok-time.time (time_part x) c.in_ok-time.was time in
    ap Some (c.joined.ensures.value ∙ ap (λ k. k *ℤ pos nanos_per_day +ℤ pos c.in_ok-time.time) day
    ∙ ap (λ t. day_part x *ℤ pos nanos_per_day +ℤ pos t) clock ∙ parts-joined x)

spelled : (x k : ℤ) (t : ℕ) (negative : Bool) (bytes rest : List ℕ) → day_part x ≡ k → time_part x ≡ t
    → int_lt (year_of k) (pos 0) ≡ negative → bytes ≡ (if negative then 45 ∷ [] else []) ++ rest
    → take 10 rest ≡ date_digits k → drop 10 rest ≡ 32 ∷ time_text t → local_text x ≡ bytes
unfolding year_sign
spelled x k t negative bytes rest day time sign both front back =
    local_text-sign x ∙ rw (day, time, sign, both) (ap (λ l. (if negative then 45 ∷ [] else []) ++ l)
    (rw (← front, ← back) (take-append-drop 10 rest)))

pub returns-clause-spelled : goal.returns-clause-spelled
returns-clause-spelled c =
    let date = c.in_ok-date.ensures.spelled in
    spelled c.joined.result c.in_ok-date.date c.in_ok-time.time c.split_sign-negative.result.0 c.args.bytes.now
    c.split_sign-negative.result.1.now c.joined.ensures.day c.joined.ensures.time date.1 c.split_sign-negative.ensures.both
    (sym c.split_at.ensures.front ∙ date.0) (sym c.split_at.ensures.back ∙ c.in_ok-time.ensures.spelled)
