use Rattle.std.proofs.Common.{inl, inr, refl, ap, Err}
use Rattle.zone_command.proofs.find.over_source.Goals as goal

pub returns-in-Err-TooLong : goal.returns-in-Err-TooLong
returns-in-Err-TooLong g c =
    (inr (inr (inr (record { outcome_is = refl; unasked = c.in-Ok.ensures.unasked; named = c.in-Err-TooLong.ensures.named; shelf = refl }))), refl)

pub returns-in-Err-NoMemory : goal.returns-in-Err-NoMemory
returns-in-Err-NoMemory g c =
    (inr (inr (inr (record { outcome_is = refl; unasked = c.in-Ok.ensures.unasked; named = c.in-Err-NoMemory.ensures.named; shelf = refl }))), refl)

pub returns-in-Err : goal.returns-in-Err
returns-in-Err g c =
    (inr (inl (record { outcome_is = refl; asks = c.in-Err.ensures.asked; why = c.in-Err.ensures.failed; environment = refl; shelf = refl })), refl)

pub returns-in-Err-Failed : goal.returns-in-Err-Failed
returns-in-Err-Failed g c = (
  inr (inr (inl (record {
    outcome_is = refl;
    unasked = c.in-Ok.ensures.unasked;
    unnamed = c.in-Err-Failed.ensures.unnamed (ap Err c.in-Err-Failed.field-0-is);
    rose = c.in-Err-Failed.ensures.failed (ap Err c.in-Err-Failed.field-0-is);
    shelf = refl;
  }))),
  refl,
)
