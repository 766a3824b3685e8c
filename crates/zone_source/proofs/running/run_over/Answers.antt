use Rattle.std.proofs.Common.{Err, refl, ap}
use Rattle.zone_source.proofs.EndLemmas.{both_of, done_ends, fault_ends, failed_ends, input_ends}
use Rattle.zone_source.proofs.running.run_over.Goals as goal

pub returns-in-Err-read_all : goal.returns-in-Err-read_all
returns-in-Err-read_all g c =
    let input = c.in-Err-read_all.ensures in
    rw (c.from-in-Err-read_all.ensures) (input_ends (g.A.TextAnswers.writes c.args.answers.now) (g.met.A.TextAnswers.ends_well c.args.answers.now) c.args.name.now _ _ c.in-Ok.text.items c.in-Err-read_all.end
    (record { text = c.in-Ok.ensures.bytes; within = c.in-Ok.ensures.within; given = c.in-Ok.ensures.ok_given })
    (record {
      failed = λ e. input.failed (ap Err e);
      long = λ e. input.long (ap Err e);
      long_text = λ e. input.long_text (ap Err e);
      failed_given = λ e. input.failed_given (ap Err e);
    })
    refl)

pub returns-in-Done : goal.returns-in-Done
returns-in-Done g c =
    (done_ends (g.A.TextAnswers.writes c.args.answers.now) (g.met.A.TextAnswers.ends_well c.args.answers.now) c.args.name.now _ _ c.in-Ok.text.items c.in-Ok-read_all.requests.items
    (both_of c.in-Ok.ensures.bytes c.in-Ok.ensures.within c.in-Ok.ensures.ok_given c.in-Ok-read_all.ensures.bytes c.in-Ok-read_all.ensures.within c.in-Ok-read_all.ensures.ok_given)
    (rw (c.deref.ensures.value, c.deref-2.ensures.value) at c.in-Done.ensures))

pub returns-in-Fault : goal.returns-in-Fault
returns-in-Fault g c =
    (fault_ends (g.A.TextAnswers.writes c.args.answers.now) (g.met.A.TextAnswers.ends_well c.args.answers.now) c.args.name.now _ _ c.in-Ok.text.items c.in-Ok-read_all.requests.items
    (both_of c.in-Ok.ensures.bytes c.in-Ok.ensures.within c.in-Ok.ensures.ok_given c.in-Ok-read_all.ensures.bytes c.in-Ok-read_all.ensures.within c.in-Ok-read_all.ensures.ok_given)
    (rw (c.deref.ensures.value, c.deref-2.ensures.value) at c.in-Fault.ensures))

pub returns-in-Failed : goal.returns-in-Failed
returns-in-Failed g c =
    (failed_ends (g.A.TextAnswers.writes c.args.answers.now) (g.met.A.TextAnswers.ends_well c.args.answers.now) c.args.name.now _ _ c.in-Ok.text.items c.in-Ok-read_all.requests.items
    (both_of c.in-Ok.ensures.bytes c.in-Ok.ensures.within c.in-Ok.ensures.ok_given c.in-Ok-read_all.ensures.bytes c.in-Ok-read_all.ensures.within c.in-Ok-read_all.ensures.ok_given)
    (rw (c.deref.ensures.value, c.deref-2.ensures.value) at c.in-Failed.ensures))
