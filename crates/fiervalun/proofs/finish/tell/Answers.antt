-- `fiervalun::finish::tell` meets its contract: a case each. Assumes nothing.
use mathlib.Core.Path.{◌≡◌, ap, ◌∙◌}
use Rattle.std.specs.declared.result.Result.TheVariants.{Ok}
use Rattle.rules.specs.declared.answers.Finished.TheVariants.{Committed, SegmentMissing}
use Rattle.rules.specs.Calls.{finish_number, finish_values}
use Rattle.fiervalun.proofs.finish.tell.Goals as goal

pub returns-in-Ok-Committed : goal.returns-in-Ok-Committed
unfolding finish_number finish_values
returns-in-Ok-Committed c =
    let e : c.args.answer ≡ Ok Committed = c.in-Ok-Committed.is ∙ ap Ok (rw c.in-Ok-Committed.is at c.in-Ok-Committed.field-0-is) in
    record { numbered = rw e; told = rw e }

pub returns-in-Ok-SegmentMissing : goal.returns-in-Ok-SegmentMissing
unfolding finish_number finish_values
returns-in-Ok-SegmentMissing c =
    let e : c.args.answer ≡ Ok SegmentMissing = c.in-Ok-SegmentMissing.is ∙ ap Ok (rw c.in-Ok-SegmentMissing.is at c.in-Ok-SegmentMissing.field-0-is) in
    record { numbered = rw e; told = rw e }

pub returns-in-Err : goal.returns-in-Err
unfolding finish_number finish_values
returns-in-Err c = record { numbered = rw (c.in-Err.is, c.number.ensures); told = rw c.in-Err.is }
