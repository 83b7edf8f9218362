-- `plan_merge` meets its contract: the sums over the flags are those of the merged jobs (`planned-fits`).
use Rattle.merging.proofs.Plans.{planned-fits}
use Rattle.merging.proofs.plan.plan_merge.Goals as goal

pub returns-clause-fits : goal.returns-clause-fits
returns-clause-fits c =
    λ l s here there.
    let taken = c.mark_adopted-taken.ensures l s here there in
    planned-fits l s here there c.requires.0 c.requires.1 taken (c.mark_staying-staying.ensures l s _ here there taken) c.flagged_jobs.ensures.0 c.flagged_jobs-2.ensures.0 c.flagged_entries.ensures.0 c.flagged_entries-2.ensures.0 c.exceeds-room.ensures

pub returns-clause-planned : goal.returns-clause-planned
returns-clause-planned c =
    λ l s here there.
    let taken = c.mark_adopted-taken.ensures l s here there in
    record { takes = taken; keeps = c.mark_staying-staying.ensures l s _ here there taken }
