-- `fiervalun_retain` meets its contract: the promise of `retain`, in C's form (`promised`), of the slices that the table was lent.
use borrow.Author.Rules.{rules}
use Rattle.rules.specs.Calls.{retain_call}
use Rattle.fiervalun.proofs.Promised.{promised}
use Rattle.fiervalun.proofs.jobs.fiervalun_retain.Goals as goal

pub returns : goal.returns
unfolding retain_call
returns c =
    let p = promised _ _ _ _ c.retain-answer.ensures.answers c.tell.ensures in
    search rules
