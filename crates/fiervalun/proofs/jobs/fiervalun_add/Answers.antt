-- `fiervalun_add` meets its contract: the promise of `add`, in C's form (`promised`), of the slices that the table was lent.
use borrow.Author.Rules.{rules}
use Rattle.rules.specs.Calls.{add_call}
use Rattle.fiervalun.proofs.Promised.{promised}
use Rattle.fiervalun.proofs.jobs.fiervalun_add.Goals as goal

pub returns : goal.returns
unfolding add_call
returns c =
    let p = promised _ _ _ _ c.add-answer.ensures.answers c.tell.ensures in
    search rules
