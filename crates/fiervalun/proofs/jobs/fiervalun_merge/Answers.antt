-- `fiervalun_merge` meets its contract: the promise of `merge`, in C's form (`promised`), of the slices that the table was lent.
use borrow.Author.Rules.{rules}
use Rattle.rules.specs.Calls.{merge_call}
use Rattle.fiervalun.proofs.Promised.{promised}
use Rattle.fiervalun.proofs.jobs.fiervalun_merge.Goals as goal

pub returns : goal.returns
unfolding merge_call
returns c =
    let p = promised _ _ _ _ c.merge-answer.ensures.answers c.tell.ensures in
    search rules
