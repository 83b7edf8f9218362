-- `adopted_at` meets its contract: the look-up finds the local job of the id, or none, and the adoption table is looked up at its row (`adopted-known`,
-- `adopted-absent`).
use borrow.Author.Rules.{rules}
use Rattle.merging.proofs.Flagged.{adopted-known, adopted-absent}
use Rattle.merging.proofs.plan.adopted_at.Goals as goal

pub returns-in-Some : goal.returns-in-Some
returns-in-Some c = λ l s d here there. adopted-known l s here there c.args.i c.requires.2 c.ulid.ensures c.in-Some.ensures.found c.in-Some.ensures.within c.adopts.ensures d

pub returns-in-None : goal.returns-in-None
returns-in-None c = λ l s d here there. adopted-absent l s here there c.args.i c.requires.2 c.ulid.ensures c.in-None.ensures.found (search rules) c.adopts-in-None.ensures d
