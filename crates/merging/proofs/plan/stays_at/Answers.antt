-- `stays_at` meets its contract: ids are distinct, so the remote job that is found is the one that could replace it (`stays-found`).
use borrow.Author.Rules.{rules}
use mathlib.Core.Path.{refl}
use Rattle.merging.proofs.Flagged.{stays-found, stays-missing}
use Rattle.merging.proofs.plan.stays_at.Goals as goal

pub returns-in-Some : goal.returns-in-Some
returns-in-Some c = λ l s p d here there taken. stays-found s l there here c.args.k c.requires.2 c.ulid.ensures c.in-Some.ensures.found taken c.in-Some.ensures.within refl d

pub returns-in-None : goal.returns-in-None
returns-in-None c = λ l s p d here there taken. stays-missing s l there here c.args.k c.requires.2 c.ulid.ensures c.in-None.ensures.found p (search rules) d
