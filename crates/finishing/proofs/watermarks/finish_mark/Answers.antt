-- `finish_mark` meets its contract: the first source decides, and where it is a view the row that is found.
use native.Mathlib.Omega.{arith}
use Rattle.finishing.proofs.Marks.{mark-there, mark-absent}
use Rattle.finishing.proofs.watermarks.finish_mark.Goals as goal

pub returns-in-Some : goal.returns-in-Some
returns-in-Some c = λ t x others a b l w o. rw (c.in-SstView.is, c.ulid.ensures, ← l) (mark-there _ others x t c.args.part.first_row c.args.part.rows c.in-Some.k o (rw (← l) at c.in-Some.ensures.found) (omega (arith, c.in-Some.ensures.within)))

pub returns-in-None : goal.returns-in-None
returns-in-None c = λ t x others a b l w o. rw c.in-SstView.is (mark-absent _ others x t c.args.part.first_row c.args.part.rows _ o (rw (← l) at c.in-None.ensures.found) (omega arith))
