-- `drain_mark` meets its contract: the first row that goes decides.
use mathlib.Core.Path.{sym, ◌∙◌}
use native.Mathlib.Omega.{arith}
use Rattle.finishing.proofs.Marks.{drain-there, drain-stays}
use Rattle.finishing.proofs.watermarks.drain_mark.Goals as goal

pub returns-in_default : goal.returns-in_default
returns-in_default c = λ t x p a b l w s. rw (← a, ← b) at c.watermark.ensures ∙ sym w ∙ drain-stays t x p c.args.kept.now c.args.part.first_row c.args.part.rows _ s c.in_default.ensures.found (omega arith)

pub returns : goal.returns
returns c = λ t x p a b l w s. rw (c.ulid.ensures, c.ulid-2.ensures, ← l) (drain-there t x p c.args.kept.now c.args.part.first_row c.args.part.rows c.in-Some.k s c.in-Some.ensures.found c.in-Some.ensures.within)
