-- `run_goes` meets its contract: a run goes as a source, or as the destination of a tiered job.
use mathlib.Core.Path.{sym, ◌∙◌}
use Rattle.finishing.proofs.Finding.{goes-source, goes-tiered}
use Rattle.finishing.proofs.flagging.run_goes.Goals as goal

pub returns-then-is_source : goal.returns-then-is_source
returns-then-is_source c = goes-source c.args.run _ c.args.destination (sym c.is_source.ensures ∙ c.if-is_source.true)

pub returns-in-Some : goal.returns-in-Some
returns-in-Some c = rw c.in-Some.is (goes-tiered c.args.run _ c.in-Some.destination (sym c.is_source.ensures ∙ c.if-is_source.false))
