-- `destination_of` meets its contract: a drain has none.
use Rattle.rules.specs.declared.tables.Kind.TheVariants.{Drain}
use Rattle.rules.specs.Tables.{mark_of}
use Rattle.finishing.proofs.Finding.{beside-drain, beside-tiered, of-kind, not-of-kind}
use Rattle.finishing.proofs.flagging.destination_of.Goals as goal

pub returns-then-eq : goal.returns-then-eq
returns-then-eq c = beside-drain (mark_of c.args.kind) c.args.destination (of-kind c.args.kind Drain c.eq.ensures c.if-eq.true)

pub returns : goal.returns
returns c = beside-tiered (mark_of c.args.kind) c.args.destination (not-of-kind c.args.kind Drain c.eq.ensures c.if-eq.false)
