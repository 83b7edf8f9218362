-- `flag_rows` meets its contract: the invariant is that k flags are written (`Flagging`).
use mathlib.Core.Path.{ap, ◌∙◌}
use Rattle.rules.specs.declared.tables.Ulid.{Ulid}
use Rattle.rules.specs.declared.tables.SourceId.TheVariants.{SstView}
use Rattle.rules.specs.Tables.{among}
use Rattle.finishing.specs.Finding.{names_at, flag_of}
use Rattle.finishing.proofs.Finding.{flags-start, flags-next, flags-end}
use Rattle.finishing.proofs.flagging.flag_rows.Goals as goal

pub loop-k-init : goal.loop-k-init
loop-k-init c = flags-start c.requires.2

pub loop-k-preserved : goal.loop-k-preserved
loop-k-preserved c = flags-next c.loop-k.invariant c.loop-k-test.true (c.flag.ensures ∙ ap flag_of (c.is_source.ensures ∙ ap (λ (u : Ulid). among (SstView u) (names_at c.args.sources.now c.args.entries)) c.ulid.ensures))

pub returns : goal.returns
returns c = flags-end c.loop-k.invariant c.loop-k-test.false
