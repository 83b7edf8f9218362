-- `plan_passes::ask::pick_asked` meets its contract.
-- The parts hold the tree (`tree-in`), and its pick lies where they start (`pick-shifted`). Assumes nothing.
use Rattle.plan_passes.proofs.AskedTrees.{starts, l0-good, runs-good, asked-within, asked-picked}
use Rattle.plan_passes.proofs.ask.pick_asked.Goals as goal

pub pick_next_compaction-p-requires : goal.pick_next_compaction-p-requires
pick_next_compaction-p-requires c =
    let b = c.requires.1 in let r = c.requires.2 in
    (c.requires.0, l0-good b r c.part-part.ensures, runs-good b r c.part-part.ensures)

pub shifted-requires : goal.shifted-requires
shifted-requires c =
    let b = c.requires.1 in let r = c.requires.2 in
    let e = starts b r in
    (e.0, e.1, asked-within b r c.part-part.ensures _ c.requires.0 c.pick_next_compaction-p.ensures.within)

pub returns : goal.returns
returns c = rw c.shifted.ensures (asked-picked c.requires.1 c.requires.2 c.part-part.ensures c.requires.0 c.pick_next_compaction-p.ensures)
