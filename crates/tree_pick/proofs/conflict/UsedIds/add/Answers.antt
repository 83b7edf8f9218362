-- `tree_pick::conflict::UsedIds::add` meets its contract. Assumes nothing.
use mathlib.Core.Path.{refl}
use lib.ListN.{length-set}
use Rattle.std.proofs.lemmas.List.{take_more_set}
use Rattle.tree_pick.proofs.UsedIds.{one-more}
use Rattle.tree_pick.proofs.conflict.UsedIds.add.Goals as goal

pub returns : goal.returns
returns c =
    let more = take_more_set c.args.self.now.keys.now c.args.self.now.count (record { prefix = c.args.prefix; id = c.args.id }) c.requires in
    record { same = refl; kept = length-set _ _ _; counted = refl; rows = more; used = λ prefix x. rw more (one-more _ _ prefix x) }
