-- `place_output` meets its contract: each return settles one part of `place_in`, in its order.
use Prim.Native.Nat.{◌+◌, ◌-◌}
use native.Mathlib.Omega.{arith}
use Rattle.finishing.proofs.Placed.{old-within, part-few, place-clash, place-there}
use Rattle.finishing.proofs.output.place_output.Goals as goal

pub returns-then-output_clashes : goal.returns-then-output_clashes
returns-then-output_clashes c = place-clash c.args.run_ids.now c.args.used c.args.part.first_run c.args.part.runs c.args.kept.now c.args.output c.output_clashes.ensures c.if-output_clashes.true

pub overflow_add-end : goal.overflow_add-end
overflow_add-end c = omega (arith, old-within c.args.run_ids.now c.args.part.first_run c.args.part.runs c.args.output c.output_place.ensures)

pub slice_bounds-count_kept-end-2 : goal.slice_bounds-count_kept-end-2
slice_bounds-count_kept-end-2 c = omega (arith, old-within c.args.run_ids.now c.args.part.first_run c.args.part.runs c.args.output c.output_place.ensures)

pub overflow_add-result : goal.overflow_add-result
overflow_add-result c = omega (arith, part-few c.args.kept.now c.args.part.first_run (c.args.part.first_run + c.output_place.result - c.args.part.first_run) c.count_kept-2.ensures, old-within c.args.run_ids.now c.args.part.first_run c.args.part.runs c.args.output c.output_place.ensures)

pub returns : goal.returns
returns c = place-there c.args.run_ids.now c.args.used c.args.part.first_run c.args.part.runs c.args.kept.now c.args.output c.output_clashes.ensures c.if-output_clashes.false c.count_kept.ensures (omega arith) c.output_place.ensures c.count_kept-2.ensures
