-- What the passes start from: the rows of the trees that are asked, and the state of the call.
use Prim.Native.Nat.{ℕ, ◌≤◌, ◌<◌}
use mathlib.Core.Path.{◌≡◌, sym, subst, ◌∙◌}
use mathlib.Core.List.{List, []}
use native.Mathlib.Omega.{arith}
use lib.ListN.{length, get_or, take, length-take}
use lib.Seq.{get_or-take, length-take-le}
use Rattle.rules.specs.declared.Options.{Options}
use Rattle.rules.specs.Tables.{Tree}
use Rattle.rules.specs.Lent.{LentTrees, LentJobs, trees_of, jobs_of, l0_used, runs_used}
use Rattle.rules.specs.Limit.{limit_of}
use Rattle.rules.specs.Plan.{State, start, ordered, free_slots, first_fresh, passes_from, planned}
use Rattle.rules.proofs.Packed.{length-trees_of}
use Rattle.laws.proofs.Order.{ordered-length}
use Rattle.tree_pick.specs.declared.conflict.UsedIds.{UsedIds}
use Rattle.tree_pick.specs.declared.tree.AskedTree.{AskedTree}
use Rattle.plan_start.specs.Order.{AskedInOrder}
use Rattle.plan_start.specs.ChainTable.{ChainsFilled}
use Rattle.plan_start.specs.UsedByJobs.{UsedByJobs}
use Rattle.plan_start.proofs.SizeSums.{not-over}
use Rattle.plan_passes.specs.declared.picks.Picks.{Picks}
use Rattle.plan_passes.specs.Picks.{specs_of, emptied}
use Rattle.plan_passes.specs.Ask.{AskedRow, state_in}
use Rattle.plan_passes.specs.Passes.{AskedAll, Made, Plans}
use Rattle.size_tiered_compaction.specs.Proposing.{Ready, Proposes}

-- each row names a tree's rows, which are there, whose sums are below 2^64, and beside whose runs stand the chains
pub asked-row : {o : Options} {t : LentTrees} {j : LentJobs} {lim : ℕ → ℕ} {asked : List AskedTree} {chains : List ℕ} → Ready o t j → AskedInOrder t asked
    → ChainsFilled lim t.trees t.run_sizes t.count chains
    → (k : ℕ) (d : AskedTree) → k < length (take t.count asked) → AskedRow lim (get_or (take t.count asked) k d) t chains
unfolding l0_used runs_used
asked-row {t = t} {asked = asked} g rows filled k d h =
    let l : k < t.count = omega (arith, length-take t.count asked) in
    let row = rows.of k d l in
    let s = row.stands in
    let sums = not-over t.trees t.l0_sizes t.run_sizes t.count g.summed row.tree row.there in
    rw (get_or-take t.count asked k d l)
    (record {
      l0 = omega (arith, s.rows_within, g.l0);
      runs = omega (arith, s.runs_within, g.runs);
      l0_summed = rw (s.first_row, s.rows) sums.0;
      runs_summed = rw (s.first_run, s.runs) sums.1;
      chained = rw (s.first_run, s.runs) (filled.at row.tree row.there);
    })

module _ (o : Options) (t : LentTrees) (j : LentJobs) (picks : Picks) {used : UsedIds} {slots fresh : ℕ} (u : UsedByJobs j used) (s : slots ≡ free_slots o (jobs_of j)) (f : fresh ≡ first_fresh (trees_of t) (jobs_of j)) where
  -- the tables hold the state at the start of a call
  start_is : state_in t used slots fresh (emptied picks) ≡ start o (trees_of t) (jobs_of j)
  start_is = λ i. record { used = λ prefix x. u.uses prefix x i; slots = s i; fresh = f i; specs = [] }

  -- so that what the passes leave is the plan
  pub picks-made : {asked : List AskedTree} {passes : ℕ} {used' : UsedIds} {picks' : Picks} → slots ≤ length picks.rows.now → t.count ≤ length asked → AskedInOrder t asked
      → Made used picks slots used' picks'
      → ((ts : List Tree) → AskedAll (take t.count asked) t ts → Plans (passes_from (limit_of o.threshold) o ts slots 0 (state_in t used slots fresh (emptied picks))) t passes picks')
      → Proposes o t j passes picks'
  unfolding planned
  picks-made {asked} {passes} {used'} {picks'} most room order made plans =
      let size : length (take t.count asked) ≡ t.count = length-take-le t.count asked room in
      let all : AskedAll (take t.count asked) t (ordered (trees_of t)) =
      record {
        counted = ordered-length (trees_of t) ∙ length-trees_of t ∙ sym size;
        at = λ k d e h. rw (get_or-take t.count asked k d (omega (arith, size))) (order.at k d e (omega (arith, size)));
      } in
      let begun : Plans (passes_from (limit_of o.threshold) o (ordered (trees_of t)) slots 0 (start o (trees_of t) (jobs_of j))) t passes picks' =
      subst (λ (st : State). Plans (passes_from (limit_of o.threshold) o (ordered (trees_of t)) slots 0 st) t passes picks') start_is (plans (ordered (trees_of t)) all) in
      record {
        room = omega (arith, made.most, made.picks_kept);
        within = made.within;
        plans = subst (λ (m : ℕ). Plans (passes_from (limit_of o.threshold) o (ordered (trees_of t)) m 0 (start o (trees_of t) (jobs_of j))) t passes picks') s begun;
      }
