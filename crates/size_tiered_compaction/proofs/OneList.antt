-- "the tree's L0 then runs, as one list", read off the parts of the lent slices that are the tree's.
use Prim.Native.Nat.{ℕ, zero, suc, ◌+◌, ◌-◌, ◌*◌, ◌≤◌, ◌<◌}
use mathlib.Core.Path.{◌≡◌, refl, sym, ap, ap₂, ◌∙◌}
use mathlib.Core.List.{List, ◌++◌, map}
use mathlib.Core.Option.{some}
use mathlib.Core.Bool.{false, not}
use native.Mathlib.Nat.{zero-add}
use native.Mathlib.Omega.{arith}
use lib.Dec.{eqb}
use lib.ListN.{length, get_or, take, drop, length-take, length-drop}
use lib.Seq.{get_or-take, get_or-drop}
use borrow.Author.Tests.{lt-ltb, le-ltb}
use Rattle.rules.specs.Lists.{leading}
use Rattle.rules.specs.declared.tables.SourceId.{SourceId}
use Rattle.rules.specs.declared.tables.SourceId.TheVariants.{SortedRun, SstView}
use Rattle.rules.specs.Tables.{Tree, view_id, run_id, id_of}
use Rattle.rules.specs.Lent.{LentTrees, rows_from, l0_at, run_at, l0_count, run_count, source_at, tree_at, trees_of}
use Rattle.rules.specs.Validation.{logical_order, is_empty, tree_with, tiered_refusal}
use Rattle.rules.proofs.Rows.{rows_from-append, rows_from-same, map-rows_from}
use Rattle.rules.proofs.Records.{ulid-eq}
use Rattle.rows.specs.Read.{Stands}
use Rattle.rows.proofs.Found.{tree-found, tree-missing}
use Rattle.rows.specs.declared.sources.Sources.{Sources}
use Rattle.rows.specs.InSlices.{sources_in}
use Rattle.size_tiered_compaction.specs.LogicalOrder.{order_at, names_in}

-- a number of a part
part_at : (s : List ℕ) (from size i : ℕ) → i < size → get_or (take size (drop from s)) i 0 ≡ get_or s (from + i) 0
part_at s from size i h = rw (get_or-take, get_or-drop)

module _ (t : LentTrees) (i l r c d : ℕ) (rows : c ≡ l0_count t i) (runs : d ≡ run_count t i) where
  abbrev views : List ℕ
  views = take (4 * (l + c) - 4 * l) (drop (4 * l) t.l0_ids)

  abbrev ids : List ℕ
  ids = take (r + d - r) (drop r t.run_ids)

  view-at : (k : ℕ) → k < c → order_at views ids c (0 + k) ≡ view_id (l0_at t (l + k))
  view-at k h = rw (zero-add k, lt-ltb k c h) (ap SstView (ulid-eq (number (4 * k) (omega arith) ∙ ap (λ (n : ℕ). get_or t.l0_ids n 0) (high k)) (number (4 * k + 1) (omega arith) ∙ ap (λ (n : ℕ). get_or t.l0_ids n 0) (low k))))
    where
      number : (n : ℕ) → n < 4 * (l + c) - 4 * l → get_or views n 0 ≡ get_or t.l0_ids (4 * l + n) 0
      number n h = part_at t.l0_ids (4 * l) (4 * (l + c) - 4 * l) n h

      high : (k : ℕ) → 4 * l + 4 * k ≡ 4 * (l + k)
      high k = omega arith

      low : (k : ℕ) → 4 * l + (4 * k + 1) ≡ 4 * (l + k) + 1
      low k = omega arith

  run-at : (k : ℕ) → k < d → order_at views ids c (c + k) ≡ run_id (run_at t (r + k))
  run-at k h =
      let over : c + k - c ≡ k = omega arith in
      rw (le-ltb (c + k) c (omega arith), over) (ap SortedRun (part_at t.run_ids r (r + d - r) k (omega arith)))

  pub one_list : logical_order (tree_at t i l r) ≡ rows_from (order_at views ids c) 0 (c + d)
  one_list =
      rw (← rows, ← runs)
      (sym
      (rows_from-append (order_at views ids c) 0 c d
      ∙ ap₂ ◌++◌
      (rows_from-same (order_at views ids c) (λ k. view_id (l0_at t k)) 0 l c view-at ∙ sym (map-rows_from view_id (l0_at t) l c))
      (ap (λ (n : ℕ). rows_from (order_at views ids c) n d) (zero-add c) ∙ rows_from-same (order_at views ids c) (λ k. run_id (run_at t k)) c r d run-at ∙ sym (map-rows_from run_id (run_at t) r d))))

-- what the lent sources name
pub names : (s : Sources) → map id_of (sources_in s) ≡ names_in s
names s = map-rows_from id_of (source_at s.marks.now s.runs.now s.views.now) 0 (length s.marks.now)

-- some sources are not none
pub not-empty : (g : ℕ → SourceId) (n : ℕ) → (n ≡ 0 → ⊥) → is_empty (rows_from g 0 n) ≡ false
unfolding rows_from
not-empty g zero h = absurd (h refl)
not-empty g (suc n) h = refl

-- ---- what is said of the rows that were found is said of the tree of the prefix
module _ (t : LentTrees) (prefix i : ℕ) (place : i ≡ leading (λ p. not (eqb p prefix)) (rows_from (λ k. get_or t.trees (3 * k) 0) 0 t.count)) (xs : List SourceId) (dest v : ℕ) where
  pub of-missing : t.count ≤ i → v ≡ 6 → v ≡ tiered_refusal xs dest (tree_with prefix (trees_of t))
  unfolding tiered_refusal
  of-missing h e = rw (tree-missing t prefix i place h) e

  pub of-found : i < t.count → (l c r d : ℕ) → Stands t.trees t.count i l c r d → r + d ≤ length t.run_ids
      → ((x : Tree) → logical_order x ≡ rows_from (order_at (take (4 * (l + c) - 4 * l) (drop (4 * l) t.l0_ids)) (take (r + d - r) (drop r t.run_ids)) c) 0 (c + length (take (r + d - r) (drop r t.run_ids))) → v ≡ tiered_refusal xs dest (some x))
      → v ≡ tiered_refusal xs dest (tree_with prefix (trees_of t))
  of-found h l c r d w fits says =
      rw (tree-found t prefix i place h, ← w.first_row, ← w.first_run)
      (says (tree_at t i l r) (one_list t i l r c d w.rows w.runs ∙ ap (λ (n : ℕ). rows_from (order_at (take (4 * (l + c) - 4 * l) (drop (4 * l) t.l0_ids)) (take (r + d - r) (drop r t.run_ids)) c) 0 (c + n)) (sym long)))
    where
      long : length (take (r + d - r) (drop r t.run_ids)) ≡ d
      long = simp (length-take, length-drop) (omega arith)
