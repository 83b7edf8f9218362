-- Step 1 of a pick, on the slices that hold a tree's rows.
use Prim.Native.Nat.{ℕ, ◌+◌, ◌-◌, ◌*◌, ◌≤◌, ◌<◌}
use mathlib.Core.Path.{◌≡◌, sym, ap, ◌∙◌}
use mathlib.Core.List.{List, map}
use mathlib.Core.Bool.{Bool, true, false, ◌&&◌, not, and-false}
use native.Mathlib.Nat.{zero-add}
use native.Mathlib.Omega.{arith}
use borrow.Author.Tests.{le-leb, lt-leb}
use lib.Dec.{leb}
use lib.ListN.{length, drop, get_or}
use lib.Seq.{drop_at}
use Rattle.rules.specs.declared.Options.{Options}
use Rattle.rules.specs.Lists.{all, total}
use Rattle.rules.specs.declared.tables.SourceId.{SourceId}
use Rattle.rules.specs.declared.tables.SourceId.TheVariants.{SortedRun, SstView}
use Rattle.rules.specs.Tables.{Tree, view_id}
use Rattle.rules.specs.Lent.{rows_from, ulid_at}
use Rattle.rules.specs.Chain.{held_back}
use Rattle.rules.specs.Windows.{passes}
use Rattle.rules.specs.Pick.{l0_sizes_of, oldest, takes_rows}
use Rattle.rules.proofs.Rows.{length-rows_from, rows_from-append, rows_are, map-rows_from}
use Rattle.tree_pick.specs.declared.tree.TreePart.{TreePart}
use Rattle.tree_pick.specs.Asked.{row_in}
use Rattle.tree_pick.specs.Pick.{TreeIn, views_in}
use Rattle.rules.proofs.Appended.{all_append}

-- the rows from row k on
drop-rows_from : {A : Type 0} (f : ℕ → A) (n k : ℕ) → k ≤ n → drop k (rows_from f 0 n) ≡ rows_from f k (n - k)
drop-rows_from f n k h =
    let whole : n ≡ k + (n - k) = omega arith in
    ap (λ (m : ℕ). drop k (rows_from f 0 m)) whole
    ∙ ap (drop k) (rows_from-append f 0 k (n - k))
    ∙ drop_at (rows_from f 0 k) (rows_from f (0 + k) (n - k)) k (length-rows_from f 0 k)
    ∙ ap (λ (i : ℕ). rows_from f i (n - k)) (zero-add k)

-- a slice is its numbers, one after another
numbers : (s : List ℕ) → rows_from (λ i. get_or s i 0) 0 (length s) ≡ s
numbers s = rows_are (λ i. get_or s i 0) 0 0 s (λ k h. ap (λ (i : ℕ). get_or s i 0) (zero-add k))

module _ {p : TreePart} {t : Tree} (i : TreeIn p t) where
  pub counted : length t.l0 ≡ length p.l0_sizes.now
  counted = ap length i.l0 ∙ length-rows_from (row_in p.l0_ids.now p.l0_sizes.now) 0 (length p.l0_sizes.now)

  module _ (o : Options) where
    -- "take the last max of them (the oldest), in table order"
    oldest-rows : oldest o t ≡ rows_from (row_in p.l0_ids.now p.l0_sizes.now) (length p.l0_sizes.now - o.max) (length p.l0_sizes.now - (length p.l0_sizes.now - o.max))
    oldest-rows = rw (counted, i.l0) (drop-rows_from (row_in p.l0_ids.now p.l0_sizes.now) (length p.l0_sizes.now) (length p.l0_sizes.now - o.max) (omega arith))

    pub oldest-views : map view_id (oldest o t) ≡ views_in p.l0_ids.now (length p.l0_sizes.now - o.max) (length p.l0_sizes.now - (length p.l0_sizes.now - o.max))
    oldest-views =
        ap (map view_id) oldest-rows
        ∙ map-rows_from view_id (row_in p.l0_ids.now p.l0_sizes.now) _ _
        ∙ sym (map-rows_from SstView (λ k. ulid_at p.l0_ids.now (4 * k)) _ _)

    oldest-sizes : l0_sizes_of (oldest o t) ≡ drop (length p.l0_sizes.now - o.max) p.l0_sizes.now
    oldest-sizes =
        ap l0_sizes_of oldest-rows
        ∙ map-rows_from (λ v. v.size) (row_in p.l0_ids.now p.l0_sizes.now) _ _
        ∙ sym (drop-rows_from (λ k. get_or p.l0_sizes.now k 0) (length p.l0_sizes.now) (length p.l0_sizes.now - o.max) (omega arith))
        ∙ ap (drop (length p.l0_sizes.now - o.max)) (numbers p.l0_sizes.now)

    module _ (lim : ℕ → ℕ) (used : SourceId → Bool) (fresh : ℕ) where
      rows_taken : takes_rows lim o used fresh t ≡ leb o.min (length p.l0_sizes.now) && ((all (λ x. not (used x)) (views_in p.l0_ids.now (length p.l0_sizes.now - o.max) (length p.l0_sizes.now - (length p.l0_sizes.now - o.max))) && (not (used (SortedRun fresh)) && true)) && not (held_back lim o.max (total (drop (length p.l0_sizes.now - o.max) p.l0_sizes.now)) p.run_sizes.now))
      unfolding takes_rows passes all
      rows_taken = rw (oldest-sizes, oldest-views, counted, all_append, i.sizes)

      -- there are too few
      pub rows_few : length p.l0_sizes.now < o.min → false ≡ takes_rows lim o used fresh t
      rows_few h = sym (rows_taken ∙ rw (lt-leb _ _ h))

      -- the fresh number is used
      pub fresh-used : true ≡ used (SortedRun fresh) → false ≡ takes_rows lim o used fresh t
      fresh-used e = sym (rows_taken ∙ rw (← e, and-false, and-false))

      -- the rows start at row `from`
      module _ {from : ℕ} (at : from ≡ length p.l0_sizes.now - o.max) where
        -- one of them is used
        pub rows-used : false ≡ all (λ x. not (used x)) (views_in p.l0_ids.now from (length p.l0_sizes.now - from)) → false ≡ takes_rows lim o used fresh t
        rows-used e = sym (rows_taken ∙ rw (← at, ← e, and-false))

        -- holding back decides
        pub rows-decided : o.min ≤ length p.l0_sizes.now → true ≡ all (λ x. not (used x)) (views_in p.l0_ids.now from (length p.l0_sizes.now - from)) → false ≡ used (SortedRun fresh) → {b : Bool} → b ≡ held_back lim o.max (total (drop from p.l0_sizes.now)) p.run_sizes.now → not b ≡ takes_rows lim o used fresh t
        rows-decided h e f g = sym (rows_taken ∙ rw (← at, ← e, ← f, ← g, le-leb _ _ h))
