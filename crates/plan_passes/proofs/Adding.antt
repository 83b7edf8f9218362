-- A loop that adds the sources of a pick to the used ids, and the destination behind them.
use Prim.Native.Nat.{ℕ, ◌+◌, ◌≤◌, ◌<◌}
use mathlib.Core.Path.{◌≡◌, refl, sym, ap, ◌∙◌}
use mathlib.Core.List.{List, [], ◌∷◌, ◌++◌, map, map-append, append_assoc, append-nil}
use native.Mathlib.Nat.{add-zero}
use native.Mathlib.Omega.{arith}
use lib.ListN.{length, length-append}
use Rattle.rules.specs.declared.tables.SourceId.{SourceId}
use Rattle.rules.specs.declared.tables.SourceId.TheVariants.{SortedRun}
use Rattle.rules.specs.Lent.{rows_from}
use Rattle.rules.proofs.Rows.{rows_from-append, length-rows_from}
use Rattle.tree_pick.specs.declared.conflict.Key.{Key}
use Rattle.tree_pick.specs.declared.conflict.UsedIds.{UsedIds}
use Rattle.tree_pick.specs.Conflict.{key_of, keys_in, KeyAdded}
use Rattle.plan_passes.specs.Ask.{UsedMore}

-- k of the `count` sources from row `from` on are added
pub record Adding (f : ℕ → SourceId) (before : UsedIds) (prefix from count k : ℕ) (now : UsedIds) : Type 0 where
  pub within : k ≤ count
  pub same : now.keys.ghost_name ≡ before.keys.ghost_name
  pub kept : length now.keys.now ≡ length before.keys.now
  pub counted : now.count ≡ before.count + k
  pub rows : keys_in now ≡ keys_in before ++ map (key_of prefix) (rows_from f from k)

module _ {f : ℕ → SourceId} {before : UsedIds} {prefix from count : ℕ} where
  pub adding-starts : Adding f before prefix from count 0 before
  unfolding rows_from
  adding-starts = record { within = omega arith; same = refl; kept = refl; counted = sym (add-zero before.count); rows = sym (append-nil (keys_in before)) }

  module _ {k : ℕ} {now : UsedIds} (a : Adding f before prefix from count k now) where
    -- row from + k is added
    pub adding-next : k < count → {after : UsedIds} → KeyAdded now (key_of prefix (f (from + k))) after → Adding f before prefix from count (k + 1) after
    unfolding rows_from
    adding-next h e = record {
      within = omega arith;
      same = e.same ∙ a.same;
      kept = e.kept ∙ a.kept;
      counted = omega (arith, e.counted, a.counted);
      rows =
          e.rows
          ∙ ap (λ (ks : List Key). ks ++ (key_of prefix (f (from + k)) ∷ [])) a.rows
          ∙ rw (rows_from-append f from k 1, map-append, append_assoc);
    }

    -- all are added, and the destination
    pub adding-ends : count ≤ k → (d : ℕ) {after : UsedIds} → KeyAdded now (key_of prefix (SortedRun d)) after → UsedMore before prefix (rows_from f from count ++ (SortedRun d ∷ [])) after
    adding-ends h d e =
        let all : k ≡ count = omega (arith, a.within) in
        record {
          same = e.same ∙ a.same;
          kept = e.kept ∙ a.kept;
          counted = omega (arith, e.counted, a.counted, all, length-append (rows_from f from count) (SortedRun d ∷ []), length-rows_from f from count);
          rows =
              e.rows
              ∙ ap (λ (ks : List Key). ks ++ (key_of prefix (SortedRun d) ∷ [])) (rw all at a.rows)
              ∙ rw (map-append (key_of prefix) (rows_from f from count) (SortedRun d ∷ []), append_assoc);
        }
