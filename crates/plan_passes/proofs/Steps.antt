-- What adding a pick makes of a planning call's state.
use Prim.Native.Nat.{ℕ, ◌+◌, ◌-◌, ◌*◌, ◌≤◌}
use mathlib.Core.Path.{◌≡◌, refl, sym, ap, ◌∙◌, fun_ext}
use mathlib.Core.List.{List, [], ◌∷◌, ◌++◌, map, map-append}
use mathlib.Core.Bool.{Bool, ◌&&◌, ◌||◌}
use mathlib.Core.Option.{some, none}
use native.Mathlib.Nat.{sub-zero}
use native.Mathlib.Omega.{arith}
use lib.Dec.{eqb}
use lib.ListN.{get_or, length-append}
use Rattle.std.specs.declared.option.Option.TheVariants.{None, Some}
use Rattle.rules.specs.declared.tables.SourceId.{SourceId}
use Rattle.rules.specs.declared.tables.SourceId.TheVariants.{SortedRun, SstView}
use Rattle.rules.specs.Tables.{among}
use Rattle.rules.specs.Lent.{LentTrees, ulid_at}
use Rattle.rules.specs.Bounds.{max_l0, max_runs}
use Rattle.rules.specs.Pick.{Spec, risen, spec_uses}
use Rattle.rules.specs.Plan.{with_pick}
use Rattle.rules.proofs.Rows.{length-rows_from, map-rows_from}
use Rattle.tree_pick.specs.declared.pick.Pick.TheVariants.{Rows, Window}
use Rattle.tree_pick.specs.declared.conflict.Key.{Key}
use Rattle.tree_pick.specs.declared.conflict.UsedIds.{UsedIds}
use Rattle.tree_pick.specs.Conflict.{key_of, keys_in, used_in}
use Rattle.tree_pick.proofs.UsedIds.{used-more, used-of-tree}
use Rattle.plan_passes.specs.declared.picks.SourceKind.TheVariants.{SstViews, SortedRuns}
use Rattle.plan_passes.specs.declared.picks.PickRow.{PickRow}
use Rattle.plan_passes.specs.declared.picks.Picks.{Picks}
use Rattle.plan_passes.specs.Picks.{source_in, spec_of, PickWithin, picks_in, PickAdded}
use Rattle.plan_passes.specs.Ask.{UsedMore, RowOf, Kept, Step}
use Rattle.plan_passes.proofs.PickRows.{within-more}

-- "Specs picked in this call are added.": to what is used of their tree
used-with : (ks : List Key) (s : Spec) → (λ (prefix : ℕ) (x : SourceId). used_in ks prefix x || (eqb s.prefix prefix && among x (spec_uses s))) ≡ used_in (ks ++ map (key_of s.prefix) (spec_uses s))
used-with ks s =
    fun_ext (λ q. fun_ext (λ x. sym (used-more ks (map (key_of s.prefix) (spec_uses s)) q x ∙ ap (λ (b : Bool). used_in ks q x || b) (used-of-tree s.prefix (spec_uses s) q x))))

module _ {t : LentTrees} {used : UsedIds} {picks : Picks} {fresh : ℕ} where
  -- no pick
  pub step-none : Step (with_pick none) t used fresh picks None used picks
  step-none = record { state = λ slots. rw sub-zero }

  -- a pick: its row is added, and what it uses
  pub step-some : (row : PickRow) {used' : UsedIds} {picks' : Picks} → UsedMore used row.prefix (spec_uses (spec_of t row)) used' → PickAdded picks row picks' → (next : ℕ) → Step (with_pick (some (record { spec = spec_of t row; fresh = next }))) t used fresh picks (Some next) used' picks'
  step-some row a b next = record {
    state = λ slots i. record {
      used = (used-with (keys_in used) (spec_of t row) ∙ ap (λ (ks : List Key). used_in ks) (sym a.rows)) i;
      slots = slots - 1;
      fresh = next;
      specs = sym (ap (map (spec_of t)) b.rows ∙ map-append (spec_of t) (picks_in picks) (row ∷ [])) i;
    };
  }

-- and the tables keep their lengths
module _ {used : UsedIds} {picks : Picks} where
  pub kept-none : Kept used picks None used picks
  kept-none = record { used_same = refl; used_kept = refl; picks_same = refl; picks_kept = refl; grown = omega arith; counted = omega arith; within = λ w. w }

  pub kept-some : (t : LentTrees) (row : PickRow) {used' : UsedIds} {picks' : Picks} → UsedMore used row.prefix (spec_uses (spec_of t row)) used' → PickAdded picks row picks' → (next : ℕ) → PickWithin row → row.count ≤ 64 → Kept used picks (Some next) used' picks'
  kept-some t row a b next w few = record {
    used_same = a.same;
    used_kept = a.kept;
    picks_same = b.same;
    picks_kept = b.kept;
    grown = omega (arith, a.counted, few, length-append (spec_of t row).sources (SortedRun row.destination ∷ []), length-rows_from (source_in t row.kind) row.from row.count);
    counted = b.counted;
    within = λ v. rw b.rows (within-more (picks_in picks) row v w);
  }

-- ---- the row of a pick
module _ (prefix fresh from count : ℕ) (few : count ≤ 64) where
  pub of-views : from + count ≤ max_l0 → RowOf prefix fresh (Rows from count) (record { prefix = prefix; destination = fresh; kind = SstViews; from = from; count = count })
  of-views h = record {
    prefix = refl;
    within = h;
    few = few;
    is = λ t. ap (λ (ss : List SourceId). some (record { spec = record { prefix = prefix; sources = ss; destination = fresh }; fresh = risen fresh })) (map-rows_from SstView (λ i. ulid_at t.l0_ids (4 * i)) from count);
  }

  pub of-runs : (destination : ℕ) → from + count ≤ max_runs → RowOf prefix fresh (Window from count destination) (record { prefix = prefix; destination = destination; kind = SortedRuns; from = from; count = count })
  of-runs destination h = record {
    prefix = refl;
    within = h;
    few = few;
    is = λ t. ap (λ (ss : List SourceId). some (record { spec = record { prefix = prefix; sources = ss; destination = destination }; fresh = fresh })) (map-rows_from SortedRun (λ i. get_or t.run_ids i 0) from count);
  }
