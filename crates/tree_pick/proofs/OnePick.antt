-- "One pick from a tree", by the places of its sources.
use Prim.Native.Nat.{ℕ, ◌+◌, ◌-◌, ◌≤◌, ◌<◌}
use mathlib.Core.Path.{◌≡◌, refl, sym, ap, ◌∙◌}
use mathlib.Core.List.{List, [], ◌∷◌, map}
use mathlib.Core.Bool.{Bool, true, false}
use mathlib.Core.Option.{some}
use native.Mathlib.Omega.{arith}
use lib.ListN.{length, drop, get_or, length-drop}
use lib.Seq.{length-take-le}
use Rattle.rules.specs.declared.Options.{Options}
use Rattle.rules.specs.Lists.{last_of}
use Rattle.rules.specs.declared.tables.SourceId.{SourceId}
use Rattle.rules.specs.declared.tables.SourceId.TheVariants.{SortedRun}
use Rattle.rules.specs.Tables.{Tree}
use Rattle.rules.specs.Windows.{last, window}
use Rattle.rules.specs.Pick.{run_pick, takes_rows, pick}
use Rattle.rules.proofs.Rows.{part-is}
use Rattle.std.specs.declared.option.Option.TheVariants.{None, Some}
use Rattle.tree_pick.specs.declared.pick.Pick.TheVariants.{Rows, Window}
use Rattle.tree_pick.specs.declared.tree.TreePart.{TreePart}
use Rattle.tree_pick.specs.Window.{Lies}
use Rattle.tree_pick.specs.Pick.{TreeIn, pick_in}
use Rattle.tree_pick.proofs.Parts.{last-drop, last-part}
use Rattle.tree_pick.proofs.OldestRows.{oldest-views}

module _ (o : Options) (w : List ℕ) {ids : List ℕ} {from count : ℕ} (l : Lies ids from count (last_of o.max w)) where
  sized : count ≡ length w - (length w - o.max)
  sized =
      sym (length-take-le count (drop from ids) (omega (arith, l.within, length-drop from ids)))
      ∙ ap length l.is
      ∙ length-drop (length w - o.max) w

  -- a window has at most max runs
  pub window-within : count ≤ o.max
  window-within = omega (arith, sized)

  -- and some where there is one
  pub window-some : 0 < o.max → 0 < length w → 1 ≤ count
  window-some z h = omega (arith, sized)

module _ (o : Options) (fresh : ℕ) (t : Tree) where
  some-run : (w : List ℕ) → 0 < length w → run_pick o fresh t w ≡ some (record { spec = record { prefix = t.prefix; sources = map SortedRun (last_of o.max w); destination = last w }; fresh = fresh })
  some-run [] h = absurd (omega arith)
  some-run (x ∷ xs) h = refl

module _ {p : TreePart} {t : Tree} (i : TreeIn p t) (lim : ℕ → ℕ) (o : Options) (used : SourceId → Bool) (fresh : ℕ) where
  -- step 1
  pub rows-picked : true ≡ takes_rows lim o used fresh t → {from : ℕ} → from ≡ length p.l0_sizes.now - o.max → pick_in p.prefix fresh p.l0_ids.now p.run_ids.now (Some (Rows from (length p.l0_sizes.now - from))) ≡ pick lim o used fresh t
  unfolding pick
  rows-picked e at = sym (rw (← e, oldest-views i o, i.prefix, ← at))

  -- "Otherwise" step 2
  module _ (e : false ≡ takes_rows lim o used fresh t) where
    abbrev w : List ℕ
    w = window lim o.min o.max used p.run_ids.now p.run_sizes.now

    second : pick lim o used fresh t ≡ run_pick o fresh t w
    unfolding pick
    second = rw (← e, i.ids, i.sizes)

    -- no window
    pub nothing-picked : w ≡ [] → pick_in p.prefix fresh p.l0_ids.now p.run_ids.now None ≡ pick lim o used fresh t
    nothing-picked c = sym (second ∙ rw c)

    -- the window lies there. "Destination: the last run."
    pub window-picked : 0 < o.max → 0 < length w → {from count : ℕ} → Lies p.run_ids.now from count (last_of o.max w) → pick_in p.prefix fresh p.l0_ids.now p.run_ids.now (Some (Window from count (get_or p.run_ids.now (from + (count - 1)) 0))) ≡ pick lim o used fresh t
    window-picked z c {from} {count} l =
        sym (second
        ∙ some-run o fresh t w c
        ∙ rw (← last-drop (length w - o.max) w (omega arith), ← l.is, last-part p.run_ids.now from count l.within (omega (arith, sized o w l)), ← part-is p.run_ids.now from count l.within, i.prefix))
