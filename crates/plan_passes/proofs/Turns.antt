-- Passes, one tree at a time, and planning, one pass at a time.
use Prim.Native.Nat.{ℕ, zero, suc, ◌+◌, ◌-◌, ◌*◌, ◌≤◌, ◌<◌}
use mathlib.Core.Path.{◌≡◌, refl, sym, ap, ◌∙◌}
use mathlib.Core.List.{List, []}
use mathlib.Core.Logic.{◌⊎◌, ⊎_elim}
use native.Mathlib.Nat.{sub-zero, not-suc-le-zero}
use native.Mathlib.Numerals.{add-one}
use native.Mathlib.Omega.{arith}
use borrow.Author.Tests.{eq-eqb, ne_eqb}
use lib.ListN.{length, drop, get_or, drop_of_length-le, length-map}
use lib.Seq.{drop-cons, length-take-le}
use Rattle.std.specs.declared.option.Option as rust
use Rattle.std.specs.declared.option.Option.TheVariants.{None, Some}
use Rattle.rules.specs.declared.Options.{Options}
use Rattle.rules.specs.Tables.{Tree}
use Rattle.rules.specs.Lent.{LentTrees}
use Rattle.rules.specs.Plan.{State, ask, pass, Plan, passes_from}
use Rattle.rules.proofs.Passes.{pass-stops}
use Rattle.tree_pick.specs.declared.tree.AskedTree.{AskedTree}
use Rattle.tree_pick.specs.declared.conflict.UsedIds.{UsedIds}
use Rattle.tree_pick.specs.Asked.{AskedAt}
use Rattle.plan_passes.specs.declared.picks.Picks.{Picks}
use Rattle.plan_passes.specs.Picks.{spec_of, specs_of, PicksWithin, picks_in}
use Rattle.plan_passes.specs.Ask.{given, fresh_by, state_in, Kept, Step}
use Rattle.plan_passes.specs.Passes.{AskedAll, Made, Plans}

module _ (lim : ℕ → ℕ) (o : Options) where
  -- ---- a pass

  -- no tree is left
  pass-ends : (ts : List Tree) (i : ℕ) (st : State) → length ts ≤ i → pass lim o (drop i ts) st ≡ st
  unfolding pass
  pass-ends ts i st h = rw (drop_of_length-le ts h)

  -- tree i is asked
  pass-asks : (ts : List Tree) (i : ℕ) (d : Tree) (st : State) → i < length ts → (st.slots ≡ 0 → ⊥) → pass lim o (drop i ts) st ≡ pass lim o (drop (i + 1) ts) (ask lim o (get_or ts i d) st)
  unfolding pass
  pass-asks ts i d st h e = rw (add-one, drop-cons ts i d, ne_eqb _ _ e)

  -- ---- planning

  module _ (ts : List Tree) (done : ℕ) (st st' : State) (e : pass lim o ts st ≡ st') where
    -- "Planning ends after a pass without a pick."
    last-pass : (n : ℕ) → st.slots ≤ n → length st'.specs ≡ length st.specs → passes_from lim o ts n done st ≡ record { specs = st'.specs; passes = done }
    unfolding passes_from
    last-pass zero h g = rw (sym e ∙ pass-stops lim o ts st (omega arith))
    last-pass (suc n) h g = rw (e, eq-eqb _ _ g)

    next-pass : (n : ℕ) → 0 < n → (length st'.specs ≡ length st.specs → ⊥) → passes_from lim o ts n done st ≡ passes_from lim o ts (n - 1) (done + 1) st'
    unfolding passes_from
    next-pass zero h g = absurd (omega arith)
    next-pass (suc n) h g = rw (e, ne_eqb _ _ g, add-one, same)
      where
        same : suc n - 1 ≡ n
        same = omega arith

-- ---- as the loops meet them

-- tree i is next in a pass that began with the numbers and tables marked ₀
pub record Passing (lim : ℕ → ℕ) (o : Options) (asked : List AskedTree) (t : LentTrees) (used₀ : UsedIds) (picks₀ : Picks) (left₀ next₀ : ℕ) (used : UsedIds) (picks : Picks) (left next i : ℕ) : Type 0 where
  pub used_same : used.keys.ghost_name ≡ used₀.keys.ghost_name
  pub used_kept : length used.keys.now ≡ length used₀.keys.now
  pub picks_same : picks.rows.ghost_name ≡ picks₀.rows.ghost_name
  pub picks_kept : length picks.rows.now ≡ length picks₀.rows.now
  pub within : i ≤ length asked
  pub room : used.count + 65 * left ≤ used₀.count + 65 * left₀
  pub slots : picks.count + left ≡ picks₀.count + left₀
  pub fewer : left ≤ left₀
  pub placed : PicksWithin (picks_in picks₀) → PicksWithin (picks_in picks)
  pub goes : (ts : List Tree) → AskedAll asked t ts → pass lim o ts (state_in t used₀ left₀ next₀ picks₀) ≡ pass lim o (drop i ts) (state_in t used left next picks)

-- `passes` passes that picked something are over
pub record Planning (lim : ℕ → ℕ) (o : Options) (asked : List AskedTree) (t : LentTrees) (slots fresh : ℕ) (used₀ : UsedIds) (picks₀ : Picks) (used : UsedIds) (picks : Picks) (left next passes : ℕ) : Type 0 where
  pub used_same : used.keys.ghost_name ≡ used₀.keys.ghost_name
  pub used_kept : length used.keys.now ≡ length used₀.keys.now
  pub picks_same : picks.rows.ghost_name ≡ picks₀.rows.ghost_name
  pub picks_kept : length picks.rows.now ≡ length picks₀.rows.now
  pub room : used.count + 65 * left ≤ used₀.count + 65 * slots
  pub held : picks.count + left ≡ slots
  pub turns : passes + left ≤ slots
  pub placed : PicksWithin (picks_in picks)
  pub goes : (ts : List Tree) → AskedAll asked t ts → passes_from lim o ts slots 0 (state_in t used₀ slots fresh picks₀) ≡ passes_from lim o ts (slots - passes) passes (state_in t used left next picks)

abbrev pub no_asked : AskedTree
no_asked = record { prefix = 0; l0_from = 0; l0_count = 0; run_from = 0; run_count = 0 }

no_tree : Tree
no_tree = record {
  prefix = 0;
  watermark = record { view_mark = 0; sst_mark = 0; view = record { high = 0; low = 0 }; sst = record { high = 0; low = 0 } };
  l0 = [];
  runs = [];
}

-- as many specs as picks in use
length-specs : (t : LentTrees) (picks : Picks) → picks.count ≤ length picks.rows.now → length (specs_of t (picks_in picks)) ≡ picks.count
length-specs t picks h = length-map (picks_in picks) (spec_of t) ∙ length-take-le picks.count picks.rows.now h

module _ {lim : ℕ → ℕ} {o : Options} {asked : List AskedTree} {t : LentTrees} where
  pub pass-starts : {used : UsedIds} {picks : Picks} {left next : ℕ} → Passing lim o asked t used picks left next used picks left next 0
  pass-starts = record { used_same = refl; used_kept = refl; picks_same = refl; picks_kept = refl; within = omega arith; room = omega arith; slots = refl; fewer = omega arith; placed = λ w. w; goes = λ ts a. refl }

  module _ {used₀ : UsedIds} {picks₀ : Picks} {left₀ next₀ : ℕ} {used : UsedIds} {picks : Picks} {left next i : ℕ} (p : Passing lim o asked t used₀ picks₀ left₀ next₀ used picks left next i) where
    -- tree i was asked
    pub pass-next : (x : rust.Option ℕ) → i < length asked → (left ≡ 0 → ⊥) → {used' : UsedIds} {picks' : Picks} → Kept used picks x used' picks'
        → ((tree : Tree) → AskedAt (get_or asked i no_asked) t tree → Step (ask lim o tree) t used next picks x used' picks')
        → Passing lim o asked t used₀ picks₀ left₀ next₀ used' picks' (left - given x) (fresh_by next x) (i + 1)
    pass-next x h e k s =
        let once : given x ≤ 1 = at-most x in
        record {
          used_same = k.used_same ∙ p.used_same;
          used_kept = k.used_kept ∙ p.used_kept;
          picks_same = k.picks_same ∙ p.picks_same;
          picks_kept = k.picks_kept ∙ p.picks_kept;
          within = omega arith;
          room = omega (arith, once, k.grown, p.room);
          slots = omega (arith, once, k.counted, p.slots);
          fewer = omega (arith, p.fewer);
          placed = λ w. k.within (p.placed w);
          goes = λ ts a.
              p.goes ts a
              ∙ pass-asks lim o ts i no_tree (state_in t used left next picks) (omega (arith, a.counted)) e
              ∙ ap (pass lim o (drop (i + 1) ts)) ((s (get_or ts i no_tree) (a.at i no_asked no_tree h)).state left);
        }
      where
        at-most : (x : rust.Option ℕ) → given x ≤ 1
        at-most None = omega arith
        at-most (Some n) = omega arith

    -- every tree was asked, or no slot is left
    pub pass-over : (length asked ≤ i) ⊎ (left ≡ 0) → (ts : List Tree) → AskedAll asked t ts → pass lim o ts (state_in t used₀ left₀ next₀ picks₀) ≡ state_in t used left next picks
    pass-over w ts a =
        p.goes ts a
        ∙ ⊎_elim (λ h. pass-ends lim o ts i (state_in t used left next picks) (omega (arith, a.counted)))
        (λ h. pass-stops lim o (drop i ts) (state_in t used left next picks) h) w

  module _ {slots fresh : ℕ} {used₀ : UsedIds} {picks₀ : Picks} where
    pub planning-starts : picks₀.count ≡ 0 → Planning lim o asked t slots fresh used₀ picks₀ used₀ picks₀ slots fresh 0
    planning-starts z = record {
      used_same = refl;
      used_kept = refl;
      picks_same = refl;
      picks_kept = refl;
      room = omega arith;
      held = omega (arith, z);
      turns = omega arith;
      placed = record { at = λ k d h. absurd (not-suc-le-zero (rw z at h)) };
      goes = λ ts a. rw sub-zero;
    }

    module _ {used : UsedIds} {picks : Picks} {left next passes : ℕ} (p : Planning lim o asked t slots fresh used₀ picks₀ used picks left next passes) {used' : UsedIds} {picks' : Picks} {left' next' i : ℕ} (q : Passing lim o asked t used picks left next used' picks' left' next' i) where
      -- "Every slot has room for a pick"
      pub room-left : (left' ≡ 0 → ⊥) → used₀.count + 65 * slots ≤ length used₀.keys.now → slots ≤ length picks₀.rows.now → (used'.count + 65 ≤ length used'.keys.now) × (picks'.count < length picks'.rows.now)
      room-left e h g =
          (omega (arith, q.used_kept, p.used_kept, q.room, p.room), omega (arith, q.picks_kept, p.picks_kept, q.slots, p.held))

      pub planning-made : Made used₀ picks₀ slots used' picks'
      planning-made = record {
        used_same = q.used_same ∙ p.used_same;
        used_kept = q.used_kept ∙ p.used_kept;
        picks_same = q.picks_same ∙ p.picks_same;
        picks_kept = q.picks_kept ∙ p.picks_kept;
        most = omega (arith, q.slots, p.held);
        within = q.placed p.placed;
      }

      module _ (w : (length asked ≤ i) ⊎ (left' ≡ 0)) (g : slots ≤ length picks₀.rows.now) where
        before : length (specs_of t (picks_in picks)) ≡ picks.count
        before = length-specs t picks (omega (arith, p.picks_kept, p.held))

        after : length (specs_of t (picks_in picks')) ≡ picks'.count
        after = length-specs t picks' (omega (arith, q.picks_kept, p.picks_kept, q.slots, p.held))

        -- it picked something
        pub planning-next : (picks'.count ≡ picks.count → ⊥) → Planning lim o asked t slots fresh used₀ picks₀ used' picks' left' next' (passes + 1)
        planning-next e =
            let fuel : slots - passes - 1 ≡ slots - (passes + 1) = omega arith in
            record {
              used_same = q.used_same ∙ p.used_same;
              used_kept = q.used_kept ∙ p.used_kept;
              picks_same = q.picks_same ∙ p.picks_same;
              picks_kept = q.picks_kept ∙ p.picks_kept;
              room = omega (arith, q.room, p.room);
              held = omega (arith, q.slots, p.held);
              turns = omega (arith, q.slots, q.fewer, p.turns);
              placed = q.placed p.placed;
              goes = λ ts a.
                  p.goes ts a
                  ∙ next-pass lim o ts passes (state_in t used left next picks) (state_in t used' left' next' picks') (pass-over q w ts a) (slots - passes) (omega (arith, q.slots, q.fewer, p.turns))
                  (λ m. e (sym after ∙ m ∙ before))
                  ∙ ap (λ (m : ℕ). passes_from lim o ts m (passes + 1) (state_in t used' left' next' picks')) fuel;
            }

        -- it picked nothing
        pub planning-ends : picks'.count ≡ picks.count → (ts : List Tree) → AskedAll asked t ts → Plans (passes_from lim o ts slots 0 (state_in t used₀ slots fresh picks₀)) t passes picks'
        planning-ends e ts a =
            let end : passes_from lim o ts slots 0 (state_in t used₀ slots fresh picks₀) ≡ record { specs = specs_of t (picks_in picks'); passes = passes } = p.goes ts a ∙ last-pass lim o ts passes (state_in t used left next picks) (state_in t used' left' next' picks') (pass-over q w ts a) (slots - passes) (omega (arith, p.turns)) (after ∙ e ∙ sym before) in
            record { rows = sym (ap (λ (x : Plan). x.specs) end); turns = sym (ap (λ (x : Plan). x.passes) end) }
