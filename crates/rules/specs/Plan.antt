-- "One planning call" of document 01: the first fresh number, the free slots, the order of trees, passes.
use Rattle.std.specs.Prelude.{ℕ, zero, suc, ◌-◌, min, List, [], ◌∷◌, ◌++◌, map, Bool, cond, ◌&&◌, ◌||◌, not, leb, eqb, length}
use Rattle.std.proofs.Math.Option.{Option, some, none}
use Rattle.rules.specs.declared.Options.{Options}
use Rattle.rules.specs.Lists.{keep, one_above}
use Rattle.rules.specs.declared.tables.SourceId.{SourceId}
use Rattle.rules.specs.Tables.{Tree, Job, among, active, holds_slot, is_drain}
use Rattle.rules.specs.Lent.{runs_of}
use Rattle.rules.specs.Windows.{used_ids}
use Rattle.rules.specs.Pick.{Spec, Picked, pick, spec_uses, own_list, ids_of, last_run}

-- "one above the largest of all committed run ids and active destinations, 0 if there are none, and stops at
-- 4,294,967,295. Active sources do not count here."; of a job of an unknown prefix "its destination counts"
unfoldable pub first_fresh : List Tree → List Job → ℕ
first_fresh ts js =
    min (one_above (ids_of (runs_of ts) ++ map (λ j. j.destination) (keep (λ j. active j && not (is_drain j)) js))) last_run

-- "F is the concurrent limit less the slots held, 0 if negative."; a job of an unknown prefix "holds a slot"
unfoldable pub free_slots : Options → List Job → ℕ
free_slots o js = o.concurrent - length (keep holds_slot js)

-- "Trees are ordered by L0 count, largest first, ties in manifest order."
unfoldable pub placed : Tree → List Tree → List Tree
placed t [] = t ∷ []
placed t (u ∷ us) = cond (leb (length u.l0) (length t.l0)) (t ∷ u ∷ us) (u ∷ placed t us)

unfoldable pub ordered : List Tree → List Tree
ordered [] = []
ordered (t ∷ ts) = placed t (ordered ts)

-- a planning call under way: what is used of each tree, by prefix, the slots left, the next fresh number, and the specs
-- picked so far
pub record State : Type 0 where
  pub used : ℕ → SourceId → Bool
  pub slots : ℕ
  pub fresh : ℕ
  pub specs : List Spec

-- "Specs picked in this call are added.": to what is used of their tree
abbrev pub with_pick : Option Picked → State → State
with_pick none st = st
with_pick (some p) st = record {
  used = λ prefix x. st.used prefix x || (eqb p.spec.prefix prefix && among x (spec_uses p.spec));
  slots = st.slots - 1;
  fresh = p.fresh;
  specs = st.specs ++ (p.spec ∷ []);
}

-- a tree is asked once
unfoldable pub ask : (ℕ → ℕ) → Options → Tree → State → State
ask lim o t st = with_pick (pick lim o (st.used t.prefix) st.fresh t) st

-- "Each pass asks every tree once; the pass stops at the first tree met with no slot left."
unfoldable pub pass : (ℕ → ℕ) → Options → List Tree → State → State
pass lim o [] st = st
pass lim o (t ∷ ts) st = cond (eqb st.slots 0) st (pass lim o ts (ask lim o t st))

-- the specs, and "the number of passes that picked something"
pub record Plan : Type 0 where
  pub specs : List Spec
  pub passes : ℕ

abbrev pub picked : State → State → Bool
picked before after = not (eqb (length after.specs) (length before.specs))

-- "Planning ends after a pass without a pick.": after n passes at the most. A pass that picks takes a slot, so that as
-- many as there are free slots suffice
unfoldable pub passes_from : (ℕ → ℕ) → Options → List Tree → ℕ → ℕ → State → Plan
passes_from lim o ts zero done st = record { specs = st.specs; passes = done }
passes_from lim o ts (suc n) done st =
    let next = pass lim o ts st in
    cond (picked st next) (passes_from lim o ts n (suc done) next) (record { specs = next.specs; passes = done })

-- the state at the start of a call
abbrev pub start : Options → List Tree → List Job → State
start o ts js = record {
  used = λ prefix x. among x (used_ids js prefix);
  slots = free_slots o js;
  fresh = first_fresh ts js;
  specs = [];
}

-- "One planning call"
unfoldable pub planned : (ℕ → ℕ) → Options → List Tree → List Job → Plan
planned lim o ts js = passes_from lim o (ordered ts) (free_slots o js) 0 (start o ts js)

-- "A tree's own list: picks from this tree only, starting with the call's used ids and first fresh number"
unfoldable pub own_list_of : (ℕ → ℕ) → Options → List Tree → List Job → Tree → List Spec
own_list_of lim o ts js t = own_list lim o (λ x. among x (used_ids js t.prefix)) (first_fresh ts js) t
