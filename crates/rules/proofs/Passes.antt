-- Passes, case by case: a pass that meets a tree, and passes that go on or end.
use Prim.Native.Nat.{ℕ, suc}
use mathlib.Core.Path.{◌≡◌, refl}
use mathlib.Core.Logic.{◌≢◌}
use mathlib.Core.List.{List, [], ◌∷◌}
use mathlib.Core.Bool.{true, false}
use mathlib.Core.Option.{some, none}
use borrow.Author.Tests.{eq-eqb, ne_eqb}
use Rattle.rules.specs.declared.Options.{Options}
use Rattle.rules.specs.Tables.{Tree}
use Rattle.rules.specs.Pick.{Picked, pick}
use Rattle.rules.specs.Plan.{State, with_pick, ask, pass, picked, passes_from}

module _ (lim : ℕ → ℕ) (o : Options) where
  -- ---- a pass, case by case

  -- "the pass stops at the first tree met with no slot left"
  pub pass-stops : (ts : List Tree) (st : State) → st.slots ≡ 0 → pass lim o ts st ≡ st
  unfolding pass
  pass-stops [] st e = refl
  pass-stops (t ∷ ts) st e = rw (eq-eqb st.slots 0 e)

  -- a tree without a pick
  pub pass-none : (t : Tree) (ts : List Tree) (st : State) → st.slots ≢ 0
      → pick lim o (st.used t.prefix) st.fresh t ≡ none
      → pass lim o (t ∷ ts) st ≡ pass lim o ts st
  unfolding pass ask
  pass-none t ts st h e = rw (ne_eqb st.slots 0 h, e)

  -- a tree with one
  pub pass-some : (t : Tree) (ts : List Tree) (st : State) (p : Picked) → st.slots ≢ 0
      → pick lim o (st.used t.prefix) st.fresh t ≡ some p
      → pass lim o (t ∷ ts) st ≡ pass lim o ts (with_pick (some p) st)
  unfolding pass ask
  pass-some t ts st p h e = rw (ne_eqb st.slots 0 h, e)

  -- ---- passes, case by case

  -- "Planning ends after a pass without a pick."
  pub passes-end : (ts : List Tree) (n passed : ℕ) (st : State) → picked st (pass lim o ts st) ≡ false
      → passes_from lim o ts (suc n) passed st ≡ record { specs = (pass lim o ts st).specs; passes = passed }
  unfolding passes_from
  passes-end ts n passed st e = rw e

  -- and goes on after one with a pick
  pub passes-go-on : (ts : List Tree) (n passed : ℕ) (st : State) → picked st (pass lim o ts st) ≡ true
      → passes_from lim o ts (suc n) passed st ≡ passes_from lim o ts n (suc passed) (pass lim o ts st)
  unfolding passes_from
  passes-go-on ts n passed st e = rw e
