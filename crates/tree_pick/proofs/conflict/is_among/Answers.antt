-- `tree_pick::conflict::is_among` meets its contract.
-- The loop's invariant: the row that is wanted is none of those before row i. Assumes nothing.
use Prim.Native.Nat.{ℕ}
use mathlib.Core.Path.{◌≡◌, sym, ap, ap₂, ◌∙◌}
use mathlib.Core.List.{List}
use mathlib.Core.Bool.{Bool, ◌||◌}
use lib.ListN.{get_or}
use lib.Seq.{take_all}
use Rattle.std.specs.List.{list_any}
use Rattle.std.proofs.lemmas.List.Folds.{list_any_at, list_any_more}
use Rattle.tree_pick.proofs.conflict.is_among.Goals as goal

-- what a test says of the row that was read it says of row i
of-row : {A : Type 0} (p : A → Bool) (rows : List A) (i : ℕ) (row : A) {b : Bool} → row ≡ get_or rows i row → p row ≡ b → p (get_or rows i row) ≡ b
of-row p rows i row is e = ap p (sym is) ∙ e

pub returns-then-eq : goal.returns-then-eq
returns-then-eq g c =
    let found = of-row (λ row. g.T.PartialEq.eq row c.args.wanted.now) c.args.rows.now c.loop-i.i c.index-rows-i.result c.index-rows-i.is (sym c.eq.ensures ∙ c.if-eq.true) in
    sym (list_any_at (λ row. g.T.PartialEq.eq row c.args.wanted.now) _ _ c.index-rows-i.result c.loop-i-test.true found)

pub loop-i-preserved : goal.loop-i-preserved
loop-i-preserved g c =
    let passed = of-row (λ row. g.T.PartialEq.eq row c.args.wanted.now) c.args.rows.now c.loop-i.i c.index-rows-i.result c.index-rows-i.is (sym c.eq.ensures ∙ c.if-eq.false) in
    list_any_more (λ row. g.T.PartialEq.eq row c.args.wanted.now) _ _ c.index-rows-i.result c.loop-i-test.true ∙ ap₂ ◌||◌ c.loop-i.invariant passed

pub returns : goal.returns
returns g c = sym c.loop-i.invariant ∙ ap (list_any _) (take_all _ _ c.loop-i-test.false)
