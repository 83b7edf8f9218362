-- Refusals 1 and 2 of trees and jobs together, from those of each by itself.
use Prim.Native.Nat.{ℕ}
use mathlib.Core.Path.{◌≡◌, refl}
use mathlib.Core.Bool.{Bool, true, false, ◌||◌}
use native.Mathlib.Omega.{arith}
use Rattle.rules.specs.Lists.{◌given◌else◌}
use Rattle.rules.specs.Lent.{LentTrees, LentJobs}
use Rattle.rules.specs.Bounds.{trees_outside, jobs_outside, trees_misshapen, jobs_misshapen, trees_refusal, jobs_refusal}
use Rattle.rules.proofs.Bounds.{TreesGood, JobsGood, trees-good, jobs-good}
use Rattle.rows.specs.Refusals.{tables_refusal}

module _ (t : LentTrees) (j : LentJobs) where
  -- 1 of the trees
  pub trees-out : trees_outside t ≡ true → 1 ≡ tables_refusal t j
  unfolding tables_refusal
  trees-out a = rw a

  -- 1 of the jobs
  pub jobs-out : trees_outside t ≡ false → jobs_outside j ≡ true → 1 ≡ tables_refusal t j
  unfolding tables_refusal
  jobs-out a b = rw (a, b)

  module _ (a : trees_outside t ≡ false) (b : jobs_outside j ≡ false) where
    -- 2 of the trees
    pub trees-bad : (v : ℕ) → v ≡ trees_refusal t → (v ≡ 0 → ⊥) → v ≡ tables_refusal t j
    unfolding tables_refusal trees_refusal
    trees-bad v e n = rw (a, b) (go (trees_misshapen t) (rw a at e))
      where
        go : (c : Bool) → v ≡ (2 given c else 0) → v ≡ (2 given c || jobs_misshapen j else 0)
        go true e = e
        go false e = absurd (n e)

    -- what is left is the jobs'
    pub jobs-left : (v : ℕ) → trees_refusal t ≡ 0 → v ≡ jobs_refusal j → v ≡ tables_refusal t j
    unfolding tables_refusal jobs_refusal
    jobs-left v z e = rw (a, b, (trees-good t z).shapely) (rw b at e)

  -- where there is none, neither is refused by itself
  pub tables-good : tables_refusal t j ≡ 0 → TreesGood t × JobsGood j
  unfolding tables_refusal trees_refusal jobs_refusal
  tables-good z = go (trees_outside t) (jobs_outside j) (trees_misshapen t) (jobs_misshapen j) refl refl refl refl z
    where
      go : (a b c d : Bool) → trees_outside t ≡ a → jobs_outside j ≡ b → trees_misshapen t ≡ c → jobs_misshapen j ≡ d → (1 given a || b else 2 given c || d else 0) ≡ 0 → TreesGood t × JobsGood j
      go true b c d ea eb ec ed z = absurd (omega arith)
      go false true c d ea eb ec ed z = absurd (omega arith)
      go false false true d ea eb ec ed z = absurd (omega arith)
      go false false false true ea eb ec ed z = absurd (omega arith)
      go false false false false ea eb ec ed z = (trees-good t (rw (ea, ec)), jobs-good j (rw (eb, ed)))

  -- the call's own checks come behind
  pub tables-first : (v later : ℕ) → v ≡ tables_refusal t j → (v ≡ 0 → ⊥) → v ≡ (1 given trees_outside t || jobs_outside j else 2 given trees_misshapen t || jobs_misshapen j else later)
  unfolding tables_refusal
  tables-first v later e n = go (trees_outside t || jobs_outside j) (trees_misshapen t || jobs_misshapen j) e
    where
      go : (a b : Bool) → v ≡ (1 given a else 2 given b else 0) → v ≡ (1 given a else 2 given b else later)
      go true b e = e
      go false true e = e
      go false false e = absurd (n e)
