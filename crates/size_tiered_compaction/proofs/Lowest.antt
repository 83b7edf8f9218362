-- The lowest run among the sources, found from the first source on.
use Prim.Native.Nat.{ℕ, ◌+◌, ◌-◌, ◌≤◌, ◌<◌, min}
use mathlib.Core.Path.{◌≡◌, refl, sym, ap, ◌∙◌}
use mathlib.Core.List.{List, [], ◌∷◌}
use mathlib.Core.Option.{Option, some, none}
use native.Mathlib.Nat.{sub-zero}
use native.Mathlib.Omega.{arith}
use Rattle.rules.specs.declared.tables.Ulid.{Ulid}
use Rattle.rules.specs.declared.tables.SourceId.{SourceId}
use Rattle.rules.specs.declared.tables.SourceId.TheVariants.{SortedRun, SstView}
use Rattle.rules.specs.Lent.{rows_from}
use Rattle.rules.specs.Validation.{lowest_run}
use Rattle.rules.proofs.Rows.{rows_next, rows_end}
use Rattle.size_tiered_compaction.specs.LogicalOrder.{joined_low}

joined-assoc : (a b c : Option ℕ) → joined_low (joined_low a b) c ≡ joined_low a (joined_low b c)
joined-assoc none b c = refl
joined-assoc (some x) none c = refl
joined-assoc (some x) (some y) none = refl
joined-assoc (some x) (some y) (some z) = ap some (go x y z)
  where
    go : (x y z : ℕ) → min (min x y) z ≡ min x (min y z)
    go x y z = omega arith

joined-none : (x : Option ℕ) → joined_low x none ≡ x
joined-none none = refl
joined-none (some x) = refl

first-low : (s : SourceId) (xs : List SourceId) → lowest_run (s ∷ xs) ≡ joined_low (lowest_run (s ∷ [])) (lowest_run xs)
unfolding lowest_run
first-low (SortedRun r) xs = refl
first-low (SstView v) xs = refl

-- at source k: the lowest so far, with that of the sources left, is that of all
pub record Lower (g : ℕ → SourceId) (n k : ℕ) (low : Option ℕ) : Type 0 where
  pub test : joined_low low (lowest_run (rows_from g k (n - k))) ≡ lowest_run (rows_from g 0 n)

module _ {g : ℕ → SourceId} {n : ℕ} where
  pub low-starts : Lower g n 0 none
  low-starts = record { test = ap (λ (m : ℕ). lowest_run (rows_from g 0 m)) (sub-zero n) }

  module _ {k : ℕ} {low : Option ℕ} (l : Lower g n k low) where
    pub low-on : {next : Option ℕ} → k < n → next ≡ joined_low low (lowest_run (g k ∷ [])) → Lower g n (k + 1) next
    low-on h e = record {
      test =
          ap (λ (x : Option ℕ). joined_low x (lowest_run (rows_from g (k + 1) (n - (k + 1))))) e
          ∙ joined-assoc low (lowest_run (g k ∷ [])) (lowest_run (rows_from g (k + 1) (n - (k + 1))))
          ∙ ap (joined_low low) (sym (first-low (g k) (rows_from g (k + 1) (n - (k + 1)))) ∙ ap lowest_run (sym (rows_next g k n h)))
          ∙ l.test;
    }

    pub low-ends : n ≤ k → low ≡ lowest_run (rows_from g 0 n)
    unfolding lowest_run
    low-ends h = sym (joined-none low) ∙ ap (λ (xs : List SourceId). joined_low low (lowest_run xs)) (sym (rows_end g k n h)) ∙ l.test

-- ---- one source more: a view makes no difference, a run may be the lowest
module _ (low : Option ℕ) where
  pub view-more : (view : Ulid) → low ≡ joined_low low (lowest_run (SstView view ∷ []))
  unfolding lowest_run
  view-more view = sym (joined-none low)

  module _ (run : ℕ) where
    pub run-first : low ≡ none → some run ≡ joined_low low (lowest_run (SortedRun run ∷ []))
    unfolding lowest_run
    run-first z = rw z

    pub run-lower : (x : ℕ) → low ≡ some x → run < x → some run ≡ joined_low low (lowest_run (SortedRun run ∷ []))
    unfolding lowest_run
    run-lower x z h =
        let least : min x run ≡ run = omega arith in
        rw (z, least)

    pub run-higher : (x : ℕ) → low ≡ some x → x ≤ run → some x ≡ joined_low low (lowest_run (SortedRun run ∷ []))
    unfolding lowest_run
    run-higher x z h =
        let least : min x run ≡ x = omega arith in
        rw (z, least)
