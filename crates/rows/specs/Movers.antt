-- The numbers in use after rows of a lent table have moved. A row is w numbers, row i from number w * i on; `laid_with` of
-- rules says how the whole slice stands then.
use Rattle.std.specs.Prelude.{ℕ, zero, suc, ◌+◌, ◌-◌, ◌*◌, List, [], ◌∷◌, ◌++◌, Bool, true, false, take, drop}

-- a mark that is not 0 keeps its row
abbrev pub marked : ℕ → Bool
marked zero = false
marked (suc m) = true

module _ {A : Type 0} where
  -- the rows of l whose mark is not 0, in their order
  unfoldable pub kept : ℕ → List ℕ → List A → List A
  kept w [] l = []
  kept w (zero ∷ marks) l = kept w marks (drop w l)
  kept w (suc m ∷ marks) l = take w l ++ kept w marks (drop w l)

  -- the first n rows of l, with the first k rows of `new` before row `at`
  unfoldable pub opened : ℕ → ℕ → ℕ → List A → ℕ → List A → List A
  opened w n at new k l = take (w * at) l ++ (take (w * k) new ++ take (w * (n - at)) (drop (w * at) l))

  -- the first n rows of l, without the k rows from row `at` on
  unfoldable pub closed : ℕ → ℕ → ℕ → ℕ → List A → List A
  closed w n at k l = take (w * at) l ++ take (w * (n - (at + k))) (drop (w * (at + k)) l)
