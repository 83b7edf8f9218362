-- "Choosing windows" of document 01, first part: chains and holding back, on sizes alone and over any limit.
use Rattle.std.specs.Prelude.{ℕ, suc, min, List, [], ◌∷◌, Bool, false, cond, ◌&&◌, leb}

-- "take each next run while its size is at most limit(smallest size taken so far)": how many of the next sizes are taken
unfoldable pub joined : (ℕ → ℕ) → ℕ → List ℕ → ℕ
joined lim least [] = 0
joined lim least (x ∷ xs) = cond (leb x (lim least)) (suc (joined lim (min least x) xs)) 0

-- "Chain from run i: take run i; ..": its length, given the sizes from run i on
unfoldable pub chain : (ℕ → ℕ) → List ℕ → ℕ
chain lim [] = 0
chain lim (x ∷ xs) = suc (joined lim x xs)

-- "It is held back when a next run exists, that run's size is at most limit(sum of the sources), and the chain from
-- that run, used ids ignored, has max entries or more." `rest`: the sizes from the next run on
unfoldable pub held_back : (ℕ → ℕ) → ℕ → ℕ → List ℕ → Bool
held_back lim most size [] = false
held_back lim most size (x ∷ xs) = leb x (lim size) && leb most (chain lim (x ∷ xs))
