-- "Choosing windows", second part: what passes, and the window that is picked, on a tree's run ids and sizes (two lists
-- of one length), over any limit and any account of what is used.
use Rattle.std.specs.Prelude.{ℕ, zero, suc, List, [], ◌∷◌, ◌++◌, map, Bool, true, cond, ◌&&◌, not, leb, eqb, length, take, drop}
use Rattle.rules.specs.Lists.{all, keep, concat_map, total}
use Rattle.rules.specs.declared.tables.SourceId.{SourceId}
use Rattle.rules.specs.declared.tables.SourceId.TheVariants.{SortedRun}
use Rattle.rules.specs.Tables.{Job, id_of, active, is_drain}
use Rattle.rules.specs.Chain.{chain, held_back}

-- "every source of its active jobs, and the destinations of its tiered ones, as run ids": of one job
abbrev pub job_uses : Job → List SourceId
job_uses j = map id_of j.sources ++ cond (is_drain j) [] (SortedRun j.destination ∷ [])

-- "Used ids of a tree: every source of its active jobs, and ..": by the tree's prefix, so that "A job of an unknown prefix
-- blocks no tree"
unfoldable pub used_ids : List Job → ℕ → List SourceId
used_ids js prefix = concat_map job_uses (keep (λ j. active j && eqb j.prefix prefix) js)

-- "A set of sources with a destination passes if no source and not the destination is used, and it is not held back."
-- `size`: the sum of the sources; `rest`: the sizes from the next run on
unfoldable pub passes : (ℕ → ℕ) → ℕ → (SourceId → Bool) → List SourceId → ℕ → ℕ → List ℕ → Bool
passes lim most used sources destination size rest =
    all (λ x. not (used x)) (sources ++ (SortedRun destination ∷ [])) && not (held_back lim most size rest)

-- the last number, 0 for none
unfoldable pub last : List ℕ → ℕ
last [] = 0
last (x ∷ []) = x
last (x ∷ (y ∷ ys)) = last (y ∷ ys)

-- the beginning of length k passes, "with destination its last run and next run the one after"
unfoldable pub beginning_passes : (ℕ → ℕ) → ℕ → (SourceId → Bool) → List ℕ → List ℕ → ℕ → Bool
beginning_passes lim most used ids sizes k =
    passes lim most used (map SortedRun (take k ids)) (last (take k ids)) (total (take k sizes)) (drop k sizes)

-- p holds of 1 to k
unfoldable pub up_to : (ℕ → Bool) → ℕ → Bool
up_to p zero = true
up_to p (suc k) = up_to p k && p (suc k)

-- "it lies within the chain from i, and each of its beginnings of length 1 to k passes"
unfoldable pub lasting : (ℕ → ℕ) → ℕ → (SourceId → Bool) → List ℕ → List ℕ → ℕ → Bool
lasting lim most used ids sizes k = leb k (chain lim sizes) && up_to (beginning_passes lim most used ids sizes) k

-- "a window at run i of length k is eligible if k >= min, it lies within the chain from i, and ..": on the lists from i on
unfoldable pub eligible : (ℕ → ℕ) → ℕ → ℕ → (SourceId → Bool) → List ℕ → List ℕ → ℕ → Bool
eligible lim least most used ids sizes k = leb least k && lasting lim most used ids sizes k

-- the greatest k from 1 to n with p, 0 for none
unfoldable pub greatest : (ℕ → Bool) → ℕ → ℕ
greatest p zero = 0
greatest p (suc n) = cond (p (suc n)) (suc n) (greatest p n)

-- the first k of these; where k is 0, the later window
abbrev pub or_later : ℕ → List ℕ → List ℕ → List ℕ
or_later zero here later = later
or_later (suc k) here later = take (suc k) here

-- "The pick is the least i and for it the greatest k.": the ids of that window, none where there is none
unfoldable pub window : (ℕ → ℕ) → ℕ → ℕ → (SourceId → Bool) → List ℕ → List ℕ → List ℕ
window lim least most used [] sizes = []
window lim least most used (i ∷ ids) sizes =
    or_later
    (greatest (eligible lim least most used (i ∷ ids) sizes) (length (i ∷ ids)))
    (i ∷ ids)
    (window lim least most used ids (drop 1 sizes))
