-- Flags for the rows of all trees (`kept_in`): the rows that they keep are those of the changed trees.
use Prim.Native.Nat.{ℕ, zero, suc, ◌+◌, ◌*◌, ◌≤◌, ◌<◌}
use mathlib.Core.Path.{◌≡◌, refl, sym, ap, ap₂, ◌∙◌}
use mathlib.Core.List.{List, [], ◌∷◌, ◌++◌, map, map-append, append_assoc, append-nil}
use mathlib.Core.Bool.{Bool, true, false, cond}
use native.Mathlib.Nat.{le_of_suc-le-suc, not-suc-le-zero}
use native.Mathlib.Omega.{arith}
use lib.ListN.{length, get_or, take, drop, take-append-drop, length-append, length-drop, length-map}
use lib.Seq.{take_at, drop_at, take-add, drop-drop, get_or-drop, split_at, length-take-le}
use Rattle.rules.specs.Lists.{keep, concat_map}
use Rattle.rules.specs.Tables.{Tree}
use Rattle.rules.specs.Lent.{laid}
use Rattle.rules.proofs.Rows.{concat_map-append}
use Rattle.rows.specs.Movers.{marked, kept}
use Rattle.rows.proofs.Lift.{marks-say}
use Rattle.tree_rows.specs.Change.{changed_at, kept_in}

-- ---- rows chosen by a list of tests, row by row

module _ {A : Type 0} where
  unfoldable chosen : List Bool → List A → List A
  chosen [] xs = []
  chosen (b ∷ bs) [] = []
  chosen (b ∷ bs) (x ∷ xs) = cond b (x ∷ chosen bs xs) (chosen bs xs)

  -- by a test of each row
  chosen_by : (p : A → Bool) (xs : List A) (bs : List Bool) (ys : List A) → chosen (map p xs ++ bs) (xs ++ ys) ≡ keep p xs ++ chosen bs ys
  unfolding chosen keep
  chosen_by p [] bs ys = refl
  chosen_by p (x ∷ xs) bs ys = go (p x) (chosen_by p xs bs ys)
    where
      go : (b : Bool) → chosen (map p xs ++ bs) (xs ++ ys) ≡ keep p xs ++ chosen bs ys
          → cond b (x ∷ chosen (map p xs ++ bs) (xs ++ ys)) (chosen (map p xs ++ bs) (xs ++ ys)) ≡ cond b (x ∷ keep p xs) (keep p xs) ++ chosen bs ys
      go true e = ap (λ (r : List A). x ∷ r) e
      go false e = e

  -- all of them
  keep_all : (xs : List A) → keep (λ x. true) xs ≡ xs
  unfolding keep
  keep_all [] = refl
  keep_all (x ∷ xs) = ap (λ (r : List A). x ∷ r) (keep_all xs)

  -- rows that the movers keep by their marks
  kept-chosen : (words : A → List ℕ) (w : ℕ) → ((a : A) → length (words a) ≡ w) → (ks : List ℕ) (xs : List A) (rest : List ℕ) → length ks ≡ length xs
      → kept w ks (concat_map words xs ++ rest) ≡ concat_map words (chosen (map marked ks) xs)
  unfolding kept chosen concat_map
  kept-chosen words w width [] [] rest h = refl
  kept-chosen words w width [] (x ∷ xs) rest h = absurd (omega arith)
  kept-chosen words w width (k ∷ ks) [] rest h = absurd (omega arith)
  kept-chosen words w width (zero ∷ ks) (x ∷ xs) rest h =
      rw (append_assoc, drop_at (words x) (concat_map words xs ++ rest) w (width x)) (kept-chosen words w width ks xs rest (omega arith))
  kept-chosen words w width (suc m ∷ ks) (x ∷ xs) rest h =
      rw (append_assoc, take_at (words x) (concat_map words xs ++ rest) w (width x), drop_at (words x) (concat_map words xs ++ rest) w (width x))
      (ap (λ (r : List ℕ). words x ++ r) (kept-chosen words w width ks xs rest (omega arith)))

-- ---- the rows of all trees

module _ {A : Type 0} (of : Tree → List A) (p : A → Bool) (f : Tree → Tree) (keeps : (t : Tree) → of (f t) ≡ keep p (of t)) where
  chosen-rows : (i : ℕ) (ts : List Tree) → chosen (kept_in of i p ts) (concat_map of ts) ≡ concat_map of (changed_at i f ts)
  unfolding kept_in concat_map changed_at chosen
  chosen-rows i [] = refl
  chosen-rows zero (t ∷ ts) = chosen_by p (of t) (map (λ x. true) (concat_map of ts)) (concat_map of ts) ∙ ap₂ ◌++◌ (sym (keeps t)) all
    where
      all : chosen (map (λ x. true) (concat_map of ts)) (concat_map of ts) ≡ concat_map of ts
      all = rw (append-nil, append-nil) at (chosen_by (λ x. true) (concat_map of ts) [] [] ∙ ap (λ (r : List A). r ++ []) (keep_all (concat_map of ts)))
  chosen-rows (suc i) (t ∷ ts) = chosen_by (λ x. true) (of t) (kept_in of i p ts) (concat_map of ts) ∙ ap₂ ◌++◌ (keep_all (of t)) (chosen-rows i ts)

  -- what keep_rows leaves in a slice of w numbers to a row is laid by the changed trees
  module _ (words : A → List ℕ) (w : ℕ) (width : (a : A) → length (words a) ≡ w) where
    pub kept-changed : (i : ℕ) (ts : List Tree) (n : ℕ) (l flags : List ℕ) → n ≡ length (concat_map of ts) → take (w * n) l ≡ concat_map words (concat_map of ts) → n ≤ length flags
        → map marked (take n flags) ≡ kept_in of i p ts → laid (w * n) (kept w (take n flags) l) l ≡ laid (w * n) (concat_map words (concat_map of (changed_at i f ts))) l
    kept-changed i ts n l flags count rows have says =
        let whole : l ≡ concat_map words (concat_map of ts) ++ drop (w * n) l = sym (take-append-drop (w * n) l) ∙ ap (λ (r : List ℕ). r ++ drop (w * n) l) rows in
        ap (λ (r : List ℕ). laid (w * n) r l)
        (ap (kept w (take n flags)) whole
        ∙ kept-chosen words w width (take n flags) (concat_map of ts) (drop (w * n) l) (length-take-le n flags have ∙ count)
        ∙ ap (λ (bs : List Bool). concat_map words (chosen bs (concat_map of ts))) says
        ∙ ap (concat_map words) (chosen-rows i ts))

-- ---- the flags of one tree

module _ {A : Type 0} (of : Tree → List A) (p : A → Bool) where
  -- those of the trees before it, its own, and those of the trees after it
  flag-parts : (i : ℕ) (ts : List Tree) (d : Tree) → i < length ts
      → kept_in of i p ts ≡ map (λ x. true) (concat_map of (take i ts)) ++ (map p (of (get_or ts i d)) ++ map (λ x. true) (concat_map of (drop (suc i) ts)))
  unfolding kept_in concat_map
  flag-parts i [] d h = absurd (not-suc-le-zero h)
  flag-parts zero (t ∷ ts) d h = refl
  flag-parts (suc i) (t ∷ ts) d h =
      rw (flag-parts i ts d (le_of_suc-le-suc h), map-append (λ (x : A). true) (of t) (concat_map of (take i ts)), append_assoc)

  module _ (ts : List Tree) (i : ℕ) (d : Tree) (there : i < length ts) (n : ℕ) (flags : List ℕ) (count : n ≡ length (concat_map of ts)) (have : n ≤ length flags) (a c : ℕ) (first : length (concat_map of (take i ts)) ≡ a) (many : length (of (get_or ts i d)) ≡ c) where
    -- how many rows stand behind the tree's
    abbrev rest : ℕ
    rest = length (concat_map of (drop (suc i) ts))

    all-rows : n ≡ a + (c + rest)
    unfolding concat_map
    all-rows =
        count
        ∙ ap (λ (r : List Tree). length (concat_map of r)) (split_at ts i d there)
        ∙ ap length (concat_map-append of (take i ts) (get_or ts i d ∷ drop (suc i) ts))
        ∙ omega (arith, length-append (concat_map of (take i ts)) (of (get_or ts i d) ++ concat_map of (drop (suc i) ts)), length-append (of (get_or ts i d)) (concat_map of (drop (suc i) ts)))

    in_parts : map marked (take n flags) ≡ map marked (take a flags) ++ (map marked (take c (drop a flags)) ++ map marked (take rest (drop (a + c) flags)))
    in_parts =
        rw (all-rows, take-add a (c + rest) flags, take-add c rest (drop a flags), drop-drop c a flags, map-append marked (take a flags), map-append marked (take c (drop a flags)))

    -- flags that say so of each row, at its place
    pub flags-say : (z : A) → ((k : ℕ) → k < a → marked (get_or flags k 0) ≡ true) → ((k : ℕ) → k < c → marked (get_or flags (a + k) 0) ≡ p (get_or (of (get_or ts i d)) k z))
        → ((k : ℕ) → a + c ≤ k → k < n → marked (get_or flags k 0) ≡ true) → map marked (take n flags) ≡ kept_in of i p ts
    flags-say z before mine after =
        in_parts
        ∙ ap₂ ◌++◌ (marks-say (λ (x : A). true) z a (concat_map of (take i ts)) flags (sym first) (omega (arith, all-rows)) before)
        (ap₂ ◌++◌
        (marks-say p z c (of (get_or ts i d)) (drop a flags) (sym many) (omega (arith, all-rows, length-drop a flags)) (λ k h. ap marked (get_or-drop a flags k 0) ∙ mine k h))
        (marks-say (λ (x : A). true) z rest (concat_map of (drop (suc i) ts)) (drop (a + c) flags) refl (omega (arith, all-rows, length-drop (a + c) flags)) (λ k h. ap marked (get_or-drop (a + c) flags k 0) ∙ after (a + c + k) (omega arith) (omega (arith, all-rows)))))
        ∙ sym (flag-parts i ts d there)

    -- and what they say of the tree's rows
    pub flags-mine : map marked (take n flags) ≡ kept_in of i p ts → map marked (take c (drop a flags)) ≡ map p (of (get_or ts i d))
    flags-mine says =
        sym (middle (map marked (take a flags)) (map marked (take c (drop a flags))) (map marked (take rest (drop (a + c) flags))) (length-map (take a flags) marked ∙ length-take-le a flags (omega (arith, all-rows))) (length-map (take c (drop a flags)) marked ∙ length-take-le c (drop a flags) (omega (arith, all-rows, length-drop a flags))))
        ∙ ap (λ (r : List Bool). take c (drop a r)) (sym in_parts ∙ says ∙ flag-parts i ts d there)
        ∙ middle (map (λ x. true) (concat_map of (take i ts))) (map p (of (get_or ts i d))) (map (λ x. true) (concat_map of (drop (suc i) ts))) (length-map (concat_map of (take i ts)) (λ x. true) ∙ first) (length-map (of (get_or ts i d)) p ∙ many)
      where
        middle : (xs ys zs : List Bool) → length xs ≡ a → length ys ≡ c → take c (drop a (xs ++ (ys ++ zs))) ≡ ys
        middle xs ys zs e h = rw (drop_at xs (ys ++ zs) a e, take_at ys zs c h)
