-- Rows read one after another (`rows_from`), and rows laid one after another (`concat_map`): what is laid reads back.
use Prim.Native.Nat.{ℕ, zero, suc, ◌+◌, ◌-◌, ◌*◌, ◌≤◌, ◌<◌, suc-le-suc}
use mathlib.Core.Path.{◌≡◌, refl, sym, ap, ap₂, ◌∙◌}
use mathlib.Core.List.{List, [], ◌∷◌, ◌++◌, map, append_assoc}
use native.Mathlib.Nat.{le_of_suc-le-suc, not-suc-le-zero, zero-add, add-zero, suc-add, mul-zero, mul-suc, mul-add, zero-lt-suc}
use native.Mathlib.Omega.{arith}
use lib.ListN.{length, get_or, take, drop, length-append, get_or-append}
use lib.Seq.{get_or-append-add, drop-cons, drop-drop, take-add}
use Rattle.rules.specs.Lists.{concat_map}
use Rattle.rules.specs.Lent.{rows_from}

-- ---- reading

module _ {ℓ} {A : Type ℓ} where
  -- as many rows as were asked for
  pub length-rows_from : (f : ℕ → A) (i n : ℕ) → length (rows_from f i n) ≡ n
  unfolding rows_from
  length-rows_from f i zero = refl
  length-rows_from f i (suc n) = ap suc (length-rows_from f (i + 1) n)

  -- row k of them
  pub get_or-rows_from : (f : ℕ → A) (i n k : ℕ) (d : A) → k < n → get_or (rows_from f i n) k d ≡ f (i + k)
  unfolding rows_from
  get_or-rows_from f i zero k d h = absurd (not-suc-le-zero h)
  get_or-rows_from f i (suc n) zero d h = sym (ap f (add-zero i))
  get_or-rows_from f i (suc n) (suc k) d h = get_or-rows_from f (i + 1) n k d (le_of_suc-le-suc h) ∙ ap f (omega arith)

  -- some rows, and the rows after them
  pub rows_from-append : (f : ℕ → A) (i m n : ℕ) → rows_from f i (m + n) ≡ rows_from f i m ++ rows_from f (i + m) n
  unfolding rows_from
  rows_from-append f i zero n = rw (zero-add, add-zero)
  rows_from-append f i (suc m) n =
      rw suc-add (ap (λ (l : List A). f i ∷ l) (rows_from-append f (i + 1) m n ∙ ap (λ (j : ℕ). rows_from f (i + 1) m ++ rows_from f j n) (omega arith)))

  -- the rows from i up to n, for a loop that is at i: the next row and those after it, and at n none
  pub rows_next : (f : ℕ → A) (i n : ℕ) → i < n → rows_from f i (n - i) ≡ f i ∷ rows_from f (i + 1) (n - (i + 1))
  unfolding rows_from
  rows_next f i n h =
      let left : n - i ≡ suc (n - (i + 1)) = omega arith in
      rw left

  pub rows_end : (f : ℕ → A) (i n : ℕ) → n ≤ i → rows_from f i (n - i) ≡ []
  unfolding rows_from
  rows_end f i n h =
      let left : n - i ≡ 0 = omega arith in
      rw left

  -- two readers that agree wherever they read
  pub rows_from-same : (f g : ℕ → A) (i j n : ℕ) → ((k : ℕ) → k < n → f (i + k) ≡ g (j + k)) → rows_from f i n ≡ rows_from g j n
  unfolding rows_from
  rows_from-same f g i j zero h = refl
  rows_from-same f g i j (suc n) h =
      ap₂ ◌∷◌ (rw (add-zero, add-zero) at (h 0 (zero-lt-suc n)))
      (rows_from-same f g (i + 1) (j + 1) n (λ k l. ap f (omega arith) ∙ h (suc k) (suc-le-suc l) ∙ ap g (omega arith)))

  -- a reader that finds these rows
  pub rows_are : (f : ℕ → A) (d : A) (i : ℕ) (xs : List A) → ((k : ℕ) → k < length xs → f (i + k) ≡ get_or xs k d) → rows_from f i (length xs) ≡ xs
  unfolding rows_from
  rows_are f d i [] h = refl
  rows_are f d i (x ∷ xs) h =
      ap₂ ◌∷◌ (rw add-zero at (h 0 (zero-lt-suc (length xs))))
      (rows_are f d (i + 1) xs (λ k l. ap f (omega arith) ∙ h (suc k) (suc-le-suc l)))

-- a part of a slice, number by number
pub part-is : (s : List ℕ) (from count : ℕ) → from + count ≤ length s → rows_from (λ i. get_or s i 0) from count ≡ take count (drop from s)
unfolding rows_from
part-is s from zero h = refl
part-is s from (suc count) h =
    let next : suc from ≡ from + 1 = omega arith in
    rw (drop-cons s from 0 (omega arith), next) (ap (λ (l : List ℕ). get_or s from 0 ∷ l) (part-is s (from + 1) count (omega arith)))

-- ---- laying: rows of w numbers

module _ {A : Type 0} (words : A → List ℕ) (w : ℕ) (width : (a : A) → length (words a) ≡ w) where
  pub length-words : (xs : List A) → length (concat_map words xs) ≡ w * length xs
  unfolding concat_map
  length-words [] = sym (mul-zero w)
  length-words (x ∷ xs) = omega (arith, length-append (words x) (concat_map words xs), width x, length-words xs, mul-suc w (length xs))

  -- number k of row i
  pub number_at : (xs : List A) (rest : List ℕ) (d : A) (i k : ℕ) → i < length xs → k < w → get_or (concat_map words xs ++ rest) (w * i + k) 0 ≡ get_or (words (get_or xs i d)) k 0
  unfolding concat_map
  number_at [] rest d i k h l = absurd (not-suc-le-zero h)
  number_at (x ∷ xs) rest d zero k h l =
      rw append_assoc
      (ap (λ (n : ℕ). get_or (words x ++ (concat_map words xs ++ rest)) n 0) (omega arith)
      ∙ get_or-append (words x) (concat_map words xs ++ rest) 0 k (omega (arith, width x)))
  number_at (x ∷ xs) rest d (suc i) k h l =
      rw append_assoc
      (ap (λ (n : ℕ). get_or (words x ++ (concat_map words xs ++ rest)) n 0) (omega (arith, width x, mul-suc w i))
      ∙ get_or-append-add (words x) (concat_map words xs ++ rest) (w * i + k) 0
      ∙ number_at xs rest d i k (le_of_suc-le-suc h) l)

  -- the first number of row i
  pub first-at : (xs : List A) (rest : List ℕ) (d : A) (i : ℕ) → i < length xs → 0 < w → get_or (concat_map words xs ++ rest) (w * i) 0 ≡ get_or (words (get_or xs i d)) 0 0
  first-at xs rest d i h l = rw add-zero at (number_at xs rest d i 0 h l)

  -- rows that were read, laid again: what stood there
  pub words-of-rows : (s : List ℕ) (f : ℕ → A) → ((i : ℕ) → w * i + w ≤ length s → words (f i) ≡ take w (drop (w * i) s)) → (i n : ℕ) → w * (i + n) ≤ length s → concat_map words (rows_from f i n) ≡ take (w * n) (drop (w * i) s)
  unfolding concat_map rows_from
  words-of-rows s f h i zero l = rw mul-zero
  words-of-rows s f h i (suc n) l =
      let whole : w * (i + suc n) ≡ w * i + (w + w * n) = omega (arith, mul-add w i (suc n), mul-suc w n) in
      let next : w * (i + 1) ≡ w * i + w = omega (arith, mul-add w i 1) in
      let more : w * suc n ≡ w + w * n = omega (arith, mul-suc w n) in
      rw (h i (omega arith), words-of-rows s f h (i + 1) n (omega (arith, mul-add w (i + 1) n)), next, ← drop-drop w (w * i) s, more) (sym (take-add w (w * n) (drop (w * i) s)))

module _ {ℓ κ} {A : Type ℓ} {B : Type κ} where
  -- a part of each row
  pub map-rows_from : (g : A → B) (f : ℕ → A) (i n : ℕ) → map g (rows_from f i n) ≡ rows_from (λ k. g (f k)) i n
  unfolding rows_from
  map-rows_from g f i zero = refl
  map-rows_from g f i (suc n) = ap (λ (l : List B). g (f i) ∷ l) (map-rows_from g f (i + 1) n)

  pub concat_map-append : (f : A → List B) (xs ys : List A) → concat_map f (xs ++ ys) ≡ concat_map f xs ++ concat_map f ys
  unfolding concat_map
  concat_map-append f [] ys = refl
  concat_map-append f (x ∷ xs) ys = rw (concat_map-append f xs ys, append_assoc)
