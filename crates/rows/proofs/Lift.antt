-- The movers, said of records: what keep_rows, open_rows and close_rows do to rows that hold records, as rules lays them.
use Prim.Native.Nat.{ℕ, zero, suc, ◌+◌, ◌*◌, ◌-◌, ◌≤◌, ◌<◌, suc-le-suc}
use mathlib.Core.Path.{◌≡◌, refl, sym, ap, ap₂, ◌∙◌}
use mathlib.Core.List.{List, [], ◌∷◌, ◌++◌, map, append_assoc}
use mathlib.Core.Bool.{Bool, true, false, cond}
use native.Mathlib.Nat.{mul-zero, mul-suc, one-mul, mul-le-mul_left}
use native.Mathlib.Omega.{arith}
use lib.ListN.{length, get_or, take, drop, length-drop, take-append-drop}
use lib.Seq.{take-nil, drop-nil, take_at, drop_at, drop-append-le, take-append-add, drop-append-add, take-take}
use Rattle.rules.specs.Lists.{keep, concat_map}
use Rattle.rules.specs.Lent.{laid, laid_with}
use Rattle.rules.proofs.Rows.{length-words, number_at, concat_map-append}
use Rattle.rows.specs.Movers.{marked, kept, opened, closed}

module _ {A : Type 0} (words : A → List ℕ) (w : ℕ) (width : (a : A) → length (words a) ≡ w) where
  -- the first i rows
  pub take_words : (i : ℕ) (xs : List A) → take (w * i) (concat_map words xs) ≡ concat_map words (take i xs)
  unfolding concat_map
  take_words zero xs = rw mul-zero
  take_words (suc i) [] = take-nil (w * suc i)
  take_words (suc i) (x ∷ xs) =
      let e : w * suc i ≡ length (words x) + w * i = omega (arith, mul-suc w i, width x) in
      rw e (take-append-add (words x) (concat_map words xs) (w * i)) ∙ ap (λ (r : List ℕ). words x ++ r) (take_words i xs)

  -- the rows from row i on
  pub drop-words : (i : ℕ) (xs : List A) → drop (w * i) (concat_map words xs) ≡ concat_map words (drop i xs)
  unfolding concat_map
  drop-words zero xs = rw mul-zero
  drop-words (suc i) [] = drop-nil (w * suc i)
  drop-words (suc i) (x ∷ xs) =
      let e : w * suc i ≡ length (words x) + w * i = omega (arith, mul-suc w i, width x) in
      rw e (drop-append-add (words x) (concat_map words xs) (w * i)) ∙ drop-words i xs

  -- rows kept by marks that say p of each
  kept-words : (p : A → Bool) (ks : List ℕ) (xs : List A) (rest : List ℕ) → map marked ks ≡ map p xs
      → kept w ks (concat_map words xs ++ rest) ≡ concat_map words (keep p xs)
  unfolding kept keep concat_map
  kept-words p [] [] rest h = refl
  kept-words p [] (x ∷ xs) rest h = let z : ◌≡◌ {A = ℕ} 0 1 = cc in absurd (omega arith)
  kept-words p (k ∷ ks) [] rest h = let z : ◌≡◌ {A = ℕ} 0 1 = cc in absurd (omega arith)
  kept-words p (zero ∷ ks) (x ∷ xs) rest h =
      let out : p x ≡ false = cc in
      let more : map marked ks ≡ map p xs = cc in
      rw (append_assoc, drop_at (words x) (concat_map words xs ++ rest) w (width x), out) (kept-words p ks xs rest more)
  kept-words p (suc m ∷ ks) (x ∷ xs) rest h =
      let here : p x ≡ true = cc in
      let more : map marked ks ≡ map p xs = cc in
      rw (
        append_assoc,
        take_at (words x) (concat_map words xs ++ rest) w (width x),
        drop_at (words x) (concat_map words xs ++ rest) w (width x),
        here,
        kept-words p ks xs rest more,
      )

  -- n records stand in the first n rows of l
  module _ (xs : List A) (n : ℕ) (l : List ℕ) (count : n ≡ length xs) (rows : take (w * n) l ≡ concat_map words xs) where
    -- the rows in use, and what lies behind them
    whole : l ≡ concat_map words xs ++ drop (w * n) l
    whole = sym (take-append-drop (w * n) l) ∙ ap (λ (r : List ℕ). r ++ drop (w * n) l) rows

    -- the rows before row i
    front : (i : ℕ) → i ≤ n → take (w * i) l ≡ concat_map words (take i xs)
    front i h = sym (take-take (w * i) (w * n) l (mul-le-mul_left w h)) ∙ ap (take (w * i)) rows ∙ take_words i xs

    -- the rows in use from row i on
    back : (i : ℕ) → i ≤ n → take (w * (n - i)) (drop (w * i) l) ≡ concat_map words (drop i xs)
    back i h =
        let below : w * i ≤ length (concat_map words xs) =
        omega (arith, length-words words w width xs, mul-le-mul_left w h, ap (λ (m : ℕ). w * m) count) in
        let len : length (concat_map words (drop i xs)) ≡ w * (n - i) =
        length-words words w width (drop i xs) ∙ ap (λ (m : ℕ). w * m) (omega (arith, length-drop i xs)) in
        ap (λ (r : List ℕ). take (w * (n - i)) (drop (w * i) r)) whole
        ∙ ap (take (w * (n - i))) (drop-append-le (w * i) (concat_map words xs) (drop (w * n) l) below)
        ∙ ap (λ (r : List ℕ). take (w * (n - i)) (r ++ drop (w * n) l)) (drop-words i xs)
        ∙ take_at (concat_map words (drop i xs)) (drop (w * n) l) (w * (n - i)) len

    -- keep_rows keeps the records with p, where the marks say p of each
    pub kept-rows : (p : A → Bool) (marks : List ℕ) → map marked (take n marks) ≡ map p xs
        → kept w (take n marks) l ≡ concat_map words (keep p xs)
    kept-rows p marks says = ap (kept w (take n marks)) whole ∙ kept-words p (take n marks) xs (drop (w * n) l) says

    -- open_rows puts the new records before record `at`
    pub opened_rows : (at k : ℕ) (new : List ℕ) (ys : List A) → at ≤ n → take (w * k) new ≡ concat_map words ys
        → opened w n at new k l ≡ concat_map words (take at xs ++ (ys ++ drop at xs))
    unfolding opened
    opened_rows at k new ys h e = rw (front at h, e, back at h, concat_map-append, concat_map-append)

    -- close_rows leaves out k records from record `at` on
    pub closed-rows : (at k : ℕ) → at + k ≤ n → closed w n at k l ≡ concat_map words (take at xs ++ drop (at + k) xs)
    unfolding closed
    closed-rows at k h = rw (front at (omega arith), back (at + k) h, concat_map-append)

    -- the whole slice after keep_rows
    pub kept-laid : (p : A → Bool) (marks : List ℕ) → map marked (take n marks) ≡ map p xs
        → laid (w * n) (kept w (take n marks) l) l ≡ laid (w * n) (concat_map words (keep p xs)) l
    kept-laid p marks says = rw (kept-rows p marks says)

    -- the whole slice after open_rows
    pub opened-laid : (at k : ℕ) (new : List ℕ) (ys : List A) → at ≤ n → take (w * k) new ≡ concat_map words ys
        → laid (w * n) (opened w n at new k l) l ≡ laid (w * n) (concat_map words (take at xs ++ (ys ++ drop at xs))) l
    opened-laid at k new ys h e = rw (opened_rows at k new ys h e)

    -- the whole slice after close_rows
    pub closed-laid : (at k : ℕ) → at + k ≤ n → laid (w * n) (closed w n at k l) l ≡ laid (w * n) (concat_map words (take at xs ++ drop (at + k) xs)) l
    closed-laid at k h = rw (closed-rows at k h)

  -- a laid slice reads back: number k of row i
  pub laid-number : (used : ℕ) (xs : List A) (s : List ℕ) (d : A) (i k : ℕ) → i < length xs → k < w
      → get_or (laid used (concat_map words xs) s) (w * i + k) 0 ≡ get_or (words (get_or xs i d)) k 0
  unfolding laid_with
  laid-number used xs s d i k h l = number_at words w width xs _ d i k h l

  -- a laid slice reads back: all rows at once
  pub laid-rows : (used : ℕ) (xs : List A) (s : List ℕ) → take (w * length xs) (laid used (concat_map words xs) s) ≡ concat_map words xs
  unfolding laid_with
  laid-rows used xs s = take_at (concat_map words xs) _ (w * length xs) (length-words words w width xs)

module _ {A : Type 0} where
  -- rows of one number are what `map` lists
  pub singles : (f : A → ℕ) (xs : List A) → concat_map (λ x. f x ∷ []) xs ≡ map f xs
  unfolding concat_map
  singles f [] = refl
  singles f (x ∷ xs) = ap (λ (r : List ℕ). f x ∷ r) (singles f xs)

  -- rows of one number, laid as rules lays them
  pub laid-singles : (f : A → ℕ) (n : ℕ) (xs : List A) (s : List ℕ) → laid (1 * n) (concat_map (λ x. f x ∷ []) xs) s ≡ laid n (map f xs) s
  laid-singles f n xs s = rw (one-mul, singles f xs)

  -- marks that say p of each record, mark by mark
  pub marks-say : (p : A → Bool) (d : A) (n : ℕ) (xs : List A) (marks : List ℕ) → n ≡ length xs → n ≤ length marks
      → ((i : ℕ) → i < n → marked (get_or marks i 0) ≡ p (get_or xs i d)) → map marked (take n marks) ≡ map p xs
  marks-say p d zero [] marks e h says = refl
  marks-say p d zero (x ∷ xs) marks e h says = absurd (omega arith)
  marks-say p d (suc n) [] marks e h says = absurd (omega arith)
  marks-say p d (suc n) (x ∷ xs) [] e h says = absurd (omega arith)
  marks-say p d (suc n) (x ∷ xs) (m ∷ marks) e h says =
      ap₂ ◌∷◌ (says 0 (omega arith)) (marks-say p d n xs marks (omega arith) (omega arith) (λ i l. says (suc i) (suc-le-suc l)))

  -- marks of 1 where p holds and 0 elsewhere say p
  pub marks-by : (p : A → Bool) (xs : List A) → map marked (map (λ x. cond (p x) 1 0) xs) ≡ map p xs
  marks-by p [] = refl
  marks-by p (x ∷ xs) = ap₂ ◌∷◌ (one-or-none (p x)) (marks-by p xs)
    where
      one-or-none : (b : Bool) → marked (cond b 1 0) ≡ b
      one-or-none true = refl
      one-or-none false = refl
