-- How a slice comes to be laid (`laid_with` of rules): with zeros over what is freed, with more numbers than were in
-- use, and over what was laid before.
use Prim.Native.Nat.{ℕ, zero, suc, ◌+◌, ◌-◌, ◌≤◌, max}
use mathlib.Core.Path.{◌≡◌, sym, ap, ◌∙◌}
use mathlib.Core.List.{List, ◌++◌, append_assoc}
use native.Mathlib.Omega.{arith}
use lib.ListN.{length, take, drop, replicate, length-replicate, replicate-append-replicate}
use lib.Seq.{paste, take_all, length-take-le, drop-drop, drop-append-add}
use Rattle.rules.specs.Lent.{laid_with}

module _ {A : Type 0} where
  -- zeros up to number `used`, over a list that has `new` before them and is as it was behind them
  pub freed : (z : A) {used d : ℕ} {new : List A} (l col : List A) {col' : List A} → d ≤ used → used ≤ length col → take d col ≡ new → drop used col ≡ drop used l
      → col' ≡ paste col d (replicate (used - d) z) (used - d) → col' ≡ laid_with z used new l
  unfolding laid_with
  freed z {used} {d} {new} l col low room front rest p =
      let len : length new ≡ d = ap length (sym front) ∙ length-take-le d col (omega arith) in
      let most : max used d ≡ used = omega arith in
      let gap : d + (used - d) ≡ used = omega arith in
      let zeros : take (used - d) (replicate (used - d) z) ≡ replicate (used - d) z =
      take_all (used - d) (replicate (used - d) z) (omega (arith, length-replicate (used - d) z)) in
      p ∙ rw (zeros, gap, front, rest, len, most, append_assoc)

  -- at least as many numbers as were in use: nothing is freed
  pub grown : (z : A) (used : ℕ) (new l : List A) → used ≤ length new → laid_with z used new l ≡ new ++ drop (length new) l
  unfolding laid_with
  grown z used new l h =
      let most : max used (length new) ≡ length new = omega arith in
      let none : used - length new ≡ 0 = omega arith in
      rw (most, none)

  -- numbers dropped from zeros with the rest of a list behind them
  drop-padded : (z : A) (k y u : ℕ) (s : List A) → drop k (replicate y z ++ drop u s) ≡ replicate (y - k) z ++ drop (u + (k - y)) s
  drop-padded z zero y u s =
      let e : u + (0 - y) ≡ u = omega arith in
      let f : y - 0 ≡ y = omega arith in
      rw (e, f)
  drop-padded z (suc k) zero u s =
      let e : suc k - 0 ≡ suc k = omega arith in
      let f : 0 - suc k ≡ 0 = omega arith in
      rw (e, f) (drop-drop (suc k) u s)
  drop-padded z (suc k) (suc y) u s =
      let e : suc k - suc y ≡ k - y = omega arith in
      let f : suc y - suc k ≡ y - k = omega arith in
      rw (e, f) (drop-padded z k y u s)

  -- laid over what was laid, which was no more than what was in use or is now: as laid once
  pub laid-again : (z : A) (used : ℕ) (new new' s : List A) → length new ≤ max used (length new') → laid_with z (length new) new' (laid_with z used new s) ≡ laid_with z used new' s
  unfolding laid_with
  laid-again z used new new' s h =
      let m : ℕ = length new in
      let n : ℕ = length new' in
      let under : List A = replicate (used - m) z ++ drop (max used m) s in
      ap (λ (r : List A). new' ++ r)
      (ap (λ (i : ℕ). replicate (m - n) z ++ drop i (new ++ under)) (over m n)
      ∙ ap (λ (r : List A). replicate (m - n) z ++ r) (drop-append-add new under (n - m) ∙ drop-padded z (n - m) (used - m) (max used m) s)
      ∙ sym (append_assoc (replicate (m - n) z) (replicate (used - m - (n - m)) z) (drop (max used m + (n - m - (used - m))) s))
      ∙ rw (replicate-append-replicate, zeros used m n h, rest used m n h))
    where
      over : (m n : ℕ) → max m n ≡ m + (n - m)
      over m n = omega arith

      zeros : (u m n : ℕ) → m ≤ max u n → m - n + (u - m - (n - m)) ≡ u - n
      zeros u m n h = omega arith

      rest : (u m n : ℕ) → m ≤ max u n → max u m + (n - m - (u - m)) ≡ max u n
      rest u m n h = omega arith
