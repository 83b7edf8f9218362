-- `single_of s` is a whole number that a single holds, and of these it is the nearest to s, a tie going to the even one.
use mathlib.Core.Path.{◌≡◌, refl, sym, ap, ◌∙◌, subst}
use mathlib.Core.Logic.{◌⊎◌, inl, inr}
use Prim.Native.Nat.{ℕ, ◌+◌, ◌-◌, ◌*◌, ◌%◌, ◌^◌, ◌≤◌, ◌<◌}
use native.Mathlib.Nat.{eq-or-lt_of_le, le_of_eq, le_trans, lt_of_lt_of_le, lt_of_not-le, mul_assoc, mul-le-mul_right, suc-mul}
use native.Mathlib.Decide.{dec_le}
use native.Mathlib.Omega.{arith}
use lib.Dec.{lit<}
use lib.Ieee.Digits.{back}
use lib.Pow.{pow-add, pow_mono, pow_pos, shl_lt}
use Rattle.rules.specs.Limit.{dropped, kept, single_of}
use Rattle.rules.proofs.Digits.{carry-24, reaches-24}
use Rattle.rules.proofs.Nearest.{Rounds}
use Rattle.rules.proofs.Rounding.{kept-le, kept-rounds}

-- a whole number that a single holds: at most 24 binary digits, and zeros after them
pub record Single (n : ℕ) : Type 0 where
  pub digits : ℕ
  pub zeros : ℕ
  pub few : digits < 2 ^ 24
  pub is : n ≡ digits * 2 ^ zeros

-- how far two numbers lie apart
abbrev pub apart : ℕ → ℕ → ℕ
apart a b = (a - b) + (b - a)

-- `single_of s` is one: where the rounding carried into a 25th digit, it is a power of two
pub single-is : (s : ℕ) → Single (single_of s)
unfolding single_of
single-is s = go (eq-or-lt_of_le (kept-le s))
  where
    go : (kept s ≡ 2 ^ 24) ⊎ (kept s < 2 ^ 24) → Single (kept s * 2 ^ dropped s)
    go (inl e) = record { digits = 2 ^ 23; zeros = dropped s + 1; few = lit< tt; is = carry-24 (kept s) (dropped s) e }
    go (inr l) = record { digits = kept s; zeros = dropped s; few = l; is = refl }

-- ---- no other is nearer
-- n is no nearer to a than q units are, and where it is as near it is the same number or q is even
record Nearer (a u q n : ℕ) : Type 0 where
  near : apart a (q * u) ≤ apart a n
  even : apart a n ≡ apart a (q * u) → (n ≡ q * u) ⊎ (q % 2 ≡ 0)

-- so is every multiple of the unit
multiple : (a u q k : ℕ) → 0 < u → Rounds a u q → Nearer a u q (k * u)
multiple a u q k U r = go (dec_le q k)
  where
    step : (x y : ℕ) → x < y → x * u + u ≤ y * u
    step x y h = le_trans (le_of_eq (sym (suc-mul x u))) (mul-le-mul_right u h)

    go : Dec (q ≤ k) → Nearer a u q (k * u)
    go (no n) =
        let h : k * u + u ≤ q * u = step k q (lt_of_not-le n) in
        record { near = omega arith; even = λ e. inr (r.even-high (omega arith)) }
    go (yes l) = at_least (eq-or-lt_of_le l)
      where
        at_least : (q ≡ k) ⊎ (q < k) → Nearer a u q (k * u)
        at_least (inl e) = subst (λ (x : ℕ). Nearer a u q (x * u)) e (record { near = le_of_eq refl; even = λ _. inl refl })
        at_least (inr g) =
            let h : q * u + u ≤ k * u = step q k g in
            record { near = omega arith; even = λ e. inr (r.even-low (omega arith)) }

-- where digits are dropped, 24 are kept
reached : (s : ℕ) → 0 < dropped s → 2 ^ (23 + dropped s) ≤ s
unfolding dropped
reached s g = reaches-24 s (omega arith)

-- so between s and a number with fewer digits lies a multiple of the unit: the leading one of s
below : (s n : ℕ) → 0 < dropped s → n < 2 ^ (23 + dropped s) → Nearer s (2 ^ dropped s) (kept s) n
below s n d h = go (2 ^ dropped s) (multiple s (2 ^ dropped s) (kept s) (2 ^ 23) (pow_pos (dropped s)) (kept-rounds s)) (pow-add 2 23 (dropped s)) (reached s d)
  where
    go : (u : ℕ) → Nearer s u (kept s) (2 ^ 23 * u) → 2 ^ (23 + dropped s) ≡ 2 ^ 23 * u → 2 ^ (23 + dropped s) ≤ s → Nearer s u (kept s) n
    go u m e g = record { near = omega (arith, m.near); even = λ x. absurd (omega (arith, m.near)) }

-- and every number that a single holds
nearer : (s n : ℕ) → Single n → Nearer s (2 ^ dropped s) (kept s) n
nearer s n g = subst (λ (x : ℕ). Nearer s (2 ^ dropped s) (kept s) x) (sym g.is) (go (dec_le (dropped s) g.zeros))
  where
    gap : (a b : ℕ) → a < b → 24 + a ≤ 23 + b
    gap a b h = omega arith

    some : (a b : ℕ) → a < b → 0 < b
    some a b h = omega arith

    go : Dec (dropped s ≤ g.zeros) → Nearer s (2 ^ dropped s) (kept s) (g.digits * 2 ^ g.zeros)
    go (yes l) =
        subst (λ (x : ℕ). Nearer s (2 ^ dropped s) (kept s) x)
        (mul_assoc g.digits (2 ^ (g.zeros - dropped s)) (2 ^ dropped s) ∙ ap (λ (x : ℕ). g.digits * x) (sym (pow-add 2 (g.zeros - dropped s) (dropped s)) ∙ ap (λ (x : ℕ). 2 ^ x) (back g.zeros (dropped s) l)))
        (multiple s (2 ^ dropped s) (kept s) (g.digits * 2 ^ (g.zeros - dropped s)) (pow_pos (dropped s)) (kept-rounds s))
    go (no n) =
        let z : g.zeros < dropped s = lt_of_not-le n in
        below s (g.digits * 2 ^ g.zeros) (some g.zeros (dropped s) z) (lt_of_lt_of_le (shl_lt 24 g.zeros g.few) (pow_mono (gap g.zeros (dropped s) z)))

-- of the whole numbers that a single holds none is nearer to s than `single_of s`
pub single-nearest : (s n : ℕ) → Single n → apart s (single_of s) ≤ apart s n
unfolding single_of
single-nearest s n g = (nearer s n g).near

-- and where another is as near, `single_of s` is an even number of units
pub single-even : (s n : ℕ) → Single n → apart s n ≡ apart s (single_of s) → (n ≡ single_of s) ⊎ (kept s % 2 ≡ 0)
unfolding single_of
single-even s n g = (nearer s n g).even
