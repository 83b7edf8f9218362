-- A number's binary digits, counted by `size`.
use mathlib.Core.Path.{◌≡◌, sym, ap, ◌∙◌, subst}
use Prim.Native.Nat.{ℕ, suc, ◌+◌, ◌-◌, ◌*◌, ◌/◌, ◌^◌, ◌≤◌, ◌<◌}
use native.Mathlib.Nat.{le_antisymm, le_trans, le_of_eq, mul_assoc, mul_comm, mul-le-mul_right, lt_of_lt_of_le, lt_of_not-le, not-le_of_lt, pow-suc, div-lt_iff_lt-mul, zero-lt-suc}
use native.Mathlib.Omega.{arith}
use lib.Pow.{pow_mono, pow-add, shl_lt, shl-shr, shr_mono}
use lib.Ieee.{size}
use lib.Ieee.Digits.{size-lt, size-le, size_reaches}

-- from 2 ^ j on a number has more than j digits
pub size-gt : (n j : ℕ) → 2 ^ j ≤ n → j < size n
size-gt n j h = lt_of_not-le (λ (g : size n ≤ j). not-le_of_lt (lt_of_lt_of_le (size-lt n) (pow_mono g)) h)

-- from 2 ^ j up to 2 ^ (j + 1) it has j + 1
pub size_exact : (n j : ℕ) → 2 ^ j ≤ n → n < 2 ^ suc j → size n ≡ suc j
size_exact n j lo hi = le_antisymm (size-le n (suc j) hi) (size-gt n j lo)

-- half of it has one digit less
pub size-half : (n z : ℕ) → size n ≡ suc z → size (n / 2) ≡ z
size-half n z e =
    le_antisymm
    (size-le (n / 2) z ((div-lt_iff_lt-mul (zero-lt-suc 1)).1 (subst (λ (x : ℕ). n < x) (pow-suc 2 z) (subst (λ (x : ℕ). n < 2 ^ x) e (size-lt n)))))
    (go (size n) (size (n / 2)) e (size-le n (suc (size (n / 2))) (subst (λ (x : ℕ). n < x) (sym (pow-suc 2 (size (n / 2)))) ((div-lt_iff_lt-mul (zero-lt-suc 1)).0 (size-lt (n / 2))))))
  where
    go : (a b : ℕ) → a ≡ suc z → a ≤ suc b → z ≤ b
    go a b p q = omega arith

-- t zeros at its end are t digits more
pub size-shift : (n t : ℕ) → 0 < size n → size (n * 2 ^ t) ≡ size n + t
size-shift n t Z =
    exactly (size n) (size (n * 2 ^ t)) Z
    (size-le (n * 2 ^ t) (size n + t) (shl_lt (size n) t (size-lt n)))
    (size-gt (n * 2 ^ t) (size n - 1 + t) (le_trans (le_of_eq (pow-add 2 (size n - 1) t)) (mul-le-mul_right (2 ^ t) (size_reaches n (size n - 1) (before (size n) Z)))))
  where
    before : (z : ℕ) → 0 < z → z - 1 < z
    before z h = omega arith

    exactly : (z x : ℕ) → 0 < z → x ≤ z + t → z - 1 + t < x → x ≡ z + t
    exactly z x Z a b = omega arith

-- ---- the 24 digits that a single keeps of a longer number
-- the number reaches the place of the first of them
pub reaches-24 : (n : ℕ) → 24 ≤ size n → 2 ^ (23 + (size n - 24)) ≤ n
reaches-24 n h = size_reaches n (23 + (size n - 24)) (first (size n) h)
  where
    first : (z : ℕ) → 24 ≤ z → 23 + (z - 24) < z
    first z h = omega arith

-- so that one is a 1
pub leads-24 : (n : ℕ) → 24 ≤ size n → 2 ^ 23 ≤ n / 2 ^ (size n - 24)
leads-24 n h =
    let k = size n - 24 in
    subst (λ (x : ℕ). x ≤ n / 2 ^ k) (shl-shr (2 ^ 23) k) (shr_mono k (le_trans (le_of_eq (sym (pow-add 2 23 k))) (reaches-24 n h)))

-- a carry into a 25th digit is one more zero after 24 digits
pub carry-24 : (q e : ℕ) → q ≡ 2 ^ 24 → q * 2 ^ e ≡ 2 ^ 23 * 2 ^ (e + 1)
carry-24 q e p = ap (λ (x : ℕ). x * 2 ^ e) p ∙ mul_assoc (2 ^ 23) 2 (2 ^ e) ∙ ap (λ (x : ℕ). 2 ^ 23 * x) (mul_comm 2 (2 ^ e) ∙ sym (pow-add 2 e 1))
