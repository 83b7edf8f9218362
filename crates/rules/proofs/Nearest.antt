-- `closest a u`, which is a / u to the nearest whole number, a tie to the even one: how twice the remainder decides it, and
-- that no other number is nearer.
use mathlib.Core.Path.{◌≡◌, refl, ap, ◌∙◌, subst}
use mathlib.Core.Bool.{not}
use Prim.Native.Nat.{ℕ, suc, ◌+◌, ◌*◌, ◌/◌, ◌%◌, ◌≤◌, ◌<◌, compare, Ordering}
use native.Mathlib.Nat.{add-mul, add-zero, div-add-mod', eq_of_mul-eq-mul_right, mod-lt, mul-le-mul_right, one-mul, suc-mul, zero-lt-suc}
use native.Mathlib.Decide.{dec_le}
use native.Mathlib.Numerals.{add-one}
use native.Mathlib.Omega.{arith}
use lib.Arith.{lt_of_le-ne}
use lib.Dec.{T, is_le, compare_is_eq, eqb, leb→le, nleb→lt, eqb→eq, eqb_refl}
use lib.Ieee.{nearest}
use lib.Ieee.Nearest.{closest}

-- what the answer of a comparison says
abbrev Cmp : Ordering → ℕ → ℕ → Type 0
Cmp Ordering.lt a b = a < b
Cmp Ordering.eq a b = a ≡ b
Cmp Ordering.gt a b = b < a

-- and it holds
cmp : (a b : ℕ) → Cmp (compare a b) a b
cmp a b = go (compare a b) (leb→le a b) (nleb→lt a b) (eqb→eq a b) (λ (e : a ≡ b). subst (λ (x : ℕ). T (eqb a x)) e (eqb_refl a))
  where
    go : (o : Ordering) → (T (is_le o) → a ≤ b) → (T (not (is_le o)) → b < a) → (T (compare_is_eq o) → a ≡ b) → (a ≡ b → T (compare_is_eq o)) → Cmp o a b
    go Ordering.lt h k e n = lt_of_le-ne (h tt) n
    go Ordering.eq h k e n = e tt
    go Ordering.gt h k e n = k tt

-- ---- by twice the remainder
module _ (a u : ℕ) where
  -- under half a unit: down
  pub under : a % u * 2 < u → a / u ≡ closest a u
  under h = go (compare (a % u * 2) u) (cmp (a % u * 2) u)
    where
      go : (o : Ordering) → Cmp o (a % u * 2) u → a / u ≡ nearest (a / u) o
      go Ordering.lt k = refl
      go Ordering.eq k = absurd (omega arith)
      go Ordering.gt k = absurd (omega arith)

  -- over half a unit: up
  pub over : u < a % u * 2 → a / u + 1 ≡ closest a u
  over h = go (compare (a % u * 2) u) (cmp (a % u * 2) u)
    where
      go : (o : Ordering) → Cmp o (a % u * 2) u → a / u + 1 ≡ nearest (a / u) o
      go Ordering.lt k = absurd (omega arith)
      go Ordering.eq k = absurd (omega arith)
      go Ordering.gt k = add-one (a / u)

  -- at half a unit: to the even one
  pub tie : a % u * 2 ≡ u → a / u + a / u % 2 ≡ closest a u
  tie h = go (compare (a % u * 2) u) (cmp (a % u * 2) u)
    where
      go : (o : Ordering) → Cmp o (a % u * 2) u → a / u + a / u % 2 ≡ nearest (a / u) o
      go Ordering.lt k = absurd (omega arith)
      go Ordering.eq k = refl
      go Ordering.gt k = absurd (omega arith)

-- ---- the nearest
-- q units are within half a unit of a, and where they are half a unit away q is even
pub record Rounds (a u q : ℕ) : Type 0 where
  pub low : 2 * a ≤ 2 * (q * u) + u
  pub high : 2 * (q * u) ≤ 2 * a + u
  pub even-low : 2 * a ≡ 2 * (q * u) + u → q % 2 ≡ 0
  pub even-high : 2 * (q * u) ≡ 2 * a + u → q % 2 ≡ 0

-- w units and a remainder r, rounded by how twice r compares with the unit
rounds : (a u w r : ℕ) (o : Ordering) → 0 < u → r < u → w * u + r ≡ a → Cmp o (r * 2) u → Rounds a u (nearest w o)
rounds a u w r Ordering.lt U R e c = record { low = omega arith; high = omega arith; even-low = λ h. absurd (omega arith); even-high = λ h. absurd (omega arith) }
rounds a u w r Ordering.eq U R e c = tied (dec_le (w % 2) 0)
  where
    even_up : (w + w % 2) % 2 ≡ 0
    even_up = omega arith

    nil : (p : ℕ) → p ≤ 0 → p ≡ 0
    nil p h = omega arith

    one : (p : ℕ) → p < 2 → (p ≤ 0 → ⊥) → p ≡ 1
    one p h n = omega arith

    tied : Dec (w % 2 ≤ 0) → Rounds a u (w + w % 2)
    tied (yes h) =
        let s : (w + w % 2) * u ≡ w * u = ap (λ (x : ℕ). (w + x) * u) (nil (w % 2) h) ∙ ap (λ (x : ℕ). x * u) (add-zero w) in
        record { low = omega arith; high = omega arith; even-low = λ g. even_up; even-high = λ g. even_up }
    tied (no n) =
        let s : (w + w % 2) * u ≡ w * u + u = ap (λ (x : ℕ). (w + x) * u) (one (w % 2) (mod-lt w (zero-lt-suc 1)) n) ∙ add-mul w 1 u ∙ ap (λ (x : ℕ). w * u + x) (one-mul u) in
        record { low = omega arith; high = omega arith; even-low = λ g. even_up; even-high = λ g. even_up }
rounds a u w r Ordering.gt U R e c =
    let s : suc w * u ≡ w * u + u = suc-mul w u in
    record { low = omega arith; high = omega arith; even-low = λ h. absurd (omega arith); even-high = λ h. absurd (omega arith) }

-- `closest` is such a number
pub closest-rounds : (a u : ℕ) → 0 < u → Rounds a u (closest a u)
closest-rounds a u U = rounds a u (a / u) (a % u) (compare (a % u * 2) u) U (mod-lt a U) (div-add-mod' a u) (cmp (a % u * 2) u)

-- and no two are
pub rounds-unique : (a u p q : ℕ) → 0 < u → Rounds a u p → Rounds a u q → p ≡ q
rounds-unique a u p q U x y = same (less p q x y) (less q p y x)
  where
    same : (p < q → ⊥) → (q < p → ⊥) → p ≡ q
    same f g = omega arith

    both : (m n : ℕ) → n ≡ suc m → m % 2 ≡ 0 → n % 2 ≡ 0 → ⊥
    both m n e g h = omega arith

    -- two that differ are one unit apart with a in the middle, and cannot both be even
    less : (m n : ℕ) → Rounds a u m → Rounds a u n → m < n → ⊥
    less m n g h l =
        let s : suc m * u ≡ m * u + u = suc-mul m u in
        let t : suc m * u ≤ n * u = mul-le-mul_right u l in
        let e : n * u ≡ suc m * u = omega (arith, g.low, h.high) in
        both m n (eq_of_mul-eq-mul_right u U n (suc m) e) (g.even-low (omega (arith, g.low, h.high))) (h.even-high (omega (arith, g.low, h.high)))
