-- Division by 2 ^ e as the machine has it, for an e of at most 40: the divisor is a shifted one, the remainder a mask.
use Rattle.std.proofs.Common.{◌≡◌, ℕ, ◌+◌, ◌-◌, ◌*◌, ◌/◌, ◌%◌, ◌^◌, ◌<◌, ◌≤◌, sym, ap, ◌∙◌, le_trans, le_of_eq, lt_of_lt_of_le, mod-lt, mul-le-mul_left, one-mul, div-add-mod', mul-one, arith, lit<, pow_pos, pow_mono, shl_exact}
use lib.Bits.{bit_and, and_mask}

module _ (s e : ℕ) (h : e ≤ 40) where
  -- the shift loses no bit
  pub unit : 1 * 2 ^ e % 2 ^ 64 ≡ 2 ^ e
  unit = shl_exact 1 e 64 (lit< tt) (omega arith) ∙ one-mul (2 ^ e)

  pub masked : bit_and s (1 * 2 ^ e % 2 ^ 64 - 1) ≡ s % 2 ^ e
  masked = ap (λ (x : ℕ). bit_and s (x - 1)) unit ∙ and_mask s e

  -- so twice the remainder fits
  pub small : s % 2 ^ e < 2 ^ 40
  small = lt_of_lt_of_le (mod-lt s (pow_pos e)) (pow_mono h)

  -- where there is a remainder the quotient is below the number, so one more than it fits too
  pub room : 0 < s % 2 ^ e → s / 2 ^ e + 1 ≤ s
  room r = go (s / 2 ^ e) (s / 2 ^ e * 2 ^ e) (s % 2 ^ e) (le_trans (le_of_eq (sym (mul-one (s / 2 ^ e)))) (mul-le-mul_left (s / 2 ^ e) (pow_pos e))) r (div-add-mod' s (2 ^ e))
    where
      go : (q m r : ℕ) → q ≤ m → 0 < r → m + r ≡ s → q + 1 ≤ s
      go q m r a b c = omega arith
