-- The limit does not fall as the size grows, for every threshold.
use Rattle.std.proofs.Common.{◌≡◌, ℕ, ◌*◌, ◌≤◌, Bool, true, false, cond, T, eqb, pos, sym, ap, ◌∙◌, zero-le, le_trans, le_of_eq, le_refl, mul-le-mul_right, zero-lt-suc, mul-pos, zero-mul, eqb→eq}
use native.Mathlib.Nat.{mul-mul-mul_comm}
use lib.Pow.{le_ones}
use lib.Ieee.{Float, nan, inf, fin, binary32, up, down, round, le, lt, eq, mul, of_int, to_unsigned}
use lib.Ieee.Casts.{to_unsigned-lt}
use lib.Ieee.Fits.{down_pos, up_pos}
use lib.Ieee.Order.{round_mono}
use Rattle.rules.specs.Limit.{limit_of}
use Rattle.rules.proofs.Cutting.{cut-mono, lt-or-eq, no-factor}
use Rattle.rules.proofs.Rounding.{of_int_is}
use Rattle.size_limit.proofs.Signs.{Signed, infinite, finite, size-signed, times-nan, times-negative, product-zero, round-zero}

-- an infinite product is cut to no less than any other, a NaN to 0
under-largest : (x : Float) (b : Bool) → (T b → to_unsigned 64 x ≡ 0) → to_unsigned 64 x ≤ to_unsigned 64 (cond b nan (inf false))
unfolding to_unsigned
under-largest x true h = le_of_eq (h tt)
under-largest x false h = le_ones 64 (to_unsigned-lt 64 x)

-- infinity times zero is a NaN
nan-at-zero : (m : ℕ) → m ≡ 0 → to_unsigned 64 (cond (eqb m 0) nan (inf false)) ≡ 0
unfolding to_unsigned
nan-at-zero m z = ap (λ (y : ℕ). to_unsigned 64 (cond (eqb y 0) nan (inf false))) z

-- a product with a fixed factor that is not negative, cut towards zero, follows the order of the other factor
product-mono : {x y t : Float} → Signed false x → Signed false y → Signed false t → T (le x y) → to_unsigned 64 (mul binary32 x t) ≤ to_unsigned 64 (mul binary32 y t)
unfolding mul le lt eq
product-mono infinite infinite infinite h = le_refl (to_unsigned 64 (inf false))
product-mono infinite infinite (finite {m = k}) h = le_refl (to_unsigned 64 (cond (eqb k 0) nan (inf false)))
product-mono infinite finite r h = absurd h
product-mono (finite {m = m}) infinite infinite h = under-largest (cond (eqb m 0) nan (inf false)) false (λ t. absurd t)
product-mono (finite {m = m} {e = e}) infinite (finite {m = k} {e = g}) h =
    under-largest (round binary32 false (m * up e * (k * up g)) (down e * down g)) (eqb k 0)
    (λ z. round-zero false (m * up e * (k * up g)) (down e * down g) (mul-pos (down_pos e) (down_pos g)) (product-zero (m * up e) k (up g) (eqb→eq k 0 z)))
product-mono (finite {m = m} {e = e}) (finite {m = n} {e = d}) infinite h =
    under-largest (cond (eqb m 0) nan (inf false)) (eqb n 0)
    (λ z. nan-at-zero m (no-factor m (up e) (up_pos e) (le_of_eq (no-factor (m * up e) (down d) (down_pos d) (le_trans (lt-or-eq (m * up e * down d) (n * up d * down e) h) (le_of_eq (flat n (up d) (down e) (eqb→eq n 0 z))))))))
  where
    flat : (n u d : ℕ) → n ≡ 0 → n * u * d ≡ 0
    flat n u d z = ap (λ (y : ℕ). y * u * d) z ∙ ap (λ (y : ℕ). y * d) (zero-mul u) ∙ zero-mul d
product-mono (finite {m = m} {e = e}) (finite {m = n} {e = d}) (finite {m = k} {e = g}) h =
    cut-mono (round binary32 false (m * up e * (k * up g)) (down e * down g)) (round binary32 false (n * up d * (k * up g)) (down d * down g))
    (round_mono binary32 (m * up e * (k * up g)) (down e * down g) (n * up d * (k * up g)) (down d * down g) (mul-pos (down_pos e) (down_pos g)) (mul-pos (down_pos d) (down_pos g))
    (le_trans (le_of_eq (mul-mul-mul_comm (m * up e) (k * up g) (down d) (down g)))
    (le_trans (mul-le-mul_right (k * up g * down g) (lt-or-eq (m * up e * down d) (n * up d * down e) h)) (le_of_eq (sym (mul-mul-mul_comm (n * up d) (k * up g) (down e) (down g)))))))

-- a larger size is rounded to no smaller single
size_mono : (a b : ℕ) → a ≤ b → T (le (of_int binary32 (pos a)) (of_int binary32 (pos b)))
size_mono a b h = rw (of_int_is a, of_int_is b) (round_mono binary32 a 1 b 1 (zero-lt-suc 0) (zero-lt-suc 0) (mul-le-mul_right 1 h))

-- a larger size has no smaller limit
pub limit-grows : (threshold : Float) (a b : ℕ) → a ≤ b → limit_of threshold a ≤ limit_of threshold b
unfolding limit_of
limit-grows nan a b h = le_trans (le_of_eq (times-nan (size-signed a))) zero-le
limit-grows (inf true) a b h = le_trans (le_of_eq (times-negative (size-signed a) infinite)) zero-le
limit-grows (inf false) a b h = product-mono (size-signed a) (size-signed b) infinite (size_mono a b h)
limit-grows (fin true m e) a b h = le_trans (le_of_eq (times-negative (size-signed a) finite)) zero-le
limit-grows (fin false m e) a b h = product-mono (size-signed a) (size-signed b) finite (size_mono a b h)
