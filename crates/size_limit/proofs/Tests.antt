-- The two tests of `cut`, against 2 ^ 64 and 1, and what each of their answers says of the cut.
use Rattle.std.proofs.Common.{◌≡◌, ℕ, ◌-◌, ◌*◌, ◌^◌, ◌<◌, ◌≤◌, Bool, true, false, not, ◌&&◌, ◌||◌, T, eqb, ltb, pos, sym, refl, subst, le_antisymm, arith, lt→ltb}
use lib.Pow.{le_ones}
use lib.Ieee.{Float, nan, inf, fin, binary32, up, down, le, lt, eq, of_bits, to_unsigned}
use lib.Ieee.Casts.{to_unsigned-lt}
use lib.Ieee.Fits.{eq→eqb}
use lib.Ieee.Positive.{above, above_of_le}
use Rattle.rules.proofs.Cutting.{cut-mono}
use Rattle.std.proofs.num.Truncating.{below_one}

abbrev pub one : Float
one = fin false 1 (pos 0)

abbrev pub top : Float
top = fin false 1 (pos 64)

-- the two numbers as the program has them
one-is : of_bits binary32 0x3f80_0000 ≡ one
unfolding of_bits
one-is = refl

top-is : of_bits binary32 0x5f80_0000 ≡ top
unfolding of_bits
top-is = refl

-- the first number that is cut to the largest
top-cut : to_unsigned 64 top ≡ 2 ^ 64 - 1
unfolding to_unsigned
top-cut = refl

-- a test that failed
failed : {b : Bool} → b ≡ false → T (not b)
failed h = subst (λ (a : Bool). T (not a)) (sym h) tt

-- what is above zero and not from 2 ^ 64 on is below it
below_top : (x : Float) → T (above x) → T (not (le top x)) → T (lt x top)
unfolding le lt eq
below_top nan a h = absurd a
below_top (inf true) a h = absurd a
below_top (inf false) a h = absurd h
below_top (fin true m e) a h = absurd a
below_top (fin false m e) a h = less (1 * 2 ^ 64 * down e) (m * up e * 1) h
  where
    less : (a b : ℕ) → T (not (ltb a b || (eqb a b && true))) → T (ltb b a)
    less a b g = go (ltb a b) (eqb a b) g (lt→ltb a b) eq→eqb
      where
        go : (p q : Bool) → T (not (p || (q && true))) → (a < b → T p) → (a ≡ b → T q) → T (ltb b a)
        go true q g f h = absurd g
        go false true g f h = absurd g
        go false false g f h = lt→ltb b a (omega arith)

module _ (x : Float) where
  -- "2^64 and above give 2^64 - 1"
  pub from-top : le (of_bits binary32 0x5f80_0000) x ≡ true → 2 ^ 64 - 1 ≡ to_unsigned 64 x
  from-top h =
      le_antisymm
      (subst (λ (k : ℕ). k ≤ to_unsigned 64 x) top-cut (cut-mono top x (subst (λ (y : Float). T (le y x)) top-is (subst T (sym h) tt))))
      (le_ones 64 (to_unsigned-lt 64 x))

  -- from 1 on
  pub from_one : le (of_bits binary32 0x3f80_0000) x ≡ true → T (le one x)
  from_one h = subst (λ (y : Float). T (le y x)) one-is (subst T (sym h) tt)

  -- from 1 up to 2 ^ 64
  pub under_top : le (of_bits binary32 0x3f80_0000) x ≡ true → le (of_bits binary32 0x5f80_0000) x ≡ false → T (lt x top)
  under_top h k = below_top x (above_of_le one x tt (from_one h)) (subst (λ (y : Float). T (not (le y x))) top-is (failed k))

  -- "Not-a-number and anything below 1 give 0"
  pub under_one : le (of_bits binary32 0x3f80_0000) x ≡ false → 0 ≡ to_unsigned 64 x
  under_one h = below_one 64 x (subst (λ (y : Float). T (not (le y x))) one-is (failed h))
