-- A loop over the rows up to row n, at row i: a test q of the rows that are left answers v, as it did of all the rows.
use Prim.Native.Nat.{ℕ, ◌+◌, ◌-◌, ◌≤◌, ◌<◌}
use mathlib.Core.Path.{◌≡◌, refl, sym, ap, ◌∙◌}
use mathlib.Core.List.{List, [], ◌∷◌}
use mathlib.Core.Bool.{Bool, ◌&&◌}
use native.Mathlib.Nat.{sub-zero}
use native.Mathlib.Omega.{arith}
use lib.ListN.{length, get_or}
use lib.Seq.{take_all}
use Rattle.std.specs.List.{list_all}
use Rattle.rules.specs.Lists.{all}
use Rattle.rules.specs.Lent.{rows_from}
use Rattle.rules.proofs.Rows.{rows_next, rows_end, part-is}

module _ {A B : Type 0} where
  pub record Left (q : List A → B) (f : ℕ → A) (n i : ℕ) (v : B) : Type 0 where
    pub test : q (rows_from f i (n - i)) ≡ v

  module _ {q : List A → B} {f : ℕ → A} {n : ℕ} where
    -- all the rows, from the first one or from row a on
    pub scan-starts : Left q f n 0 (q (rows_from f 0 n))
    scan-starts = record { test = ap (λ (m : ℕ). q (rows_from f 0 m)) (sub-zero n) }

    pub scan-starts-at : {a : ℕ} → Left q f n a (q (rows_from f a (n - a)))
    scan-starts-at = record { test = refl }

    -- row i makes no difference
    pub scan-next : {i : ℕ} {v : B} → Left q f n i v → i < n → q (f i ∷ rows_from f (i + 1) (n - (i + 1))) ≡ q (rows_from f (i + 1) (n - (i + 1))) → Left q f n (i + 1) v
    scan-next {i} l h e = record { test = sym e ∙ ap q (sym (rows_next f i n h)) ∙ l.test }

    -- row i decides
    pub scan-stops : {i : ℕ} {v w : B} → Left q f n i v → i < n → q (f i ∷ rows_from f (i + 1) (n - (i + 1))) ≡ w → w ≡ v
    scan-stops {i} l h e = sym e ∙ ap q (sym (rows_next f i n h)) ∙ l.test

    -- no row is left
    pub scan-ends : {i : ℕ} {v : B} → Left q f n i v → n ≤ i → q [] ≡ v
    scan-ends {i} l h = ap q (sym (rows_end f i n h)) ∙ l.test

-- a test of all elements, as a chain of iterators says it
pub all_listed : {A : Type 0} (p : A → Bool) (xs : List A) → list_all p xs ≡ all p xs
unfolding all
all_listed p [] = refl
all_listed p (x ∷ xs) = ap (λ (b : Bool). p x && b) (all_listed p xs)

-- the numbers of a slice, one by one
pub whole-is : (s : List ℕ) → rows_from (λ i. get_or s i 0) 0 (length s) ≡ s
whole-is s = part-is s 0 (length s) (omega arith) ∙ take_all (length s) s (omega arith)
