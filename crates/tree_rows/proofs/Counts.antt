-- Counting the flags of one tree's rows.
use Prim.Native.Nat.{ℕ, zero, suc, ◌+◌}
use mathlib.Core.Path.{◌≡◌, refl, sym, ap}
use mathlib.Core.List.{List, [], ◌∷◌, map}
use mathlib.Core.Bool.{Bool, true, false, cond, not}
use native.Mathlib.Omega.{arith}
use lib.Dec.{eqb}
use lib.ListN.{length}
use borrow.Author.Tests.{ne_eqb}
use Rattle.std.specs.List.{count_by}
use Rattle.std.proofs.lemmas.List.Recursion.{is_count_by}
use Rattle.rules.specs.Lists.{keep}
use Rattle.rows.specs.Movers.{marked}

-- as many flags are kept as are not 0
pub kept_length : (flags : List ℕ) → count_by (λ x. not (eqb x 0)) flags ≡ length (keep marked flags)
unfolding keep
kept_length flags = sym (is_count_by (λ (l : List ℕ). length (keep marked l)) (λ x. not (eqb x 0)) refl (λ x xs. step x xs) flags)
  where
    step : (x : ℕ) (xs : List ℕ) → length (keep marked (x ∷ xs)) ≡ cond (not (eqb x 0)) (1 + length (keep marked xs)) (length (keep marked xs))
    step zero xs = refl
    step (suc x) xs = rw (ne_eqb (suc x) 0 (λ e. omega arith)) (omega arith)

-- ---- how many are kept

-- tests that agree one by one keep as many
pub kept-many : {A B : Type 0} (p : A → Bool) (q : B → Bool) (xs : List A) (ys : List B) → map p xs ≡ map q ys → length (keep p xs) ≡ length (keep q ys)
unfolding keep
kept-many p q [] [] h = refl
kept-many p q [] (y ∷ ys) h = let z : ◌≡◌ {A = ℕ} 0 1 = cc in absurd (omega arith)
kept-many p q (x ∷ xs) [] h = let z : ◌≡◌ {A = ℕ} 0 1 = cc in absurd (omega arith)
kept-many {A} {B} p q (x ∷ xs) (y ∷ ys) h =
    let here : p x ≡ q y = cc in
    let later : map p xs ≡ map q ys = cc in
    rw here (go (q y) (kept-many p q xs ys later))
  where
    go : (b : Bool) → length (keep p xs) ≡ length (keep q ys) → length (cond b (x ∷ keep p xs) (keep p xs)) ≡ length (cond b (y ∷ keep q ys) (keep q ys))
    go true e = ap suc e
    go false e = e
