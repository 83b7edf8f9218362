-- A loop that fills a table from its front: `f i` at each place i below n.
use Prim.Native.Nat.{ℕ, suc, ◌+◌, ◌≤◌, ◌<◌}
use mathlib.Core.Path.{◌≡◌, refl, ap}
use mathlib.Core.List.{List, ◌∷◌, ◌++◌, append_assoc}
use native.Mathlib.Nat.{zero-add}
use native.Mathlib.Numerals.{add-one}
use native.Mathlib.Omega.{arith}
use lib.ListN.{length, drop, get_or, set, length-append, length-drop}
use lib.Seq.{drop-cons, set_at}
use Rattle.rules.specs.Lent.{rows_from}
use Rattle.rules.proofs.Rows.{length-rows_from, rows_from-append}

-- the places before place i are filled, the others hold what they did
pub record Filled (f : ℕ → ℕ) (n : ℕ) (before : List ℕ) (i : ℕ) (now : List ℕ) : Type 0 where
  pub within : i ≤ n
  pub so_far : now ≡ rows_from f 0 i ++ drop i before

module _ {f : ℕ → ℕ} {n : ℕ} {before : List ℕ} where
  -- no place is
  pub fill-starts : Filled f n before 0 before
  unfolding rows_from
  fill-starts = record { within = omega arith; so_far = refl }

  module _ {i : ℕ} {now : List ℕ} (t : Filled f n before i now) where
    -- place i is filled
    pub fill-next : i < n → n ≤ length before → {x : ℕ} → x ≡ f i → Filled f n before (i + 1) (set now i x)
    unfolding rows_from
    fill-next h l {x} e =
        let there : i < length before = omega arith in
        let rest : drop i before ≡ get_or before i 0 ∷ drop (suc i) before = drop-cons before i 0 there in
        record {
          within = omega arith;
          so_far =
              rw (t.so_far, rest, set_at (rows_from f 0 i) (get_or before i 0) (drop (suc i) before) x i (length-rows_from f 0 i), rows_from-append f 0 i 1, zero-add, append_assoc, add-one, e);
        }

    -- all are filled
    pub fill-ends : n ≤ i → now ≡ rows_from f 0 n ++ drop n before
    fill-ends h =
        let all : i ≡ n = omega arith in
        rw all at t.so_far

    -- the table keeps its length
    pub fill-keeps : n ≤ length before → length now ≡ length before
    fill-keeps h = omega (arith, ap length t.so_far, length-append (rows_from f 0 i) (drop i before), length-rows_from f 0 i, length-drop i before)
