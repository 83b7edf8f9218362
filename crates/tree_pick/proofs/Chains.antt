-- Chains, one run at a time, as a loop that is at run i meets them.
use Prim.Native.Nat.{ℕ, suc, ◌+◌, ◌-◌, ◌≤◌, ◌<◌, min}
use mathlib.Core.Path.{◌≡◌}
use mathlib.Core.List.{List, [], ◌∷◌}
use mathlib.Core.Bool.{Bool, true, false, cond}
use native.Mathlib.Numerals.{add-one}
use native.Mathlib.Omega.{arith}
use borrow.Author.Tests.{le-leb, lt-leb}
use lib.Dec.{leb}
use lib.ListN.{length, drop, get_or, length-drop, drop_of_length-le}
use lib.Seq.{drop-cons}
use Rattle.rules.specs.Chain.{chain, joined}

-- the chain from run a has taken the runs up to run i, of which `least` is the smallest size, and goes on from there
pub record Taken (lim : ℕ → ℕ) (sizes : List ℕ) (a least i : ℕ) : Type 0 where
  pub begun : a < i
  pub within : i ≤ length sizes
  pub left : chain lim (drop a sizes) ≡ i - a + joined lim least (drop i sizes)

-- there is no run a
pub no-chain : (lim : ℕ → ℕ) (sizes : List ℕ) (a : ℕ) → length sizes ≤ a → 0 ≡ chain lim (drop a sizes)
unfolding chain
no-chain lim sizes a h = rw (drop_of_length-le sizes h)

-- "take run i"
pub chain-starts : {lim : ℕ → ℕ} {sizes : List ℕ} {a : ℕ} → a < length sizes → Taken lim sizes a (get_or sizes a 0) (a + 1)
unfolding chain
chain-starts {lim} {sizes} {a} h = record {
  begun = omega arith;
  within = omega arith;
  left =
      let begins : chain lim (drop a sizes) ≡ suc (joined lim (get_or sizes a 0) (drop (a + 1) sizes)) = rw (add-one, drop-cons sizes a 0) in
      omega arith;
}

module _ {lim : ℕ → ℕ} {sizes : List ℕ} {a least i : ℕ} (t : Taken lim sizes a least i) where
  -- run i is taken; `m` is the smallest size then
  pub chain_next : {m : ℕ} → i < length sizes → get_or sizes i 0 ≤ lim least → min least (get_or sizes i 0) ≡ m → Taken lim sizes a m (i + 1)
  unfolding joined
  chain_next {m} h g e = record {
    begun = omega arith;
    within = omega arith;
    left =
        let goes : joined lim least (drop i sizes) ≡ suc (joined lim m (drop (i + 1) sizes)) = rw (add-one, drop-cons sizes i 0, le-leb _ _ g, e) in
        omega arith;
  }

  -- run i is too large
  pub chain-stops : i < length sizes → lim least < get_or sizes i 0 → i - a ≡ chain lim (drop a sizes)
  unfolding joined
  chain-stops h g =
      let stops : joined lim least (drop i sizes) ≡ 0 = rw (drop-cons sizes i 0, lt-leb _ _ g) in
      omega arith

  -- no run is left
  pub chain-ends : length sizes ≤ i → i - a ≡ chain lim (drop a sizes)
  unfolding joined
  chain-ends h =
      let ends : joined lim least (drop i sizes) ≡ 0 = rw (drop_of_length-le sizes h) in
      omega arith

-- no more runs are taken than are next
joined-within : (lim : ℕ → ℕ) (least : ℕ) (sizes : List ℕ) → joined lim least sizes ≤ length sizes
unfolding joined
joined-within lim least [] = omega arith
joined-within lim least (x ∷ xs) = go (leb x (lim least)) (joined-within lim (min least x) xs)
  where
    go : (b : Bool) → joined lim (min least x) xs ≤ length xs → cond b (suc (joined lim (min least x) xs)) 0 ≤ suc (length xs)
    go true h = omega arith
    go false h = omega arith

-- a chain has no more runs than there are
chain-within : (lim : ℕ → ℕ) (sizes : List ℕ) → chain lim sizes ≤ length sizes
unfolding chain
chain-within lim [] = omega arith
chain-within lim (x ∷ xs) = omega (arith, joined-within lim x xs)

-- the chain from run a ends where the runs do, at the latest
pub chain_fits : (lim : ℕ → ℕ) (sizes : List ℕ) (a : ℕ) → a ≤ length sizes → a + chain lim (drop a sizes) ≤ length sizes
chain_fits lim sizes a h = omega (arith, chain-within lim (drop a sizes), length-drop a sizes)
