-- A chain, one source at a time, as a loop that starts before its first source meets it.
use Prim.Native.Nat.{ℕ, ◌+◌, ◌-◌, ◌≤◌, ◌<◌, min}
use mathlib.Core.Path.{◌≡◌, refl, sym, subst}
use mathlib.Core.List.{List}
use mathlib.Core.Bool.{Bool, true, false, cond, not}
use native.Mathlib.Omega.{arith}
use borrow.Author.Tests.{eqb-true, eqb-false, ltb-true, ltb-false}
use lib.Dec.{T, ltb, eqb}
use lib.ListN.{length, drop, get_or}
use Rattle.std.proofs.Common.{Break, Continue}
use Rattle.rules.specs.Chain.{chain}
use Rattle.tree_pick.proofs.Chains.{Taken, no-chain, chain-starts, chain_next, chain-stops, chain-ends}

-- what an answer says that breaks off or goes on
break-so : (b : Bool) (v m : ℕ) → cond b (Break v) (Continue v) ≡ Break m → b ≡ true
break-so true v m e = refl
break-so false v m e = let z : ◌≡◌ {A = ℕ} 0 1 = cc in absurd (omega arith)

goes-so : (b : Bool) (v m : ℕ) → cond b (Break v) (Continue v) ≡ Continue m → (b ≡ false) × (m ≡ v)
goes-so true v m e = let z : ◌≡◌ {A = ℕ} 0 1 = cc in absurd (omega arith)
goes-so false v m e = (refl, cc)

module _ (f : ℕ → ℕ) (s : List ℕ) (from : ℕ) where
  -- at source i: behind the first one, the chain is under way
  abbrev pub Inv : ℕ → ℕ → Type 0
  Inv i least = (from ≤ i) × (i ≤ length s) × (from < i → Taken f s from least i)

  pub begins : from ≤ length s → Inv from 0
  begins g = (omega arith, g, λ h. absurd (omega arith))

  module _ (i least : ℕ) (v : Inv i least) where
    later : eqb i from ≡ false → from < i
    later e =
        let other : i ≡ from → ⊥ = eqb-false i from e in
        omega (arith, v.0)

    pub at-end : length s ≤ i → i - from ≡ chain f (drop from s)
    at-end g = go (eqb i from) refl
      where
        go : (b : Bool) → eqb i from ≡ b → i - from ≡ chain f (drop from s)
        go true e = omega (arith, eqb-true i from e, no-chain f s from (omega (arith, eqb-true i from e)))
        go false e = chain-ends (v.2 (later e)) g

    module _ (h : i < length s) (x : ℕ) (is : get_or s i 0 ≡ x) where
      pub over-at : (m : ℕ) → cond (cond (eqb i from) false (ltb (f least) x)) (Break (cond (eqb i from) x (min least x))) (Continue (cond (eqb i from) x (min least x))) ≡ Break m → i - from ≡ chain f (drop from s)
      over-at m g = go (eqb i from) refl (break-so _ _ m g)
        where
          go : (b : Bool) → eqb i from ≡ b → cond b false (ltb (f least) x) ≡ true → i - from ≡ chain f (drop from s)
          go true e g' = absurd (subst (λ (t : Bool). T (not t)) g' tt)
          go false e g' = chain-stops (v.2 (later e)) h (omega (arith, ltb-true (f least) x g'))

      pub next : (m : ℕ) → cond (cond (eqb i from) false (ltb (f least) x)) (Break (cond (eqb i from) x (min least x))) (Continue (cond (eqb i from) x (min least x))) ≡ Continue m → Inv (i + 1) m
      next m g = (omega arith, omega arith, λ l. go (eqb i from) refl (goes-so _ _ m g).0 (goes-so _ _ m g).1)
        where
          go : (b : Bool) → eqb i from ≡ b → cond b false (ltb (f least) x) ≡ false → m ≡ cond b x (min least x) → Taken f s from m (i + 1)
          go true t g' e' = rw (e', sym is, eqb-true i from t) (chain-starts (omega (arith, eqb-true i from t)))
          go false t g' e' = chain_next (v.2 (later t)) h (omega (arith, ltb-false (f least) x g')) (rw (is, e'))
