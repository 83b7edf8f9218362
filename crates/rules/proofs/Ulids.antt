-- The order of ULIDs is strict, transitive and total.
use Prim.Native.Nat.{◌<◌}
use mathlib.Core.Path.{◌≡◌, refl, sym, ◌∙◌}
use mathlib.Core.Bool.{Bool, true, false, ◌&&◌, ◌||◌, true≢false, false≢true}
use mathlib.Core.Logic.{◌⊎◌, inl, inr}
use native.Mathlib.Omega.{arith}
use lib.Dec.{eqb, ltb}
use borrow.Author.Tests.{ltb-true, ltb-false, eqb-true, eqb-false, lt-ltb, le-ltb, eq-eqb, ne_eqb}
use Rattle.std.proofs.Common.{Some, Less, Equal, Greater, cond, is_lt}
use Rattle.std.specs.Ordering.{is_some_and, partial_ordering_then, partial_lt}
use Rattle.rules.specs.contracts.tables.UlidPartialOrd.TheImpl as UlidOrder
use Rattle.rules.specs.declared.tables.Ulid.{Ulid}
use Rattle.rules.specs.Tables.{same_ulid, ulid_below}

-- "high word first, compared in that order"
below-is : (a b : Ulid) → ulid_below a b ≡ true → (a.high < b.high) ⊎ ((a.high ≡ b.high) × (a.low < b.low))
below-is a b h = go (ltb a.high b.high) (eqb a.high b.high) refl refl h
  where
    go : (x y : Bool) → ltb a.high b.high ≡ x → eqb a.high b.high ≡ y → x || (y && ltb a.low b.low) ≡ true → (a.high < b.high) ⊎ ((a.high ≡ b.high) × (a.low < b.low))
    go true y e f h = inl (ltb-true a.high b.high e)
    go false true e f h = inr (eqb-true a.high b.high f, ltb-true a.low b.low h)
    go false false e f h = absurd (false≢true h)

is_below : (a b : Ulid) → (a.high < b.high) ⊎ ((a.high ≡ b.high) × (a.low < b.low)) → ulid_below a b ≡ true
is_below a b (inl h) = rw (lt-ltb a.high b.high h)
is_below a b (inr (e, h)) = rw (le-ltb a.high b.high (omega arith), eq-eqb a.high b.high e, lt-ltb a.low b.low h)

pub below-trans : (a b c : Ulid) → ulid_below a b ≡ true → ulid_below b c ≡ true → ulid_below a c ≡ true
below-trans a b c h k = is_below a c (go (below-is a b h) (below-is b c k))
  where
    go : (a.high < b.high) ⊎ ((a.high ≡ b.high) × (a.low < b.low)) → (b.high < c.high) ⊎ ((b.high ≡ c.high) × (b.low < c.low)) → (a.high < c.high) ⊎ ((a.high ≡ c.high) × (a.low < c.low))
    go (inl x) (inl y) = inl (omega arith)
    go (inl x) (inr y) = inl (omega arith)
    go (inr x) (inl y) = inl (omega arith)
    go (inr x) (inr y) = inr (omega arith, omega arith)

-- a ULID below another is not that one, whichever is looked at first
pub below_other : (a b : Ulid) → ulid_below a b ≡ true → same_ulid b a ≡ false
below_other a b h = go (below-is a b h)
  where
    go : (a.high < b.high) ⊎ ((a.high ≡ b.high) × (a.low < b.low)) → same_ulid b a ≡ false
    go (inl x) = rw (ne_eqb b.high a.high (λ e. omega arith))
    go (inr (e, x)) = rw (eq-eqb b.high a.high (sym e), ne_eqb b.low a.low (λ f. omega arith))

-- of two that are not the same one is below the other
pub below_total : (a b : Ulid) → same_ulid a b ≡ false → ulid_below b a ≡ false → ulid_below a b ≡ true
below_total a b s h = go (ltb a.high b.high) (eqb a.high b.high) (ltb a.low b.low) (eqb a.low b.low) refl refl refl refl s
  where
    never : (b.high < a.high) ⊎ ((b.high ≡ a.high) × (b.low < a.low)) → ulid_below a b ≡ true
    never w = absurd (true≢false (sym (is_below b a w) ∙ h))

    go : (x y z w : Bool) → ltb a.high b.high ≡ x → eqb a.high b.high ≡ y → ltb a.low b.low ≡ z → eqb a.low b.low ≡ w → y && w ≡ false → ulid_below a b ≡ true
    go true y z w e f g k t = is_below a b (inl (ltb-true a.high b.high e))
    go false true true w e f g k t = is_below a b (inr (eqb-true a.high b.high f, ltb-true a.low b.low g))
    go false true false true e f g k t = absurd (true≢false t)
    go false true false false e f g k t =
        let low = ltb-false a.low b.low g in
        let apart = eqb-false a.low b.low k in
        let high = eqb-true a.high b.high f in
        never (inr (sym high, omega arith))
    go false false z w e f g k t =
        let high = ltb-false a.high b.high e in
        let apart = eqb-false a.high b.high f in
        never (inl (omega arith))

-- `<` of the code's ULIDs
pub lt-below : (a b : Ulid) → partial_lt (UlidOrder.partial_cmp-value).it a b ≡ ulid_below a b
lt-below a b = go (ltb a.high b.high) (eqb a.high b.high) (ltb a.low b.low) (eqb a.low b.low)
  where
    go : (x y z w : Bool) → is_some_and is_lt (partial_ordering_then (Some (cond x Less (cond y Equal Greater))) (Some (cond z Less (cond w Equal Greater)))) ≡ x || (y && z)
    go true y z w = refl
    go false false z w = refl
    go false true true w = refl
    go false true false true = refl
    go false true false false = refl
