-- The order in which trees are asked has the same trees, each once.
use Prim.Native.Nat.{ℕ, suc, ◌+◌}
use mathlib.Core.Path.{◌≡◌, refl, sym, ap, ◌∙◌}
use mathlib.Core.Logic.{◌≢◌}
use mathlib.Core.List.{List, [], ◌∷◌, map, Memᴰ}
use mathlib.Core.Bool.{Bool, true, false, cond, not}
use native.Mathlib.Omega.{arith}
use lib.Dec.{eqb, leb}
use lib.ListN.{length}
use borrow.Author.Tests.{eqb-false, not-true}
use Rattle.rules.specs.Lists.{any, distinct, total}
use Rattle.rules.specs.Tables.{Tree}
use Rattle.rules.specs.Plan.{placed, ordered}
use Rattle.rules.proofs.Lookups.{and_left, and_right, or_left, or_right}

-- no two trees have one prefix
abbrev pub Apart : List Tree → Type 0
Apart [] = Unit {0}
Apart (t ∷ ts) = ((c : Tree) → Memᴰ c ts → c.prefix ≢ t.prefix) × Apart ts

-- a prefix that is none of these
none-same : {c : Tree} (k : ℕ) (ts : List Tree) → any (eqb k) (map (λ t. t.prefix) ts) ≡ false → Memᴰ c ts → c.prefix ≢ k
unfolding any
none-same k [] h x q = elim x [ ]
none-same {c} k (t ∷ ts) h (Memᴰ.head e) q =
    eqb-false k t.prefix (or_left (eqb k t.prefix) (any (eqb k) (map (λ x. x.prefix) ts)) h) (sym q ∙ ap (λ (x : Tree). x.prefix) e)
none-same k (t ∷ ts) h (Memᴰ.tail m) q = none-same k ts (or_right (eqb k t.prefix) (any (eqb k) (map (λ x. x.prefix) ts)) h) m q

-- no prefix twice
pub distinct_apart : (ts : List Tree) → distinct eqb (map (λ t. t.prefix) ts) ≡ true → Apart ts
unfolding distinct
distinct_apart [] h = tt
distinct_apart (t ∷ ts) h =
    let later = any (eqb t.prefix) (map (λ x. x.prefix) ts) in
    let rest = distinct eqb (map (λ x. x.prefix) ts) in
    (λ c m. none-same t.prefix ts (not-true later (and_left (not later) rest h)) m, distinct_apart ts (and_right (not later) rest h))

-- so a tree is known by its prefix
pub apart-same : {t c : Tree} {ts : List Tree} → Apart ts → Memᴰ t ts → Memᴰ c ts → c.prefix ≡ t.prefix → c ≡ t
apart-same h (Memᴰ.head e) (Memᴰ.head q) p = q ∙ sym e
apart-same {t} {c} h (Memᴰ.head e) (Memᴰ.tail n) p = absurd (h.0 c n (p ∙ ap (λ (x : Tree). x.prefix) e))
apart-same {t} {c} h (Memᴰ.tail m) (Memᴰ.head q) p = absurd (h.0 t m (sym p ∙ ap (λ (x : Tree). x.prefix) q))
apart-same h (Memᴰ.tail m) (Memᴰ.tail n) p = apart-same h.1 m n p

-- ---- one tree, put somewhere among others
data Inserted (t : Tree) : List Tree → List Tree → Type 0 where
  at_front : {ts : List Tree} → Inserted t ts (t ∷ ts)
  after : {s : Tree} {ts us : List Tree} → Inserted t ts us → Inserted t (s ∷ ts) (s ∷ us)

-- placing a tree puts it among the others
placed-in : (t : Tree) (ts : List Tree) → Inserted t ts (placed t ts)
unfolding placed
placed-in t [] = at_front
placed-in t (s ∷ ts) = go (leb (length s.l0) (length t.l0)) (placed-in t ts)
  where
    go : (c : Bool) → Inserted t ts (placed t ts) → Inserted t (s ∷ ts) (cond c (t ∷ s ∷ ts) (s ∷ placed t ts))
    go true i = at_front
    go false i = after i

-- sums
total-in : (g : Tree → ℕ) {t : Tree} {ts us : List Tree} → Inserted t ts us → total (map g us) ≡ g t + total (map g ts)
unfolding total
total-in g at_front = refl
total-in g (after i) = omega (arith, total-in g i)

-- lengths
length-in : {t : Tree} {ts us : List Tree} → Inserted t ts us → length us ≡ suc (length ts)
length-in at_front = refl
length-in (after i) = ap suc (length-in i)

-- members, into the list
mem-in : {c t : Tree} {ts us : List Tree} → Inserted t ts us → Memᴰ c (t ∷ ts) → Memᴰ c us
mem-in at_front m = m
mem-in (after i) (Memᴰ.head e) = Memᴰ.tail (mem-in i (Memᴰ.head e))
mem-in (after i) (Memᴰ.tail (Memᴰ.head e)) = Memᴰ.head e
mem-in (after i) (Memᴰ.tail (Memᴰ.tail m)) = Memᴰ.tail (mem-in i (Memᴰ.tail m))

-- members, out of it
mem-out : {c t : Tree} {ts us : List Tree} → Inserted t ts us → Memᴰ c us → Memᴰ c (t ∷ ts)
mem-out at_front m = m
mem-out (after i) (Memᴰ.head e) = Memᴰ.tail (Memᴰ.head e)
mem-out (after i) (Memᴰ.tail m) = swap (mem-out i m)
  where
    swap : {c t s : Tree} {ts : List Tree} → Memᴰ c (t ∷ ts) → Memᴰ c (t ∷ s ∷ ts)
    swap (Memᴰ.head e) = Memᴰ.head e
    swap (Memᴰ.tail m) = Memᴰ.tail (Memᴰ.tail m)

-- prefixes stay distinct
apart_in : {t : Tree} {ts us : List Tree} → Inserted t ts us → Apart (t ∷ ts) → Apart us
apart_in at_front h = h
apart_in {t} (after {s} {ts} {us} i) h = (λ c m. go c (mem-out i m), apart_in i (λ c m. h.0 c (Memᴰ.tail m), h.1.1))
  where
    go : (c : Tree) → Memᴰ c (t ∷ ts) → c.prefix ≢ s.prefix
    go c (Memᴰ.head e) p = h.0 s (Memᴰ.head refl) (sym p ∙ ap (λ (x : Tree). x.prefix) e)
    go c (Memᴰ.tail m) p = h.1.0 c m p

-- ---- all trees, put in order one after another

-- sums stay
pub ordered-total : (g : Tree → ℕ) (ts : List Tree) → total (map g (ordered ts)) ≡ total (map g ts)
unfolding total ordered
ordered-total g [] = refl
ordered-total g (t ∷ ts) = omega (arith, ordered-total g ts, total-in g (placed-in t (ordered ts)))

-- lengths stay
pub ordered-length : (ts : List Tree) → length (ordered ts) ≡ length ts
unfolding ordered
ordered-length [] = refl
ordered-length (t ∷ ts) = length-in (placed-in t (ordered ts)) ∙ ap suc (ordered-length ts)

-- each tree is asked
pub ordered-has : {c : Tree} (ts : List Tree) → Memᴰ c ts → Memᴰ c (ordered ts)
unfolding ordered
ordered-has [] x = elim x [ ]
ordered-has (t ∷ ts) (Memᴰ.head e) = mem-in (placed-in t (ordered ts)) (Memᴰ.head e)
ordered-has (t ∷ ts) (Memᴰ.tail m) = mem-in (placed-in t (ordered ts)) (Memᴰ.tail (ordered-has ts m))

-- and no other
pub ordered-only : {c : Tree} (ts : List Tree) → Memᴰ c (ordered ts) → Memᴰ c ts
unfolding ordered
ordered-only [] m = m
ordered-only {c} (t ∷ ts) m = go (mem-out (placed-in t (ordered ts)) m) (ordered-only ts)
  where
    go : Memᴰ c (t ∷ ordered ts) → (Memᴰ c (ordered ts) → Memᴰ c ts) → Memᴰ c (t ∷ ts)
    go (Memᴰ.head e) ih = Memᴰ.head e
    go (Memᴰ.tail m) ih = Memᴰ.tail (ih m)

-- with distinct prefixes
pub ordered-apart : (ts : List Tree) → Apart ts → Apart (ordered ts)
unfolding ordered
ordered-apart [] h = tt
ordered-apart (t ∷ ts) h = apart_in (placed-in t (ordered ts)) (λ c m. h.0 c (ordered-only ts m), ordered-apart ts h.1)
