-- Dealing from queues in turns: the counting behind demand 3, over any entries that carry a key.
use Prim.Native.Nat.{ℕ, zero, suc, ◌+◌, ◌-◌, ◌*◌, ◌≤◌, ◌<◌, min}
use mathlib.Core.Path.{◌≡◌, refl, sym, ap, ◌∙◌}
use mathlib.Core.Logic.{◌⊎◌, inl, inr, ◌≢◌}
use mathlib.Core.List.{List, [], ◌∷◌, ◌++◌, nil≢cons}
use mathlib.Core.Bool.{true, false, cond}
use native.Mathlib.Omega.{arith}
use lib.Dec.{eqb}
use lib.ListN.{length, take, length-append, length-take}
use borrow.Author.Tests.{eq-eqb, ne_eqb}
use Rattle.rules.specs.Lists.{keep}
use Rattle.laws.proofs.Used.{keep_append}

-- a key, and the entries that are waiting under it
pub data Queue (A : Type 0) : Type 0 where
  queue : ℕ → List A → Queue A

module _ {A : Type 0} where
  -- what a pass with s slots hands out
  abbrev pub heads : List (Queue A) → ℕ → List A
  heads [] s = []
  heads (queue k [] ∷ qs) s = heads qs s
  heads (queue k (x ∷ l) ∷ qs) zero = []
  heads (queue k (x ∷ l) ∷ qs) (suc s) = x ∷ heads qs s

  -- and what it leaves
  abbrev pub rests : List (Queue A) → ℕ → List (Queue A)
  rests [] s = []
  rests (queue k [] ∷ qs) s = queue k [] ∷ rests qs s
  rests (queue k (x ∷ l) ∷ qs) zero = queue k (x ∷ l) ∷ qs
  rests (queue k (x ∷ l) ∷ qs) (suc s) = queue k l ∷ rests qs s

  -- how many entries are waiting
  abbrev pub waiting : List (Queue A) → ℕ
  waiting [] = 0
  waiting (queue k l ∷ qs) = length l + waiting qs

  -- passes until one hands out nothing: what was handed out, and in how many passes
  pub data Deal : List (Queue A) → ℕ → List A → ℕ → Type 0 where
    done : {qs : List (Queue A)} {s : ℕ} → heads qs s ≡ [] → Deal qs s [] 0
    more : {qs : List (Queue A)} {s : ℕ} {x : A} {xs ys : List A} {n : ℕ} → heads qs s ≡ x ∷ xs
        → Deal (rests qs s) (s - length (heads qs s)) ys n
        → Deal qs s (heads qs s ++ ys) (suc n)

  -- the queue of k holds l
  pub data In (k : ℕ) (l : List A) : List (Queue A) → Type 0 where
    here : {qs : List (Queue A)} → In k l (queue k l ∷ qs)
    there : {q : Queue A} {qs : List (Queue A)} → In k l qs → In k l (q ∷ qs)

  -- with no slot a pass does nothing
  pub heads-zero : (qs : List (Queue A)) → heads qs 0 ≡ []
  heads-zero [] = refl
  heads-zero (queue k [] ∷ qs) = heads-zero qs
  heads-zero (queue k (x ∷ l) ∷ qs) = refl

  pub rests-zero : (qs : List (Queue A)) → rests qs 0 ≡ qs
  rests-zero [] = refl
  rests-zero (queue k [] ∷ qs) = ap {B = List (Queue A)} (λ r. queue k [] ∷ r) (rests-zero qs)
  rests-zero (queue k (x ∷ l) ∷ qs) = refl

  -- ---- the total

  -- a pass hands out no more than there are slots
  heads-le : (qs : List (Queue A)) (s : ℕ) → length (heads qs s) ≤ s
  heads-le [] s = omega arith
  heads-le (queue k [] ∷ qs) s = heads-le qs s
  heads-le (queue k (x ∷ l) ∷ qs) zero = omega arith
  heads-le (queue k (x ∷ l) ∷ qs) (suc s) = omega (arith, heads-le qs s)

  -- and no more than one entry of each queue
  heads-few : (qs : List (Queue A)) (s : ℕ) → length (heads qs s) ≤ length qs
  heads-few [] s = omega arith
  heads-few (queue k [] ∷ qs) s = omega (arith, heads-few qs s)
  heads-few (queue k (x ∷ l) ∷ qs) zero = omega arith
  heads-few (queue k (x ∷ l) ∷ qs) (suc s) = omega (arith, heads-few qs s)

  -- what is handed out waits no more
  heads-rests : (qs : List (Queue A)) (s : ℕ) → length (heads qs s) + waiting (rests qs s) ≡ waiting qs
  heads-rests [] s = refl
  heads-rests (queue k [] ∷ qs) s = omega (arith, heads-rests qs s)
  heads-rests (queue k (x ∷ l) ∷ qs) zero = omega arith
  heads-rests (queue k (x ∷ l) ∷ qs) (suc s) = omega (arith, heads-rests qs s)

  -- a pass that hands out nothing had no slot, or found nothing waiting
  none_left : (qs : List (Queue A)) (s : ℕ) → heads qs s ≡ [] → (s ≡ 0) ⊎ (waiting qs ≡ 0)
  none_left [] s e = inr refl
  none_left (queue k [] ∷ qs) s e = elim (none_left qs s e) [ inl h ↦ inl h | inr h ↦ inr (omega arith) ]
  none_left (queue k (x ∷ l) ∷ qs) zero e = inl refl
  none_left (queue k (x ∷ l) ∷ qs) (suc s) e = absurd (nil≢cons (sym e))

  -- a deal hands out all that waits, or as much as there are slots
  pub dealt : {qs : List (Queue A)} {s : ℕ} {xs : List A} {n : ℕ} → Deal qs s xs n → length xs ≡ min s (waiting qs)
  dealt (done {qs} {s} e) = elim (none_left qs s e) [ inl h ↦ omega arith | inr h ↦ omega arith ]
  dealt (more {qs} {s} {ys = ys} e d) = simp length-append (omega (arith, heads-le qs s, heads-rests qs s, dealt d))

  -- a pass leaves the queues in their places
  length-rests : (qs : List (Queue A)) (s : ℕ) → length (rests qs s) ≡ length qs
  length-rests [] s = refl
  length-rests (queue k [] ∷ qs) s = ap suc (length-rests qs s)
  length-rests (queue k (x ∷ l) ∷ qs) zero = refl
  length-rests (queue k (x ∷ l) ∷ qs) (suc s) = ap suc (length-rests qs s)

-- ---- who got what
module _ {A : Type 0} (key : A → ℕ) where
  -- the entries with key k
  abbrev pub of : ℕ → List A → List A
  of k xs = keep (λ x. eqb (key x) k) xs

  -- of two lists
  of-append : (k : ℕ) (xs ys : List A) → of k (xs ++ ys) ≡ of k xs ++ of k ys
  of-append k xs ys = keep_append (λ x. eqb (key x) k) xs ys

  -- an entry of another key is left out
  of_other : (k : ℕ) (x : A) (xs : List A) → key x ≢ k → of k (x ∷ xs) ≡ of k xs
  unfolding keep
  of_other k x xs h = rw (ne_eqb (key x) k h)

  -- one of this key is not
  of-mine : (k : ℕ) (x : A) (xs : List A) → key x ≡ k → of k (x ∷ xs) ≡ x ∷ of k xs
  unfolding keep
  of-mine k x xs e = rw (eq-eqb (key x) k e)

  -- these are no more than all
  length-of : (k : ℕ) (xs : List A) → length (of k xs) ≤ length xs
  unfolding keep
  length-of k [] = omega arith
  length-of k (x ∷ xs) =
      elim (eqb (key x) k) as (λ b. length (cond b (x ∷ of k xs) (of k xs)) ≤ suc (length xs)) [ true ↦ omega (arith, length-of k xs) | false ↦ omega (arith, length-of k xs) ]

  -- all entries of a list have key k
  abbrev pub AllOf : ℕ → List A → Type 0
  AllOf k [] = Unit {0}
  AllOf k (x ∷ xs) = (key x ≡ k) × AllOf k xs

  -- no queue is that of k
  abbrev pub Apart : ℕ → List (Queue A) → Type 0
  Apart k [] = Unit {0}
  Apart k (queue j l ∷ qs) = (j ≢ k) × Apart k qs

  -- each queue's entries carry its key, and no two queues have one
  abbrev pub Keyed : List (Queue A) → Type 0
  Keyed [] = Unit {0}
  Keyed (queue k l ∷ qs) = AllOf k l × Apart k qs × Keyed qs

  -- a pass leaves the keys as they are
  apart-rests : (k : ℕ) (qs : List (Queue A)) (s : ℕ) → Apart k qs → Apart k (rests qs s)
  apart-rests k [] s h = tt
  apart-rests k (queue j [] ∷ qs) s h = (h.0, apart-rests k qs s h.1)
  apart-rests k (queue j (x ∷ l) ∷ qs) zero h = h
  apart-rests k (queue j (x ∷ l) ∷ qs) (suc s) h = (h.0, apart-rests k qs s h.1)

  keyed-rests : (qs : List (Queue A)) (s : ℕ) → Keyed qs → Keyed (rests qs s)
  keyed-rests [] s h = tt
  keyed-rests (queue k [] ∷ qs) s h = (tt, apart-rests k qs s h.1, keyed-rests qs s h.2)
  keyed-rests (queue k (x ∷ l) ∷ qs) zero h = h
  keyed-rests (queue k (x ∷ l) ∷ qs) (suc s) h = (h.0.1, apart-rests k qs s h.1, keyed-rests qs s h.2)

  -- the head of a queue is no entry of another key
  not-mine : (k j : ℕ) (x : A) → key x ≡ j → j ≢ k → key x ≢ k
  not-mine k j x e h q = h (sym e ∙ q)

  -- where no queue is that of k, a pass hands out nothing of k
  apart_none : (k : ℕ) (qs : List (Queue A)) (s : ℕ) → Keyed qs → Apart k qs → of k (heads qs s) ≡ []
  unfolding keep
  apart_none k [] s g h = refl
  apart_none k (queue j [] ∷ qs) s g h = apart_none k qs s g.2 h.1
  apart_none k (queue j (x ∷ l) ∷ qs) zero g h = refl
  apart_none k (queue j (x ∷ l) ∷ qs) (suc s) g h = of_other k x (heads qs s) (not-mine k j x g.0.0 h.0) ∙ apart_none k qs s g.2 h.1

  -- what one pass does to the queue of k: its head goes, it is empty, or the slots are spent before it is met
  data Turn (k : ℕ) (l : List A) (qs : List (Queue A)) (s : ℕ) : Type 0 where
    got : (x : A) (l' : List A) → l ≡ x ∷ l' → of k (heads qs s) ≡ x ∷ [] → In k l' (rests qs s) → Turn k l qs s
    empty : l ≡ [] → of k (heads qs s) ≡ [] → In k l (rests qs s) → Turn k l qs s
    spent : s ≤ length (heads qs s) → s < length qs → of k (heads qs s) ≡ [] → In k l (rests qs s) → Turn k l qs s

  -- a turn behind an empty queue
  turn-past : {k : ℕ} {l : List A} {j : ℕ} {qs : List (Queue A)} {s : ℕ} → Turn k l qs s → Turn k l (queue j [] ∷ qs) s
  turn-past (got x l' e o i) = got x l' e o (there i)
  turn-past (empty e o i) = empty e o (there i)
  turn-past (spent a b o i) = spent a (omega arith) o (there i)

  -- a turn behind a queue that gives its head
  turn-next : {k : ℕ} {l : List A} {j : ℕ} (x : A) (m : List A) {qs : List (Queue A)} {s : ℕ} → key x ≢ k → Turn k l qs s
      → Turn k l (queue j (x ∷ m) ∷ qs) (suc s)
  turn-next {k} x m {qs} {s} h (got y l' e o i) = got y l' e (of_other k x (heads qs s) h ∙ o) (there i)
  turn-next {k} x m {qs} {s} h (empty e o i) = empty e (of_other k x (heads qs s) h ∙ o) (there i)
  turn-next {k} x m {qs} {s} h (spent a b o i) = spent (omega arith) (omega arith) (of_other k x (heads qs s) h ∙ o) (there i)

  -- two queues have two keys
  apart_in : {k j : ℕ} {l : List A} {qs : List (Queue A)} → Apart j qs → In k l qs → j ≢ k
  apart_in h here = λ e. h.0 (sym e)
  apart_in {qs = queue i m ∷ qs} h (there p) = apart_in h.1 p

  -- one pass, for any queue
  turn : {k : ℕ} {l : List A} (qs : List (Queue A)) (s : ℕ) → Keyed qs → In k l qs → Turn k l qs s
  unfolding keep
  turn [] s g i = elim i [ ]
  turn (q ∷ qs) s g i = at q qs s g (λ h r. turn qs r h) i
    where
      at : (q : Queue A) (qs : List (Queue A)) (s : ℕ) {k : ℕ} {l : List A} → Keyed (q ∷ qs) → (Keyed qs → (r : ℕ) → In k l qs → Turn k l qs r) → In k l (q ∷ qs) → Turn k l (q ∷ qs) s
      at (queue k []) qs s g again here = empty refl (apart_none k qs s g.2 g.1) here
      at (queue k (x ∷ l)) qs zero g again here = spent (omega arith) (omega arith) refl here
      at (queue k (x ∷ l)) qs (suc s) g again here =
          got x l refl (of-mine k x (heads qs s) g.0.0 ∙ ap {B = List A} (λ r. x ∷ r) (apart_none k qs s g.2 g.1)) here
      at (queue j []) qs s g again (there i) = turn-past (again g.2 s i)
      at (queue j (x ∷ l)) qs zero g again (there i) = spent (omega arith) (omega arith) refl (there i)
      at (queue j (x ∷ l)) qs (suc s) {k} g again (there i) = turn-next x l (not-mine k j x g.0.0 (apart_in g.1 i)) (again g.2 s i)

  -- ---- the shares

  -- a queue gives its entries from the front
  pub in_order : {qs : List (Queue A)} {s : ℕ} {xs : List A} {n : ℕ} {k : ℕ} {l : List A} → Keyed qs → In k l qs
      → Deal qs s xs n → of k xs ≡ take (length (of k xs)) l
  unfolding keep
  in_order g i (done e) = refl
  in_order {k = k} {l} g i (more {qs} {s} {ys = ys} e d) = rw (of-append k (heads qs s) ys) (go (turn qs s g i) (λ l' i'. in_order (keyed-rests qs s g) i' d))
    where
      go : Turn k l qs s → ((l' : List A) → In k l' (rests qs s) → of k ys ≡ take (length (of k ys)) l')
          → of k (heads qs s) ++ of k ys ≡ take (length (of k (heads qs s) ++ of k ys)) l
      go (got x l' c o i') ih = rw (o, c) (ap {B = List A} (λ r. x ∷ r) (ih l' i'))
      go (empty c o i') ih = rw o (ih l i')
      go (spent a b o i') ih = rw o (ih l i')

  -- no more than it holds
  share-le : {qs : List (Queue A)} {s : ℕ} {xs : List A} {n : ℕ} {k : ℕ} {l : List A} → Keyed qs → In k l qs
      → Deal qs s xs n → length (of k xs) ≤ length l
  share-le {xs = xs} {k = k} {l} g i d = omega (arith, simp length-take at (ap length (in_order g i d)))

  -- q entries, or all that it holds, where there are slots for q from every queue
  pub fair : {qs : List (Queue A)} {s : ℕ} {xs : List A} {n : ℕ} {k : ℕ} {l : List A} → Keyed qs → In k l qs → Deal qs s xs n
      → (q : ℕ) → q * length qs ≤ s → min (length l) q ≤ length (of k xs)
  unfolding keep
  fair g i d zero h = omega arith
  fair {k = k} {l} g i (done {qs} {s} e) (suc q) h = go (turn qs s g i)
    where
      go : Turn k l qs s → min (length l) (suc q) ≤ length (of k [])
      go (got x l' c o i') = absurd (nil≢cons (rw e at o))
      go (empty c o i') = rw c (omega arith)
      go (spent a b o i') = omega arith
  fair {k = k} {l} g i (more {qs} {s} {ys = ys} e d) (suc q) h =
      rw (of-append k (heads qs s) ys) (go (turn qs s g i) (λ l' i' h'. fair {qs = rests qs s} (keyed-rests qs s g) i' d q h'))
    where
      go : Turn k l qs s
          → ((l' : List A) → In k l' (rests qs s) → q * length (rests qs s) ≤ s - length (heads qs s) → min (length l') q ≤ length (of k ys))
          → min (length l) (suc q) ≤ length (of k (heads qs s) ++ of k ys)
      go (got x l' c o i') ih = rw (o, c) (omega (arith, ih l' i' (rw length-rests (omega (arith, heads-few qs s)))))
      go (empty c o i') ih = rw c (omega arith)
      go (spent a b o i') ih = omega arith

  -- ---- the passes

  -- at most one entry a pass
  pub at_most : {qs : List (Queue A)} {s : ℕ} {xs : List A} {n : ℕ} {k : ℕ} {l : List A} → Keyed qs → In k l qs
      → Deal qs s xs n → length (of k xs) ≤ n
  unfolding keep
  at_most g i (done e) = omega arith
  at_most {k = k} {l} g i (more {qs} {s} {ys = ys} {n} e d) = rw (of-append k (heads qs s) ys) (go (turn qs s g i) (λ l' i'. at_most (keyed-rests qs s g) i' d))
    where
      go : Turn k l qs s → ((l' : List A) → In k l' (rests qs s) → length (of k ys) ≤ n)
          → length (of k (heads qs s) ++ of k ys) ≤ suc n
      go (got x l' c o i') ih = rw o (omega (arith, ih l' i'))
      go (empty c o i') ih = rw o (omega (arith, ih l i'))
      go (spent a b o i') ih = rw o (omega (arith, ih l i'))

  -- some queue got n entries
  abbrev pub Most : List (Queue A) → List A → ℕ → Type 0
  Most qs xs n = (k : ℕ) × (l : List A) × In k l qs × (n ≤ length (of k xs))

  -- a queue that is left stood there before
  in-back : {k : ℕ} {l : List A} (qs : List (Queue A)) (s : ℕ) → In k l (rests qs s) → (m : List A) × In k m qs
  in-back {k = k} {l = l} [] s i = elim i [ ]
  in-back (queue j [] ∷ qs) s here = ([], here)
  in-back (queue j [] ∷ qs) s (there i) = let r = in-back qs s i in (r.0, there r.1)
  in-back (queue j (x ∷ l) ∷ qs) zero i = (_, i)
  in-back (queue j (x ∷ l) ∷ qs) (suc s) here = (x ∷ l, here)
  in-back (queue j (x ∷ l) ∷ qs) (suc s) (there i) = let r = in-back qs s i in (r.0, there r.1)

  -- a pass that hands out something gives to some queue
  first : (qs : List (Queue A)) (s : ℕ) → Keyed qs → {x : A} {xs : List A} → heads qs s ≡ x ∷ xs → Most qs (heads qs s) 1
  first [] s g e = absurd (nil≢cons e)
  first (queue k [] ∷ qs) s g e = let r = first qs s g.2 e in (r.0, r.1, there r.2, r.3)
  first (queue k (x ∷ l) ∷ qs) zero g e = absurd (nil≢cons e)
  first (queue k (x ∷ l) ∷ qs) (suc s) g e = (k, x ∷ l, here, rw (of-mine k x (heads qs s) g.0.0) (omega arith))

  -- one entry in every pass
  pub most : {qs : List (Queue A)} {s : ℕ} {xs : List A} {n : ℕ} → Keyed qs → Deal qs s xs n → (n ≡ 0) ⊎ Most qs xs n
  most g (done e) = inl refl
  most g (more {qs} {s} {ys = ys} {n} e d) = inr (start (most (keyed-rests qs s g) d))
    where
      one : n ≡ 0 → Most qs (heads qs s ++ ys) (suc n)
      one z = let r = first qs s g e in (r.0, r.1, r.2, rw (of-append r.0 (heads qs s) ys, length-append) (omega (arith, r.3)))

      go : {k : ℕ} {l m : List A} → In k l (rests qs s) → In k m qs → n ≤ length (of k ys) → Turn k m qs s
          → Most qs (heads qs s ++ ys) (suc n)
      go {k} {l} {m} i' i h (got x l' c o p) = (k, m, i, rw (of-append k (heads qs s) ys, o) (omega arith))
      go {k} i' i h (empty c o p) = one (omega (arith, share-le (keyed-rests qs s g) p d, ap length c))
      go {k} i' i h (spent a b o p) = one (omega (arith, dealt d, length-of k ys))

      start : (n ≡ 0) ⊎ Most (rests qs s) ys n → Most qs (heads qs s ++ ys) (suc n)
      start (inl z) = one z
      start (inr r) = let b = in-back qs s r.2 in go r.2 b.1 r.3 (turn qs s g b.1)
