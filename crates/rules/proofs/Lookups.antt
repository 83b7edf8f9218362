-- Tests over lists (`any`, `all`, `linked`, `distinct`) at each entry, and look-ups (`first_with`) in lists of distinct ids.
use Prim.Native.Nat.{ℕ, zero, suc, ◌≤◌, ◌<◌, suc-le-suc}
use mathlib.Core.Path.{◌≡◌, refl, sym, ap, ◌∙◌}
use mathlib.Core.List.{List, [], ◌∷◌, map}
use mathlib.Core.Bool.{Bool, true, false, cond, ◌&&◌, ◌||◌, not, true≢false, false≢true}
use mathlib.Core.Option.{Option, some, none}
use native.Mathlib.Nat.{le_of_suc-le-suc, not-suc-le-zero, zero-lt-suc}
use lib.ListN.{length, get_or, length-map, get_or-map}
use lib.Dec.{eqb}
use borrow.Author.Tests.{eqb-true, eq-eqb, not-true}
use Rattle.rules.specs.Lists.{any, all, first_with, leading, linked, distinct}
use Rattle.rules.specs.declared.tables.Ulid.{Ulid}
use Rattle.rules.specs.Tables.{same_ulid}
use Rattle.rules.proofs.Records.{ulid-eq}

-- ---- the parts of a test
pub and_left : (a b : Bool) → a && b ≡ true → a ≡ true
and_left true b h = refl
and_left false b h = h

pub and_right : (a b : Bool) → a && b ≡ true → b ≡ true
and_right true b h = h
and_right false b h = absurd (false≢true h)

pub or_left : (a b : Bool) → a || b ≡ false → a ≡ false
or_left true b h = h
or_left false b h = refl

pub or_right : (a b : Bool) → a || b ≡ false → b ≡ false
or_right true b h = absurd (true≢false h)
or_right false b h = h

module _ {A : Type 0} where
  -- what `all` says of entry i
  pub all-at : (p : A → Bool) (d : A) (xs : List A) → all p xs ≡ true → (i : ℕ) → i < length xs → p (get_or xs i d) ≡ true
  unfolding all
  all-at p d [] h i l = absurd (not-suc-le-zero l)
  all-at p d (x ∷ xs) h zero l = and_left (p x) (all p xs) h
  all-at p d (x ∷ xs) h (suc i) l = all-at p d xs (and_right (p x) (all p xs) h) i (le_of_suc-le-suc l)

  -- what the failing of `any` says of entry i
  pub none-at : (p : A → Bool) (d : A) (xs : List A) → any p xs ≡ false → (i : ℕ) → i < length xs → p (get_or xs i d) ≡ false
  unfolding any
  none-at p d [] h i l = absurd (not-suc-le-zero l)
  none-at p d (x ∷ xs) h zero l = or_left (p x) (any p xs) h
  none-at p d (x ∷ xs) h (suc i) l = none-at p d xs (or_right (p x) (any p xs) h) i (le_of_suc-le-suc l)

  -- what `linked` says of an entry and the next
  pub linked-at : (r : A → A → Bool) (d : A) (xs : List A) → linked r xs ≡ true → (i : ℕ) → suc i < length xs → r (get_or xs i d) (get_or xs (suc i) d) ≡ true
  unfolding linked
  linked-at r d [] h i l = absurd (not-suc-le-zero l)
  linked-at r d (x ∷ []) h i l = absurd (not-suc-le-zero (le_of_suc-le-suc l))
  linked-at r d (x ∷ (y ∷ ys)) h zero l = and_left (r x y) (linked r (y ∷ ys)) h
  linked-at r d (x ∷ (y ∷ ys)) h (suc i) l = linked-at r d (y ∷ ys) (and_right (r x y) (linked r (y ∷ ys)) h) i (le_of_suc-le-suc l)

  -- and of any two, where r is transitive
  module _ (r : A → A → Bool) (trans : (a b c : A) → r a b ≡ true → r b c ≡ true → r a c ≡ true) (d : A) where
    first-linked : (x : A) (xs : List A) → linked r (x ∷ xs) ≡ true → (j : ℕ) → j < length xs → r x (get_or xs j d) ≡ true
    unfolding linked
    first-linked x [] h j l = absurd (not-suc-le-zero l)
    first-linked x (y ∷ ys) h zero l = and_left (r x y) (linked r (y ∷ ys)) h
    first-linked x (y ∷ ys) h (suc j) l =
        trans x y (get_or ys j d) (and_left (r x y) (linked r (y ∷ ys)) h) (first-linked y ys (and_right (r x y) (linked r (y ∷ ys)) h) j (le_of_suc-le-suc l))

    rest-linked : (x : A) (xs : List A) → linked r (x ∷ xs) ≡ true → linked r xs ≡ true
    unfolding linked
    rest-linked x [] h = refl
    rest-linked x (y ∷ ys) h = and_right (r x y) (linked r (y ∷ ys)) h

    pub linked-later : (xs : List A) → linked r xs ≡ true → (i j : ℕ) → i < j → j < length xs → r (get_or xs i d) (get_or xs j d) ≡ true
    linked-later [] h i j k l = absurd (not-suc-le-zero l)
    linked-later (x ∷ xs) h i zero k l = absurd (not-suc-le-zero k)
    linked-later (x ∷ xs) h zero (suc j) k l = first-linked x xs h j (le_of_suc-le-suc l)
    linked-later (x ∷ xs) h (suc i) (suc j) k l = linked-later xs (rest-linked x xs h) i j (le_of_suc-le-suc k) (le_of_suc-le-suc l)

  -- what `distinct` says of an entry and a later one
  pub distinct-at : (same : A → A → Bool) (d : A) (xs : List A) → distinct same xs ≡ true → (i j : ℕ) → i < j → j < length xs → same (get_or xs i d) (get_or xs j d) ≡ false
  unfolding distinct
  distinct-at same d [] h i j k l = absurd (not-suc-le-zero l)
  distinct-at same d (x ∷ xs) h i zero k l = absurd (not-suc-le-zero k)
  distinct-at same d (x ∷ xs) h zero (suc j) k l = none-at (same x) d xs (not-true (any (same x) xs) (and_left (not (any (same x) xs)) (distinct same xs) h)) j (le_of_suc-le-suc l)
  distinct-at same d (x ∷ xs) h (suc i) (suc j) k l = distinct-at same d xs (and_right (not (any (same x) xs)) (distinct same xs) h) i j (le_of_suc-le-suc k) (le_of_suc-le-suc l)

  -- ---- look-ups

  -- the first entry with p is the one before which none has it
  pub first-at : (p : A → Bool) (d : A) (xs : List A) (i : ℕ) → i < length xs → p (get_or xs i d) ≡ true → ((k : ℕ) → k < i → p (get_or xs k d) ≡ false) → first_with p xs ≡ some (get_or xs i d)
  unfolding first_with
  first-at p d [] i l h before = absurd (not-suc-le-zero l)
  first-at p d (x ∷ xs) zero l h before = rw h
  first-at p d (x ∷ xs) (suc i) l h before =
      rw (before 0 (zero-lt-suc i)) (first-at p d xs i (le_of_suc-le-suc l) h (λ k m. before (suc k) (suc-le-suc m)))

  -- none has p
  pub first-none : (p : A → Bool) (xs : List A) → any p xs ≡ false → first_with p xs ≡ none
  unfolding first_with any
  first-none p [] h = refl
  first-none p (x ∷ xs) h = rw (or_left (p x) (any p xs) h) (first-none p xs (or_right (p x) (any p xs) h))

  -- what is found has p
  pub found-has : (p : A → Bool) (xs : List A) (x : A) → first_with p xs ≡ some x → p x ≡ true
  unfolding first_with
  found-has p [] x h = absurd (never h)
    where
      never : ◌≡◌ {A = Option A} none (some x) → ⊥
      never h = let z : ◌≡◌ {A = Bool} true false = cc in true≢false z
  found-has p (y ∷ ys) x h = go (p y) refl h (found-has p ys x)
    where
      go : (b : Bool) → p y ≡ b → cond b (some y) (first_with p ys) ≡ some x → (first_with p ys ≡ some x → p x ≡ true) → p x ≡ true
      go true e h later = let same : y ≡ x = cc in rw (← same) e
      go false e h later = later h

  -- what a scan finds: so many entries before the first with p
  pub leading-found : (p : A → Bool) (d : A) (xs : List A) → leading (λ x. not (p x)) xs < length xs → first_with p xs ≡ some (get_or xs (leading (λ x. not (p x)) xs) d)
  unfolding leading first_with
  leading-found p d [] h = absurd (not-suc-le-zero h)
  leading-found p d (x ∷ xs) h = go (p x) h (leading-found p d xs)
    where
      go : (b : Bool) → cond (not b) (suc (leading (λ x. not (p x)) xs)) 0 < suc (length xs) → (leading (λ x. not (p x)) xs < length xs → first_with p xs ≡ some (get_or xs (leading (λ x. not (p x)) xs) d))
          → cond b (some x) (first_with p xs) ≡ some (get_or (x ∷ xs) (cond (not b) (suc (leading (λ x. not (p x)) xs)) 0) d)
      go true h later = refl
      go false h later = later (le_of_suc-le-suc h)

  pub leading-none : (p : A → Bool) (xs : List A) → length xs ≤ leading (λ x. not (p x)) xs → first_with p xs ≡ none
  unfolding leading first_with
  leading-none p [] h = refl
  leading-none p (x ∷ xs) h = go (p x) h (leading-none p xs)
    where
      go : (b : Bool) → suc (length xs) ≤ cond (not b) (suc (leading (λ x. not (p x)) xs)) 0 → (length xs ≤ leading (λ x. not (p x)) xs → first_with p xs ≡ none) → cond b (some x) (first_with p xs) ≡ none
      go true h later = absurd (not-suc-le-zero h)
      go false h later = later (le_of_suc-le-suc h)

-- ---- lists of distinct ids: an entry with the id is THE entry with the id

-- a test of ids: symmetric and transitive
pub record Ids {K : Type 0} (same : K → K → Bool) : Type 0 where
  pub turns : (a b : K) → same a b ≡ true → same b a ≡ true
  pub chains : (a b c : K) → same a b ≡ true → same b c ≡ true → same a c ≡ true

pub number-ids : Ids eqb
number-ids = record {
  turns = λ a b h. eq-eqb b a (sym (eqb-true a b h));
  chains = λ a b c h k. eq-eqb a c (eqb-true a b h ∙ eqb-true b c k);
}

pub same-ulid : (a b : Ulid) → same_ulid a b ≡ true → a ≡ b
same-ulid a b h =
    ulid-eq
    (eqb-true a.high b.high (and_left (eqb a.high b.high) (eqb a.low b.low) h))
    (eqb-true a.low b.low (and_right (eqb a.high b.high) (eqb a.low b.low) h))

pub ulid-same : (a b : Ulid) → a ≡ b → same_ulid a b ≡ true
ulid-same a b e = rw (eq-eqb a.high b.high (ap (λ (u : Ulid). u.high) e)) (eq-eqb a.low b.low (ap (λ (u : Ulid). u.low) e))

pub ulid-ids : Ids same_ulid
ulid-ids = record {
  turns = λ a b h. ulid-same b a (sym (same-ulid a b h));
  chains = λ a b c h k. ulid-same a c (same-ulid a b h ∙ same-ulid b c k);
}

module _ {A K : Type 0} (key : A → K) (same : K → K → Bool) (d : A) where
  pub found : Ids same → (xs : List A) → distinct same (map key xs) ≡ true → (k : K) (i : ℕ) → i < length xs → same (key (get_or xs i d)) k ≡ true → first_with (λ x. same (key x) k) xs ≡ some (get_or xs i d)
  found ids xs h k i l e = first-at (λ (x : A). same (key x) k) d xs i l e (λ j m. go j (same (key (get_or xs j d)) k) refl (apart j m))
    where
      apart : (j : ℕ) → j < i → same (key (get_or xs j d)) (key (get_or xs i d)) ≡ false
      apart j m = rw (get_or-map key xs j d, get_or-map key xs i d) at (distinct-at same (key d) (map key xs) h j i m (rw length-map l))

      go : (j : ℕ) (b : Bool) → same (key (get_or xs j d)) k ≡ b → same (key (get_or xs j d)) (key (get_or xs i d)) ≡ false → b ≡ false
      go j false f n = refl
      go j true f n = absurd (true≢false (sym (ids.chains (key (get_or xs j d)) k (key (get_or xs i d)) f (ids.turns (key (get_or xs i d)) k e)) ∙ n))
