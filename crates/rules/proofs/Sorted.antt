-- "job ids .. strictly rising", "run ids .. strictly falling": lists sorted by a test that is transitive.
use mathlib.Core.Path.{◌≡◌, refl, ap₂}
use mathlib.Core.List.{List, [], ◌∷◌}
use mathlib.Core.Bool.{Bool, true, false, ◌&&◌, ◌||◌}
use Rattle.rules.specs.Lists.{any, all, linked}
use Rattle.rules.proofs.Lookups.{and_left, and_right}

module _ {A : Type 0} where
  -- what follows from a test holds wherever it does
  pub all_weaker : (p q : A → Bool) → ((x : A) → p x ≡ true → q x ≡ true) → (xs : List A) → all p xs ≡ true → all q xs ≡ true
  unfolding all
  all_weaker p q w [] h = refl
  all_weaker p q w (x ∷ xs) h = ap₂ ◌&&◌ (w x (and_left (p x) (all p xs) h)) (all_weaker p q w xs (and_right (p x) (all p xs) h))

  -- what a test rules out holds of none
  pub all_none : (p q : A → Bool) → ((x : A) → p x ≡ true → q x ≡ false) → (xs : List A) → all p xs ≡ true → any q xs ≡ false
  unfolding all any
  all_none p q w [] h = refl
  all_none p q w (x ∷ xs) h = ap₂ ◌||◌ (w x (and_left (p x) (all p xs) h)) (all_none p q w xs (and_right (p x) (all p xs) h))

  module _ (r : A → A → Bool) where
    -- without the first
    pub linked-rest : (x : A) (xs : List A) → linked r (x ∷ xs) ≡ true → linked r xs ≡ true
    unfolding linked
    linked-rest x [] h = refl
    linked-rest x (y ∷ ys) h = and_right (r x y) (linked r (y ∷ ys)) h

    -- with one before all
    pub linked-cons : (x : A) (xs : List A) → all (r x) xs ≡ true → linked r xs ≡ true → linked r (x ∷ xs) ≡ true
    unfolding linked all
    linked-cons x [] h k = refl
    linked-cons x (y ∷ ys) h k = rw (and_left (r x y) (all (r x) ys) h) k

    -- the first stands in r to all others
    pub linked-first : ((a b c : A) → r a b ≡ true → r b c ≡ true → r a c ≡ true) → (x : A) (xs : List A)
        → linked r (x ∷ xs) ≡ true → all (r x) xs ≡ true
    unfolding linked all
    linked-first trans x [] h = refl
    linked-first trans x (y ∷ ys) h =
        let here = and_left (r x y) (linked r (y ∷ ys)) h in
        rw here (all_weaker (r y) (r x) (λ z k. trans x y z here k) ys (linked-first trans y ys (and_right (r x y) (linked r (y ∷ ys)) h)))
