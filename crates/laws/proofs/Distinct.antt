-- Lists without an entry twice (`distinct`): their parts, and how they are put together.
use mathlib.Core.Path.{◌≡◌, refl, sym, ap₂, ◌∙◌, subst}
use mathlib.Core.Logic.{◌⊎◌, inl, inr}
use mathlib.Core.List.Memᴰ
use mathlib.Core.List.{List, [], ◌∷◌, ◌++◌, map, Memᴰ}
use mathlib.Core.Bool.{Bool, true, false, ◌&&◌, ◌||◌, not, true≢false}
use borrow.Author.Tests.{not-true}
use Rattle.rules.specs.Lists.{any, distinct, concat_map}
use Rattle.rules.proofs.Lookups.{and_left, and_right, or_left, or_right}
use Rattle.rules.proofs.Appended.{any_append}

-- a test that fails of each fails of all, and back
module _ {A : Type 0} (p : A → Bool) where
  pub none_any : (xs : List A) → ((x : A) → Memᴰ x xs → p x ≡ false) → any p xs ≡ false
  unfolding any
  none_any [] h = refl
  none_any (x ∷ xs) h = ap₂ ◌||◌ (h x (Memᴰ.head refl)) (none_any xs (λ y m. h y (Memᴰ.tail m)))

  pub any_none : {x : A} {xs : List A} → any p xs ≡ false → Memᴰ x xs → p x ≡ false
  unfolding any
  any_none h (Memᴰ.head {x = y} {xs} e) = rw e (or_left (p y) (any p xs) h)
  any_none h (Memᴰ.tail {x = y} {xs} m) = any_none (or_right (p y) (any p xs) h) m

module _ {A : Type 0} (same : A → A → Bool) where
  -- the first is none of the others, and these are distinct
  pub first-apart : (x : A) (xs : List A) → distinct same (x ∷ xs) ≡ true → any (same x) xs ≡ false
  unfolding distinct
  first-apart x xs h = not-true _ (and_left (not (any (same x) xs)) (distinct same xs) h)

  -- the others are distinct
  pub rest-distinct : (x : A) (xs : List A) → distinct same (x ∷ xs) ≡ true → distinct same xs ≡ true
  unfolding distinct
  rest-distinct x xs h = and_right (not (any (same x) xs)) (distinct same xs) h

  -- and back
  pub distinct_cons : (x : A) (xs : List A) → any (same x) xs ≡ false → distinct same xs ≡ true → distinct same (x ∷ xs) ≡ true
  unfolding distinct
  distinct_cons x xs h k = rw (h, k)

  -- the parts of a list
  pub left-distinct : (xs ys : List A) → distinct same (xs ++ ys) ≡ true → distinct same xs ≡ true
  unfolding distinct
  left-distinct [] ys h = refl
  left-distinct (x ∷ xs) ys h =
      distinct_cons x xs
      (or_left (any (same x) xs) (any (same x) ys) (sym (any_append (same x) xs ys) ∙ first-apart x (xs ++ ys) h))
      (left-distinct xs ys (rest-distinct x (xs ++ ys) h))

  pub right-distinct : (xs ys : List A) → distinct same (xs ++ ys) ≡ true → distinct same ys ≡ true
  right-distinct [] ys h = h
  right-distinct (x ∷ xs) ys h = right-distinct xs ys (rest-distinct x (xs ++ ys) h)

  -- an entry of the one is none of the other
  parts-apart : {x y : A} {xs ys : List A} → distinct same (xs ++ ys) ≡ true → Memᴰ x xs → Memᴰ y ys → same x y ≡ false
  parts-apart {x} {y} {ys = ys} h (Memᴰ.head {x = z} {xs} e) n = rw e (any_none (same z) (first-apart z (xs ++ ys) h) (Memᴰ.append_right xs n))
  parts-apart {ys = ys} h (Memᴰ.tail {x = z} {xs} m) n = parts-apart (rest-distinct z (xs ++ ys) h) m n

  -- two lists that have no entry in common
  distinct_append : (xs ys : List A) → distinct same xs ≡ true → distinct same ys ≡ true
      → ((x y : A) → Memᴰ x xs → Memᴰ y ys → same x y ≡ false)
      → distinct same (xs ++ ys) ≡ true
  distinct_append [] ys h k a = k
  distinct_append (x ∷ xs) ys h k a =
      distinct_cons x (xs ++ ys)
      (any_append (same x) xs ys ∙ ap₂ ◌||◌ (first-apart x xs h) (none_any (same x) ys (λ y n. a x y (Memᴰ.head refl) n)))
      (distinct_append xs ys (rest-distinct x xs h) k (λ z y m n. a z y (Memᴰ.tail m) n))

  -- one more entry that no other is the same as
  pub distinct-last : (xs : List A) (y : A) → distinct same xs ≡ true → any (λ x. same x y) xs ≡ false
      → distinct same (xs ++ (y ∷ [])) ≡ true
  unfolding distinct any
  distinct-last xs y h n =
      distinct_append xs (y ∷ []) h refl (λ x z m k. subst (λ (w : A). same x w ≡ false) (sym (Memᴰ.eq_of_singleton k)) (any_none (λ w. same w y) n m))

module _ {A : Type 0} (clash : A → A → Bool) where
  -- a test that fails wherever the first does
  pub distinct-weaker : (same : A → A → Bool) (xs : List A)
      → ((x y : A) → Memᴰ x xs → Memᴰ y xs → clash x y ≡ false → same x y ≡ false) → distinct clash xs ≡ true
      → distinct same xs ≡ true
  unfolding distinct
  distinct-weaker same [] a h = refl
  distinct-weaker same (x ∷ xs) a h =
      distinct_cons same x xs
      (none_any (same x) xs (λ y m. a x y (Memᴰ.head refl) (Memᴰ.tail m) (any_none (clash x) (first-apart clash x xs h) m)))
      (distinct-weaker same xs (λ y z m n. a y z (Memᴰ.tail m) (Memᴰ.tail n)) (rest-distinct clash x xs h))

  -- two tests that both hold of none
  pub distinct-either : (clash' : A → A → Bool) (xs : List A) → distinct clash xs ≡ true → distinct clash' xs ≡ true
      → distinct (λ x y. clash x y || clash' x y) xs ≡ true
  unfolding distinct
  distinct-either clash' [] h k = refl
  distinct-either clash' (x ∷ xs) h k =
      distinct_cons (λ y z. clash y z || clash' y z) x xs
      (none_any (λ y. clash x y || clash' x y) xs (λ y m. ap₂ ◌||◌ (any_none (clash x) (first-apart clash x xs h) m) (any_none (clash' x) (first-apart clash' x xs k) m)))
      (distinct-either clash' xs (rest-distinct clash x xs h) (rest-distinct clash' x xs k))

module _ {A B : Type 0} (f : A → B) (same : B → B → Bool) (same' : A → A → Bool) (is : (a b : A) → same (f a) (f b) ≡ same' a b) where
  -- a test by another name
  any-map : (x : A) (xs : List A) → any (same (f x)) (map f xs) ≡ any (same' x) xs
  unfolding any
  any-map x [] = refl
  any-map x (y ∷ ys) = ap₂ ◌||◌ (is x y) (any-map x ys)

  -- entries with another name
  pub distinct-map : (xs : List A) → distinct same (map f xs) ≡ distinct same' xs
  unfolding distinct
  distinct-map [] = refl
  distinct-map (x ∷ xs) = ap₂ (λ (a b : Bool). not a && b) (any-map x xs) (distinct-map xs)

module _ {A B : Type 0} (f : A → List B) where
  -- an entry of the whole is one of a part
  pub mem-concat : {b : B} (xs : List A) → Memᴰ b (concat_map f xs) → (x : A) × Memᴰ x xs × Memᴰ b (f x)
  unfolding concat_map
  mem-concat [] m = absurd (Memᴰ.not-nil m)
  mem-concat {b} (x ∷ xs) m = go (Memᴰ.append_cases (f x) m) (mem-concat xs)
    where
      go : Memᴰ b (f x) ⊎ Memᴰ b (concat_map f xs)
          → (Memᴰ b (concat_map f xs) → (y : A) × Memᴰ y xs × Memᴰ b (f y))
          → (y : A) × Memᴰ y (x ∷ xs) × Memᴰ b (f y)
      go (inl n) ih = (x, Memᴰ.head refl, n)
      go (inr n) ih = let r = ih n in (r.0, Memᴰ.tail r.1, r.2)

  -- an entry of a part is one of the whole
  concat-mem : {b : B} {x : A} {xs : List A} → Memᴰ x xs → Memᴰ b (f x) → Memᴰ b (concat_map f xs)
  unfolding concat_map
  concat-mem {b} (Memᴰ.head {x = y} {xs} e) n = Memᴰ.append_left (concat_map f xs) (subst (λ (z : A). Memᴰ b (f z)) e n)
  concat-mem (Memᴰ.tail {x = y} m) n = Memᴰ.append_right (f y) (concat-mem m n)

  module _ (same : B → B → Bool) where
    -- one entry in two parts: they are the same part
    pub one-part : ((b : B) → same b b ≡ true) → {b : B} {x y : A} {xs : List A} → distinct same (concat_map f xs) ≡ true
        → Memᴰ x xs → Memᴰ y xs → Memᴰ b (f x) → Memᴰ b (f y) → x ≡ y
    unfolding concat_map
    one-part self h (Memᴰ.head e) (Memᴰ.head q) m n = e ∙ sym q
    one-part self {b} h (Memᴰ.head {x = z} {xs} e) (Memᴰ.tail k) m n =
        absurd (true≢false (sym (self b) ∙ parts-apart same {xs = f z} h (subst (λ (w : A). Memᴰ b (f w)) e m) (concat-mem k n)))
    one-part self {b} h (Memᴰ.tail {x = z} {xs} k) (Memᴰ.head q) m n =
        absurd (true≢false (sym (self b) ∙ parts-apart same {xs = f z} h (subst (λ (w : A). Memᴰ b (f w)) q n) (concat-mem k m)))
    one-part self h (Memᴰ.tail {x = z} {xs} k) (Memᴰ.tail l) m n = one-part self (right-distinct same (f z) (concat_map f xs) h) k l m n

    -- each part is distinct
    pub part-distinct : {x : A} {xs : List A} → distinct same (concat_map f xs) ≡ true → Memᴰ x xs
        → distinct same (f x) ≡ true
    unfolding concat_map
    part-distinct h (Memᴰ.head {x = y} {xs} e) = rw e (left-distinct same (f y) (concat_map f xs) h)
    part-distinct h (Memᴰ.tail {x = y} {xs} m) = part-distinct (right-distinct same (f y) (concat_map f xs) h) m

    -- parts that are distinct and apart, put together
    pub distinct-concat : (xs : List A) → ((x : A) → Memᴰ x xs → distinct same (f x) ≡ true) → (clash : A → A → Bool)
        → distinct clash xs ≡ true
        → ((x y : A) → Memᴰ x xs → Memᴰ y xs → clash x y ≡ false → (b c : B) → Memᴰ b (f x) → Memᴰ c (f y) → same b c ≡ false)
        → distinct same (concat_map f xs) ≡ true
    unfolding concat_map distinct
    distinct-concat [] each clash d a = refl
    distinct-concat (x ∷ xs) each clash d a =
        distinct_append same (f x) (concat_map f xs) (each x (Memᴰ.head refl))
        (distinct-concat xs (λ y m. each y (Memᴰ.tail m)) clash (rest-distinct clash x xs d) (λ y z m n. a y z (Memᴰ.tail m) (Memᴰ.tail n)))
        (λ b c m n.
        let r = mem-concat xs n in
        a x r.0 (Memᴰ.head refl) (Memᴰ.tail r.1) (any_none (clash x) (first-apart clash x xs d) r.1) b c m r.2)
