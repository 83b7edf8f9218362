-- Retention: what is kept is active, or finished with no finished job after it.
use Prim.Native.Nat.{ℕ, suc, ◌-◌, ◌≤◌}
use mathlib.Core.Path.{◌≡◌, refl, sym, ap, ap₂, ◌∙◌}
use mathlib.Core.Logic.{◌⊎◌, inl, inr}
use mathlib.Core.List.Memᴰ
use mathlib.Core.List.{List, [], ◌∷◌, Memᴰ}
use mathlib.Core.Bool.{Bool, true, false, cond, ◌&&◌, ◌||◌, not, true≢false, false≢true}
use native.Mathlib.Omega.{arith}
use lib.ListN.{length, drop}
use borrow.Author.Tests.{leb-true, lt-leb, not-true}
use Rattle.rules.specs.Lists.{any, all, keep, last_of}
use Rattle.rules.specs.Tables.{ulid_below, Job, active, finished}
use Rattle.rules.specs.Bounds.{good_jobs}
use Rattle.rules.specs.Jobs.{retained}
use Rattle.rules.proofs.Lookups.{and_left, and_right}
use Rattle.laws.specs.NothingLost.{Retained}
use Rattle.laws.proofs.Used.{all-mem}
use Rattle.laws.proofs.Distinct.{any_none}
use Rattle.laws.proofs.JobIds.{below, Good, good-parts, parts-good, first_below, rest-good, cons-good, first_good, keep-none}

-- no job is active and finished
not-both : (j : Job) → active j ≡ true → finished j ≡ false
not-both j h = rw (lt-leb 4 j.status (omega (arith, leb-true j.status 3 h)))

retained-all : (p : Job → Bool) (js : List Job) → all p js ≡ true → all p (retained js) ≡ true
unfolding retained all
retained-all p [] h = refl
retained-all p (j ∷ js) h =
    elim (active j || not (any finished js)) as (λ c. all p (cond c (j ∷ retained js) (retained js)) ≡ true)
    [ true ↦ ap₂ ◌&&◌ (and_left (p j) (all p js) h) (retained-all p js (and_right (p j) (all p js) h)) | false ↦ retained-all p js (and_right (p j) (all p js) h) ]

retained-good : (js : List Job) → Good js → Good (retained js)
unfolding retained
retained-good [] g = g
retained-good (j ∷ js) g =
    let ih = retained-good js (rest-good j js g) in
    elim (active j || not (any finished js)) as (λ c. Good (cond c (j ∷ retained js) (retained js)))
    [ true ↦ cons-good j (retained js) (retained-all (below j) js (first_below j js g)) (first_good j js g) ih | false ↦ ih ]

retained-only : (x : Job) (js : List Job) → Memᴰ x (retained js) → Memᴰ x js
unfolding retained
retained-only x [] m = m
retained-only x (j ∷ js) m = go (active j || not (any finished js)) m (retained-only x js)
  where
    go : (c : Bool) → Memᴰ x (cond c (j ∷ retained js) (retained js)) → (Memᴰ x (retained js) → Memᴰ x js) → Memᴰ x (j ∷ js)
    go true (Memᴰ.head e) ih = Memᴰ.head e
    go true (Memᴰ.tail m) ih = Memᴰ.tail (ih m)
    go false m ih = Memᴰ.tail (ih m)

retained-active : (js : List Job) → keep active (retained js) ≡ keep active js
unfolding retained keep
retained-active [] = refl
retained-active (j ∷ js) = go (active j) refl (any finished js) (retained-active js)
  where
    go : (c : Bool) → active j ≡ c → (d : Bool) → keep active (retained js) ≡ keep active js
        → keep active (cond (c || not d) (j ∷ retained js) (retained js)) ≡ cond c (j ∷ keep active js) (keep active js)
    go true e d ih = rw (e, ih)
    go false e true ih = ih
    go false e false ih = rw (e, ih)

-- where one is finished, one is kept
any_some : (js : List Job) → any finished js ≡ true → 1 ≤ length (keep finished js)
unfolding any keep
any_some [] h = absurd (false≢true h)
any_some (j ∷ js) h = go (finished j) h (any_some js)
  where
    go : (c : Bool) → (c || any finished js) ≡ true → (any finished js ≡ true → 1 ≤ length (keep finished js))
        → 1 ≤ length (cond c (j ∷ keep finished js) (keep finished js))
    go true h ih = omega arith
    go false h ih = ih h

-- one more in front is not the last
last-of : {A : Type 0} (x : A) (xs : List A) → 1 ≤ length xs → last_of 1 (x ∷ xs) ≡ last_of 1 xs
last-of x [] h = elim h [ ]
last-of x (y ∷ ys) h =
    let more : suc (suc (length ys)) - 1 ≡ suc (suc (length ys) - 1) = omega arith in
    ap (λ (n : ℕ). drop n (x ∷ y ∷ ys)) more

retained-last : (js : List Job) → keep finished (retained js) ≡ last_of 1 (keep finished js)
unfolding retained keep
retained-last [] = refl
retained-last (j ∷ js) = go (active j) refl (any finished js) refl (finished j) refl (retained-last js)
  where
    go : (a : Bool) → active j ≡ a → (d : Bool) → any finished js ≡ d → (f : Bool) → finished j ≡ f → keep finished (retained js) ≡ last_of 1 (keep finished js)
        → keep finished (cond (a || not d) (j ∷ retained js) (retained js)) ≡ last_of 1 (cond f (j ∷ keep finished js) (keep finished js))
    go true e d h true f ih = absurd (true≢false (sym f ∙ not-both j e))
    go true e d h false f ih = rw f ih
    go false e true h true f ih = ih ∙ sym (last-of j (keep finished js) (any_some js h))
    go false e true h false f ih = ih
    go false e false h true f ih = rw (f, ih, keep-none finished js h)
    go false e false h false f ih = rw (f, ih)

-- the finished job that is left is not below another
retained-largest : (js : List Job) → Good js → (x y : Job) → Memᴰ x js → finished x ≡ true → Memᴰ y (retained js)
    → finished y ≡ true → (x ≡ y) ⊎ (ulid_below x.id y.id ≡ true)
unfolding retained
retained-largest [] g x y m f n k = absurd (Memᴰ.not-nil m)
retained-largest (j ∷ js) g x y m f n k = go (active j || not (any finished js)) refl m n (λ p q. retained-largest js (rest-good j js g) x y p f q k)
  where
    -- a finished job that is kept has no finished one after it
    alone : active j || not (any finished js) ≡ true → finished j ≡ true → any finished js ≡ false
    alone h e = test (active j) refl (any finished js) h
      where
        test : (a : Bool) → active j ≡ a → (d : Bool) → a || not d ≡ true → d ≡ false
        test true b d h = absurd (true≢false (sym e ∙ not-both j b))
        test false b d h = not-true d h

    go : (c : Bool) → active j || not (any finished js) ≡ c → Memᴰ x (j ∷ js) → Memᴰ y (cond c (j ∷ retained js) (retained js))
        → (Memᴰ x js → Memᴰ y (retained js) → (x ≡ y) ⊎ (ulid_below x.id y.id ≡ true))
        → (x ≡ y) ⊎ (ulid_below x.id y.id ≡ true)
    go true h (Memᴰ.head e) (Memᴰ.head q) ih = inl (e ∙ sym q)
    go true h (Memᴰ.tail p) (Memᴰ.head q) ih =
        absurd (true≢false (sym f ∙ any_none finished (alone h (sym (ap finished q) ∙ k)) p))
    go true h (Memᴰ.head e) (Memᴰ.tail q) ih =
        inr (rw e (all-mem (below j) (first_below j js g) (retained-only y js q)))
    go true h (Memᴰ.tail p) (Memᴰ.tail q) ih = ih p q
    go false h (Memᴰ.head e) q ih = inr (rw e (all-mem (below j) (first_below j js g) (retained-only y js q)))
    go false h (Memᴰ.tail p) q ih = ih p q

pub retains : (js : List Job) → good_jobs js ≡ true → Retained js (retained js)
retains js h =
    let parts = good-parts js h in
    record {
      actives = retained-active js;
      last = retained-last js;
      largest = retained-largest js parts;
      only = λ x. retained-only x js;
      good = parts-good (retained js) (retained-good js parts);
    }
