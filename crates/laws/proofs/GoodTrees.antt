-- Trees of which one is changed keep refusal 2's rules, where that one keeps its rows, takes no run number of another tree, and
-- its run ids still fall.
use Prim.Native.Nat.{ℕ}
use mathlib.Core.Path.{◌≡◌, refl, sym, ap, ap₂, ◌∙◌, subst}
use mathlib.Core.Logic.{◌⊎◌, inl, inr, ◌≢◌}
use mathlib.Core.List.Memᴰ
use mathlib.Core.List.{List, [], ◌∷◌, map, Memᴰ}
use mathlib.Core.Bool.{Bool, true, false, cond, ◌&&◌}
use native.Mathlib.Omega.{arith}
use lib.Dec.{eqb, ltb}
use borrow.Author.Tests.{eqb-true, eqb-false, eq-eqb, ne_eqb, ltb-true, lt-ltb}
use Rattle.rules.specs.Lists.{any, all, keep, concat_map, linked, distinct}
use Rattle.rules.specs.declared.tables.Ulid.{Ulid}
use Rattle.rules.specs.declared.tables.Run.{Run}
use Rattle.rules.specs.Tables.{same_ulid, L0Row, Tree}
use Rattle.rules.specs.Lent.{l0_of, runs_of}
use Rattle.rules.specs.Bounds.{first_is_root, falling_ids, good_marks, good_trees}
use Rattle.rules.specs.Pick.{ids_of}
use Rattle.rules.specs.Finish.{in_tree}
use Rattle.rules.proofs.Bounds.{ByRules}
use Rattle.rules.proofs.Lookups.{same-ulid, ulid-same}
use Rattle.rules.proofs.Sorted.{all_none, linked-rest, linked-cons, linked-first}
use Rattle.laws.proofs.Used.{all-mem}
use Rattle.laws.proofs.Fresh.{keep-mem}
use Rattle.laws.proofs.Distinct.{none_any, any_none, rest-distinct, first-apart, distinct_cons, distinct-map, one-part, part-distinct, distinct-concat}
use Rattle.laws.proofs.Sources.{map-concat}
use Rattle.laws.proofs.Ending.{one-prefixes}

-- ---- lists

-- what holds of each holds of all
all_of : {A : Type 0} (p : A → Bool) (xs : List A) → ((x : A) → Memᴰ x xs → p x ≡ true) → all p xs ≡ true
unfolding all
all_of p [] h = refl
all_of p (x ∷ xs) h = ap₂ ◌&&◌ (h x (Memᴰ.head refl)) (all_of p xs (λ y m. h y (Memᴰ.tail m)))

-- a part of distinct entries is distinct
pub keep-distinct : {A B : Type 0} (f : A → B) (same : B → B → Bool) (p : A → Bool) (xs : List A) → distinct same (map f xs) ≡ true
    → distinct same (map f (keep p xs)) ≡ true
unfolding keep
keep-distinct f same p [] h = h
keep-distinct {A} {B} f same p (x ∷ xs) h = go (p x) (keep-distinct f same p xs (rest-distinct same (f x) (map f xs) h))
  where
    go : (c : Bool) → distinct same (map f (keep p xs)) ≡ true → distinct same (map f (cond c (x ∷ keep p xs) (keep p xs))) ≡ true
    go true ih =
        distinct_cons same (f x) (map f (keep p xs))
        (none_any (same (f x)) (map f (keep p xs)) (λ y m.
        let r = Memᴰ.of_map f (keep p xs) m in
        any_none (same (f x)) (first-apart same (f x) (map f xs) h) (subst (λ (z : B). Memᴰ z (map f xs)) r.2 (Memᴰ.map f (keep-mem p xs r.1).0))))
        ih
    go false ih = ih

-- runs whose ids fall
abbrev above : Run → Run → Bool
above a b = ltb b.id a.id

falls-trans : (a b c : Run) → above a b ≡ true → above b c ≡ true → above a c ≡ true
falls-trans a b c h k = lt-ltb c.id a.id (omega (arith, ltb-true b.id a.id h, ltb-true c.id b.id k))

-- are distinct
falling-distinct : (rs : List Run) → falling_ids rs ≡ true → distinct eqb (ids_of rs) ≡ true
unfolding falling_ids distinct
falling-distinct [] h = refl
falling-distinct (r ∷ rs) h =
    distinct_cons eqb r.id (ids_of rs)
    (any-ids (all_none (above r) (λ x. eqb r.id x.id) (λ x k. ne_eqb r.id x.id (λ e. omega (arith, ltb-true x.id r.id k))) rs (linked-first above falls-trans r rs h)))
    (falling-distinct rs (linked-rest above r rs h))
  where
    any-ids : any (λ x. eqb r.id x.id) rs ≡ false → any (eqb r.id) (ids_of rs) ≡ false
    any-ids g = none_any (eqb r.id) (ids_of rs) (λ i m. let o = Memᴰ.of_map (λ (x : Run). x.id) rs m in subst (λ (n : ℕ). eqb r.id n ≡ false) o.2 (any_none (λ x. eqb r.id x.id) g o.1))

-- and some of them still fall
pub keep-falls : (p : Run → Bool) (rs : List Run) → falling_ids rs ≡ true → falling_ids (keep p rs) ≡ true
unfolding falling_ids keep
keep-falls p [] h = h
keep-falls p (r ∷ rs) h = go (p r) (keep-falls p rs (linked-rest above r rs h))
  where
    go : (c : Bool) → linked above (keep p rs) ≡ true → linked above (cond c (r ∷ keep p rs) (keep p rs)) ≡ true
    go true ih =
        linked-cons above r (keep p rs) (all_of (above r) (keep p rs) (λ x m. all-mem (above r) (linked-first above falls-trans r rs h) (keep-mem p rs m).0)) ih
    go false ih = ih

-- ---- one tree changed
pub record Sound (k : ℕ) (ts : List Tree) (t t' : Tree) : Type 0 where
  pub falls : falling_ids t'.runs ≡ true
  -- its runs were there, or have a number that no other tree has
  pub runs : (r : Run) → Memᴰ r t'.runs
      → Memᴰ r.id (ids_of t.runs) ⊎ ((c : Tree) → Memᴰ c ts → c.prefix ≢ k → Memᴰ r.id (ids_of c.runs) → ⊥)
  pub rows : (v : L0Row) → Memᴰ v t'.l0 → Memᴰ v t.l0
  pub once : distinct same_ulid (map (λ v. v.view) t'.l0) ≡ true
  pub marks : good_marks t' ≡ true

module _ (k : ℕ) (f : Tree → Tree) (stays : (t : Tree) → (f t).prefix ≡ t.prefix) (ts : List Tree) (rules : ByRules ts)
    (sound : (t : Tree) → Memᴰ t ts → t.prefix ≡ k → Sound k ts t (f t)) where
  abbrev changed : Tree → Tree
  changed t = cond (eqb t.prefix k) (f t) t

  abbrev after : List Tree
  after = in_tree k f ts

  -- each tree is one that was, changed or not
  data From (x : Tree) : Type 0 where
    same : Memᴰ x ts → From x
    new : (t : Tree) → Memᴰ t ts → t.prefix ≡ k → x ≡ f t → From x

  from : (x : Tree) → Memᴰ x after → From x
  from x m = let r = Memᴰ.of_map changed ts m in go r.0 r.1 (eqb r.0.prefix k) refl r.2
    where
      go : (t : Tree) → Memᴰ t ts → (c : Bool) → eqb t.prefix k ≡ c → cond c (f t) t ≡ x → From x
      go t n true e q = new t n (eqb-true t.prefix k e) (sym q)
      go t n false e q = same (subst (λ (y : Tree). Memᴰ y ts) q n)

  -- ---- run ids
  all-fall : (x : Tree) → Memᴰ x after → falling_ids x.runs ≡ true
  all-fall x m = go (from x m)
    where
      go : From x → falling_ids x.runs ≡ true
      go (same n) = all-mem (λ (t : Tree). falling_ids t.runs) rules.falling n
      go (new t n p q) = rw q (sound t n p).falls

  -- a run id: of a tree that was, or new
  data Id (x : Tree) (i : ℕ) : Type 0 where
    old : (t : Tree) → Memᴰ t ts → x.prefix ≡ t.prefix → Memᴰ i (ids_of t.runs) → Id x i
    fresh : x.prefix ≡ k → ((c : Tree) → Memᴰ c ts → c.prefix ≢ k → Memᴰ i (ids_of c.runs) → ⊥) → Id x i

  id-of : (x : Tree) (i : ℕ) → Memᴰ x after → Memᴰ i (ids_of x.runs) → Id x i
  id-of x i m n = go (from x m)
    where
      go : From x → Id x i
      go (same h) = old x h refl n
      go (new t h p q) =
          let r = Memᴰ.of_map (λ (s : Run). s.id) (f t).runs (subst (λ (y : Tree). Memᴰ i (ids_of y.runs)) q n) in
          part t h p q r.0 r.2 ((sound t h p).runs r.0 r.1)
        where
          part : (t : Tree) → Memᴰ t ts → t.prefix ≡ k → x ≡ f t → (r : Run) → r.id ≡ i
              → Memᴰ r.id (ids_of t.runs) ⊎ ((c : Tree) → Memᴰ c ts → c.prefix ≢ k → Memᴰ r.id (ids_of c.runs) → ⊥) → Id x i
          part t h p q r e (inl a) = old t h (ap (λ (y : Tree). y.prefix) q ∙ stays t) (subst (λ (n : ℕ). Memᴰ n (ids_of t.runs)) e a)
          part t h p q r e (inr a) =
              fresh (ap (λ (y : Tree). y.prefix) q ∙ stays t ∙ p) (λ c m d n. a c m d (subst (λ (n : ℕ). Memᴰ n (ids_of c.runs)) (sym e) n))

  -- the run ids of all trees were distinct
  were-distinct : distinct eqb (concat_map (λ t. ids_of t.runs) ts) ≡ true
  were-distinct = rw (← map-concat (λ (r : Run). r.id) (λ t. t.runs) ts) rules.runs

  ids-apart : (x y : Tree) → Memᴰ x after → Memᴰ y after → eqb x.prefix y.prefix ≡ false
      → (i j : ℕ) → Memᴰ i (ids_of x.runs) → Memᴰ j (ids_of y.runs) → eqb i j ≡ false
  ids-apart x y m n h i j a b = ne_eqb i j (λ e. go e (id-of x i m a) (id-of y j n b))
    where
      apart : x.prefix ≡ y.prefix → ⊥
      apart = eqb-false x.prefix y.prefix h

      go : i ≡ j → Id x i → Id y j → ⊥
      go e (old t p q u) (old c r s w) =
          apart
          (q
          ∙ ap (λ (z : Tree). z.prefix) (one-part (λ t. ids_of t.runs) eqb (λ b. eq-eqb b b refl) were-distinct p r u (subst (λ (n : ℕ). Memᴰ n (ids_of c.runs)) (sym e) w))
          ∙ sym s)
      go e (old t p q u) (fresh s w) = w t p (λ z. apart (q ∙ z ∙ sym s)) (subst (λ (n : ℕ). Memᴰ n (ids_of t.runs)) e u)
      go e (fresh q u) (old c r s w) = u c r (λ z. apart (q ∙ sym z ∙ sym s)) (subst (λ (n : ℕ). Memᴰ n (ids_of c.runs)) (sym e) w)
      go e (fresh q u) (fresh s w) = apart (q ∙ sym s)

  -- the trees' prefixes are distinct
  prefixes-distinct : distinct (λ a b. eqb a.prefix b.prefix) after ≡ true
  prefixes-distinct =
      sym (distinct-map (λ (t : Tree). t.prefix) eqb (λ a b. eqb a.prefix b.prefix) (λ a b. refl) after)
      ∙ ap (distinct eqb) (one-prefixes k f stays ts)
      ∙ rules.prefixes

  runs-distinct : distinct eqb (map (λ r. r.id) (runs_of after)) ≡ true
  runs-distinct =
      ap (distinct eqb) (map-concat (λ (r : Run). r.id) (λ (t : Tree). t.runs) after)
      ∙ distinct-concat (λ t. ids_of t.runs) eqb after (λ x m. falling-distinct x.runs (all-fall x m)) (λ a b. eqb a.prefix b.prefix) prefixes-distinct ids-apart

  -- ---- views
  record View (x : Tree) (u : Ulid) : Type 0 where
    tree : Tree
    there : Memᴰ tree ts
    prefix : x.prefix ≡ tree.prefix
    view : Memᴰ u (map (λ v. v.view) tree.l0)

  view_of : (x : Tree) (u : Ulid) → Memᴰ x after → Memᴰ u (map (λ v. v.view) x.l0) → View x u
  view_of x u m n = go (from x m)
    where
      go : From x → View x u
      go (same h) = record { tree = x; there = h; prefix = refl; view = n }
      go (new t h p q) =
          let r = Memᴰ.of_map (λ (v : L0Row). v.view) (f t).l0 (subst (λ (y : Tree). Memᴰ u (map (λ v. v.view) y.l0)) q n) in
          record {
            tree = t;
            there = h;
            prefix = ap (λ (y : Tree). y.prefix) q ∙ stays t;
            view = subst (λ (w : Ulid). Memᴰ w (map (λ v. v.view) t.l0)) r.2 (Memᴰ.map (λ (v : L0Row). v.view) ((sound t h p).rows r.0 r.1));
          }

  were-apart : distinct same_ulid (concat_map (λ t. map (λ v. v.view) t.l0) ts) ≡ true
  were-apart = rw (← map-concat (λ (v : L0Row). v.view) (λ t. t.l0) ts) rules.views

  views-apart : (x y : Tree) → Memᴰ x after → Memᴰ y after → eqb x.prefix y.prefix ≡ false
      → (u w : Ulid) → Memᴰ u (map (λ v. v.view) x.l0) → Memᴰ w (map (λ v. v.view) y.l0) → same_ulid u w ≡ false
  views-apart x y m n h u w a b = go (same_ulid u w) refl (view_of x u m a) (view_of y w n b)
    where
      go : (c : Bool) → same_ulid u w ≡ c → View x u → View y w → c ≡ false
      go false e p q = refl
      go true e p q =
          let one = one-part (λ t. map (λ v. v.view) t.l0) same_ulid (λ z. ulid-same z z refl) were-apart p.there q.there p.view (subst (λ (z : Ulid). Memᴰ z (map (λ v. v.view) q.tree.l0)) (sym (same-ulid u w e)) q.view) in
          absurd (eqb-false x.prefix y.prefix h (p.prefix ∙ ap (λ (t : Tree). t.prefix) one ∙ sym q.prefix))

  views-distinct : distinct same_ulid (map (λ v. v.view) (l0_of after)) ≡ true
  views-distinct =
      ap (distinct same_ulid) (map-concat (λ (v : L0Row). v.view) (λ (t : Tree). t.l0) after)
      ∙ distinct-concat (λ t. map (λ v. v.view) t.l0) same_ulid after one-tree (λ a b. eqb a.prefix b.prefix) prefixes-distinct views-apart
    where
      one-tree : (x : Tree) → Memᴰ x after → distinct same_ulid (map (λ v. v.view) x.l0) ≡ true
      one-tree x m = go (from x m)
        where
          go : From x → distinct same_ulid (map (λ v. v.view) x.l0) ≡ true
          go (same n) = part-distinct (λ t. map (λ v. v.view) t.l0) same_ulid were-apart n
          go (new t n p q) = rw q (sound t n p).once

  -- ---- the root, and marks
  root-first : (us : List Tree) → first_is_root us ≡ true → first_is_root (in_tree k f us) ≡ true
  root-first [] h = h
  root-first (t ∷ us) h =
      elim (eqb t.prefix k) as (λ c. eqb (cond c (f t) t).prefix 0 ≡ true) [ true ↦ ap (λ (n : ℕ). eqb n 0) (stays t) ∙ h | false ↦ h ]

  marks-good : (x : Tree) → Memᴰ x after → good_marks x ≡ true
  marks-good x m = go (from x m)
    where
      go : From x → good_marks x ≡ true
      go (same n) = all-mem good_marks rules.marks n
      go (new t n p q) = rw q (sound t n p).marks

  -- all rules
  pub good-after : good_trees after ≡ true
  unfolding good_trees
  good-after =
      rw (root-first ts rules.root, ap (distinct eqb) (one-prefixes k f stays ts) ∙ rules.prefixes, all_of (λ (x : Tree). falling_ids x.runs) after all-fall, runs-distinct, views-distinct, all_of good_marks after marks-good)
