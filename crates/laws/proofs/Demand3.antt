-- Demand 3: the call deals from the trees' own lists, so it has a deal's total, shares and passes.
use Prim.Native.Nat.{ℕ, zero, suc, ◌/◌, ◌≤◌, min}
use mathlib.Core.Path.{◌≡◌, refl, sym, ap, ◌∙◌}
use mathlib.Core.Logic.{◌⊎◌, inl, inr, ◌≢◌}
use mathlib.Core.List.{List, [], ◌∷◌, map, Memᴰ}
use mathlib.Core.Bool.{Bool, true, false, cond}
use mathlib.Core.Option.{Option, some, none}
use native.Mathlib.Omega.{arith}
use native.Mathlib.Nat.{div-mul-le_self, le_antisymm, zero-add}
use lib.Dec.{eqb}
use lib.ListN.{length, take, length-map}
use Rattle.rules.specs.declared.Options.{Options}
use Rattle.rules.specs.Lists.{keep, total}
use Rattle.rules.specs.declared.tables.SourceId.{SourceId}
use Rattle.rules.specs.declared.tables.SourceId.TheVariants.{SortedRun}
use Rattle.rules.specs.Tables.{Tree, Job, among}
use Rattle.rules.specs.Windows.{used_ids}
use Rattle.rules.specs.Pick.{Spec, also, last_run, Picked, pick, and_on, own_first, own_list}
use Rattle.rules.specs.Plan.{Plan, first_fresh, free_slots, ordered, start, planned, own_list_of}
use Rattle.laws.specs.Demand3.{gets, aside, largest, Given, Demand3}
use Rattle.laws.proofs.Picks.{pick-prefix}
use Rattle.laws.proofs.Own.{own-follows}
use Rattle.laws.proofs.Deal.{Queue, queue, waiting, Deal, In, here, there, of, AllOf, Apart as NoQueue, Keyed, dealt, in_order, fair, at_most, Most, most}
use Rattle.laws.proofs.Order.{Apart, distinct_apart, ordered-total, ordered-length, ordered-has, ordered-only, ordered-apart}
use Rattle.laws.proofs.Passes.{FollowAll, call-deals}
use Rattle.laws.proofs.Fresh.{committed-below}

-- a spec goes by its prefix
abbrev prefix_of : Spec → ℕ
prefix_of s = s.prefix

-- a tree's own list is for that tree
own-prefix : (lim : ℕ → ℕ) (o : Options) (n : ℕ) (u : SourceId → Bool) (f : ℕ) (t : Tree)
    → AllOf prefix_of t.prefix (map aside (own_first lim o n u f t))
unfolding own_first
own-prefix lim o zero u f t = tt
own-prefix lim o (suc n) u f t = go (pick lim o u f t) refl (λ p. own-prefix lim o n (also u p.spec) p.fresh t)
  where
    next : Picked → List Spec
    next p = own_first lim o n (also u p.spec) p.fresh t

    go : (a : Option Picked) → pick lim o u f t ≡ a → ((p : Picked) → AllOf prefix_of t.prefix (map aside (next p)))
        → AllOf prefix_of t.prefix (map aside (and_on a next))
    go none e ih = tt
    go (some p) e ih = (pick-prefix lim o u f t p e, ih p)

-- setting numbers aside leaves each spec with its tree
of-aside : (k : ℕ) (ss : List Spec) → of prefix_of k (map aside ss) ≡ map aside (of prefix_of k ss)
unfolding keep
of-aside k [] = refl
of-aside k (s ∷ ss) =
    rw (of-aside k ss)
    (elim (eqb s.prefix k)
    as (λ c. cond c (aside s ∷ map aside (of prefix_of k ss)) (map aside (of prefix_of k ss)) ≡ map aside (cond c (s ∷ of prefix_of k ss) (of prefix_of k ss)))
    [ true ↦ refl | false ↦ refl ])

-- ---- the largest of some numbers

-- no larger than a bound of each
largest-le : (g : Tree → ℕ) (n : ℕ) (ts : List Tree) → ((t : Tree) → Memᴰ t ts → g t ≤ n) → largest (map g ts) ≤ n
largest-le g n [] h = omega arith
largest-le g n (t ∷ ts) h = omega (arith, h t (Memᴰ.head refl), largest-le g n ts (λ c m. h c (Memᴰ.tail m)))

-- and no smaller than any
le-largest : (g : Tree → ℕ) {t : Tree} {ts : List Tree} → Memᴰ t ts → g t ≤ largest (map g ts)
le-largest g {t} (Memᴰ.head {x = c} e) = rw e (omega arith)
le-largest g (Memᴰ.tail m) = omega (arith, le-largest g m)

-- ---- the trees' own lists as queues
module _ (lim : ℕ → ℕ) (o : Options) (ts : List Tree) (js : List Job) where
  -- a tree's own list
  abbrev own : Tree → List Spec
  own t = own_list_of lim o ts js t

  -- the entries of its own list wait under its prefix
  abbrev queue_of : Tree → Queue Spec
  queue_of t = queue t.prefix (map aside (own t))

  -- a tree has its queue
  queues-in : {t : Tree} {us : List Tree} → Memᴰ t us → In t.prefix (map aside (own t)) (map queue_of us)
  queues-in {t = t} (Memᴰ.head {x = c} e) = rw e here
  queues-in (Memᴰ.tail m) = there (queues-in m)

  -- and a queue its tree
  queues-out : {k : ℕ} {l : List Spec} (us : List Tree) → In k l (map queue_of us) → (t : Tree) × Memᴰ t us × (k ≡ t.prefix)
  queues-out [] i = elim i [ ]
  queues-out (t ∷ us) i = at t us (queues-out us) i
    where
      at : (t : Tree) (us : List Tree) {k : ℕ} {l : List Spec} → (In k l (map queue_of us) → (x : Tree) × Memᴰ x us × (k ≡ x.prefix)) → In k l (queue_of t ∷ map queue_of us) → (x : Tree) × Memᴰ x (t ∷ us) × (k ≡ x.prefix)
      at t us again here = (t, Memᴰ.head refl, refl)
      at t us again (there i) = let r = again i in (r.0, Memᴰ.tail r.1, r.2)

  -- as many wait as all own lists have
  queues-waiting : (us : List Tree) → waiting (map queue_of us) ≡ total (map (λ t. length (own t)) us)
  unfolding total
  queues-waiting [] = refl
  queues-waiting (t ∷ us) = rw (length-map (own t) aside, queues-waiting us)

  -- a prefix that no tree has is no key
  queues-apart : (k : ℕ) (us : List Tree) → ((c : Tree) → Memᴰ c us → c.prefix ≢ k) → NoQueue prefix_of k (map queue_of us)
  queues-apart k [] h = tt
  queues-apart k (t ∷ us) h = (h t (Memᴰ.head refl), queues-apart k us (λ c m. h c (Memᴰ.tail m)))

  -- each list under its own prefix
  queues-keyed : (us : List Tree) → Apart us → Keyed prefix_of (map queue_of us)
  unfolding own_list_of own_list
  queues-keyed [] d = tt
  queues-keyed (t ∷ us) d = (own-prefix lim o _ _ (first_fresh ts js) t, queues-apart t.prefix us d.0, queues-keyed us d.1)

  module _ (given : Given o ts js) where
    -- the first fresh number has not passed the last
    first≤ : first_fresh ts js ≤ last_run
    first≤ = omega (arith, given.room)

    -- no fresh number is used by active jobs
    no-fresh : (t : Tree) → Memᴰ t ts → (f : ℕ) → first_fresh ts js ≤ f → among (SortedRun f) (used_ids js t.prefix) ≡ false
    no-fresh t m f h = go (among (SortedRun f) (used_ids js t.prefix)) refl
      where
        go : (c : Bool) → among (SortedRun f) (used_ids js t.prefix) ≡ c → c ≡ false
        go true e = absurd (omega (arith, given.below t m f e))
        go false e = refl

    -- each tree follows its own list
    queues-follow : (us : List Tree) → ((t : Tree) → Memᴰ t us → Memᴰ t ts)
        → FollowAll lim o (first_fresh ts js) (start o ts js).used us (map queue_of us)
    unfolding own_list_of
    queues-follow [] h = tt
    queues-follow (t ∷ us) h =
        let m = h t (Memᴰ.head refl) in (
          own-follows lim o given.least given.most (first_fresh ts js) first≤ t (committed-below ts js given.room t m) (λ x. among x (used_ids js t.prefix)) (no-fresh t m),
          queues-follow us (λ c n. h c (Memᴰ.tail n)),
        )

    -- ---- the call as a deal
    abbrev plan : Plan
    plan = planned lim o ts js

    -- the trees as they are asked have distinct prefixes
    apart : Apart (ordered ts)
    apart = ordered-apart ts (distinct_apart ts given.prefixes)

    -- so the queues have distinct keys
    keyed : Keyed prefix_of (map queue_of (ordered ts))
    keyed = queues-keyed (ordered ts) apart

    -- the call is a deal from the own lists
    deal : Deal (map queue_of (ordered ts)) (free_slots o js) (map aside plan.specs) plan.passes
    unfolding planned
    deal =
        let d =
        call-deals lim o (first_fresh ts js) (free_slots o js) 0 (ordered ts) (map queue_of (ordered ts)) (start o ts js) (omega arith) (omega arith) apart (queues-follow (ordered ts) (λ t m. ordered-only ts m)) in
        rw (d.specs, d.passes, zero-add d.rounds) d.deal

    -- each tree has its queue among them
    waits : {t : Tree} → Memᴰ t ts → In t.prefix (map aside (own t)) (map queue_of (ordered ts))
    waits m = queues-in (ordered-has ts m)

    -- ---- what each tree gets
    counts : (t : Tree) → length (of prefix_of t.prefix (map aside plan.specs)) ≡ length (gets plan t)
    counts t = ap length (of-aside t.prefix plan.specs) ∙ length-map (gets plan t) aside

    -- (b)
    first-entries : (t : Tree) → Memᴰ t ts → map aside (gets plan t) ≡ take (length (gets plan t)) (map aside (own t))
    first-entries t m = sym (of-aside t.prefix plan.specs) ∙ in_order prefix_of keyed (waits m) deal ∙ ap (λ (n : ℕ). take n (map aside (own t))) (counts t)

    -- (c)
    fair-share : (t : Tree) → Memᴰ t ts → min (length (own t)) (free_slots o js / length ts) ≤ length (gets plan t)
    fair-share t m =
        let q = length-map (ordered ts) queue_of ∙ ordered-length ts in
        omega (
          arith,
          counts t,
          length-map (own t) aside,
          fair prefix_of keyed (waits m) deal (free_slots o js / length ts) (rw q (div-mul-le_self (free_slots o js) (length ts))),
        )

    -- (d): some tree got one in every pass
    reached : (plan.passes ≡ 0) ⊎ Most prefix_of (map queue_of (ordered ts)) (map aside plan.specs) plan.passes
        → plan.passes ≤ largest (map (λ t. length (gets plan t)) ts)
    reached (inl z) = omega arith
    reached (inr (k, l, i, n)) =
        let (t, m, e) = queues-out (ordered ts) i in
        omega (arith, le-largest (λ c. length (gets plan c)) (ordered-only ts m), rw (e, counts t) at n)

    pub demand3 : Demand3 lim o ts js
    demand3 = record {
      proposes =
          sym (length-map plan.specs aside) ∙ dealt deal ∙ ap (min (free_slots o js)) (queues-waiting (ordered ts) ∙ ordered-total (λ t. length (own t)) ts);
      entries = first-entries;
      share = fair-share;
      passes =
          le_antisymm (reached (most prefix_of keyed deal))
          (largest-le (λ t. length (gets plan t)) plan.passes ts (λ t m. rw (counts t) at (at_most prefix_of keyed (waits m) deal)));
    }
