-- The shape of each pick is that of its step. Two picks of step 1 would share their rows, which picks of one tree never do.
use Prim.Native.Nat.{ℕ, zero, suc, ◌-◌, ◌≤◌, ◌<◌}
use mathlib.Core.Path.{◌≡◌, refl, sym, ap, ap₂, ◌∙◌, subst}
use mathlib.Core.Logic.{◌⊎◌, inl, inr}
use mathlib.Core.List.Memᴰ
use mathlib.Core.List.{List, [], ◌∷◌, ◌++◌, append_assoc, Memᴰ}
use mathlib.Core.Bool.{Bool, true, false, cond, ◌&&◌, not, true≢false}
use mathlib.Core.Option.{Option, some, none, some-injective}
use native.Mathlib.Omega.{arith}
use lib.Dec.{eqb, leb}
use lib.ListN.{length, take, drop, take-append-drop, length-drop}
use borrow.Author.Tests.{leb-true, leb-false, eq-eqb, eqb-true, not-true}
use Rattle.rules.specs.declared.Options.{Options}
use Rattle.rules.specs.Lists.{any, keep, distinct, last_of}
use Rattle.rules.specs.declared.tables.SourceId.{SourceId}
use Rattle.rules.specs.declared.tables.SourceId.TheVariants.{SortedRun}
use Rattle.rules.specs.Tables.{Tree, Job, among}
use Rattle.rules.specs.Windows.{last, eligible, greatest, or_later, window}
use Rattle.rules.specs.Pick.{Spec, spec_uses, also, Picked, ids_of, sizes_of, pick, and_on, own_first, own_list}
use Rattle.rules.specs.Plan.{State, with_pick, free_slots, ordered, start, planned, own_list_of}
use Rattle.rules.proofs.Lookups.{and_left, and_right, or_left, or_right}
use Rattle.laws.specs.Demand3.{gets, from_rows}
use Rattle.laws.specs.Disjoint.{sharing}
use Rattle.laws.specs.Shapes.{OfRows, OfRuns, Made, Shapes}
use Rattle.laws.proofs.Used.{any-mem, mem-among}
use Rattle.laws.proofs.Deal.{of}
use Rattle.laws.proofs.Picks.{Cases, takes-rows, takes-runs, pick-cases, pick-prefix, not-rows, a-row, enough-rows}
use Rattle.laws.proofs.Order.{Apart, distinct_apart, apart-same, ordered-only}
use Rattle.laws.proofs.Passes.{call-keeps}
use Rattle.laws.proofs.Disjoint.{disjoint}

-- ---- runs one after another

-- w is a part of ids
pub record Part (w ids : List ℕ) : Type 0 where
  pub before : List ℕ
  pub after : List ℕ
  pub place : ids ≡ before ++ (w ++ after)

-- a window is
pub window-part : (lim : ℕ → ℕ) (least most : ℕ) (u : SourceId → Bool) (ids sizes : List ℕ)
    → Part (window lim least most u ids sizes) ids
unfolding window
window-part lim least most u [] sizes = record { before = []; after = []; place = refl }
window-part lim least most u (i ∷ ids) sizes = go (greatest (eligible lim least most u (i ∷ ids) sizes) (length (i ∷ ids))) (window-part lim least most u ids (drop 1 sizes))
  where
    go : (k : ℕ) → Part (window lim least most u ids (drop 1 sizes)) ids
        → Part (or_later k (i ∷ ids) (window lim least most u ids (drop 1 sizes))) (i ∷ ids)
    go zero p = record { before = i ∷ p.before; after = p.after; place = ap {B = List ℕ} (λ r. i ∷ r) p.place }
    go (suc k) p = record { before = []; after = drop (suc k) (i ∷ ids); place = sym (take-append-drop (suc k) (i ∷ ids)) }

-- what is left when the front is dropped
pub drop-part : (k : ℕ) {w ids : List ℕ} → Part w ids → Part (drop k w) ids
drop-part k {w} p = record {
  before = p.before ++ take k w;
  after = p.after;
  place =
      p.place
      ∙ ap (λ (r : List ℕ). p.before ++ r) (ap (λ (r : List ℕ). r ++ p.after) (sym (take-append-drop k w)) ∙ append_assoc (take k w) (drop k w) p.after)
      ∙ sym (append_assoc p.before (take k w) (drop k w ++ p.after));
}

-- and the last stays
drop-last : (k : ℕ) (w : List ℕ) → k < length w → last (drop k w) ≡ last w
unfolding last
drop-last zero w h = refl
drop-last (suc k) [] h = absurd (omega arith)
drop-last (suc k) (i ∷ []) h = absurd (omega arith)
drop-last (suc k) (i ∷ (j ∷ w)) h = drop-last k (j ∷ w) (omega arith)

-- ---- specs of tree k from L0 rows that have an id in common
module _ (k : ℕ) (x : SourceId) where
  -- those of step 1 that are for tree k
  abbrev rows_of_k : List Spec → List Spec
  rows_of_k ss = keep from_rows (of (λ s. s.prefix) k ss)

  -- all of these have x
  abbrev HaveX : List Spec → Type 0
  HaveX ss = (s : Spec) → Memᴰ s ss → s.prefix ≡ k → from_rows s ≡ true → Memᴰ x (spec_uses s)

  -- with one that comes before none is apart
  none_left : (s : Spec) → s.prefix ≡ k → Memᴰ x (spec_uses s) → (ss : List Spec) → any (sharing s) ss ≡ false
      → HaveX ss → length (rows_of_k ss) ≤ 0
  unfolding keep any
  none_left s p m [] h a = omega arith
  none_left s p m (r ∷ ss) h a =
      go (eqb r.prefix k) refl (from_rows r) refl (none_left s p m ss (or_right (sharing s r) (any (sharing s) ss) h) (λ c n. a c (Memᴰ.tail n)))
    where
      go : (c : Bool) → eqb r.prefix k ≡ c → (d : Bool) → from_rows r ≡ d → length (rows_of_k ss) ≤ 0
          → length (keep from_rows (cond c (r ∷ of (λ s. s.prefix) k ss) (of (λ s. s.prefix) k ss))) ≤ 0
      go false e d f ih = ih
      go true e false f ih = rw f ih
      go true e true f ih =
          let q = eqb-true r.prefix k e in
          let both : sharing s r ≡ true =
          ap₂ ◌&&◌ (eq-eqb s.prefix r.prefix (p ∙ sym q)) (any-mem (λ y. among y (spec_uses s)) (a r (Memᴰ.head refl) q f) (mem-among m)) in
          absurd (true≢false (sym both ∙ or_left (sharing s r) (any (sharing s) ss) h))

  -- so there is at most one
  one_left : (ss : List Spec) → distinct sharing ss ≡ true → HaveX ss → length (rows_of_k ss) ≤ 1
  unfolding keep distinct
  one_left [] h a = omega arith
  one_left (s ∷ ss) h a = go (eqb s.prefix k) refl (from_rows s) refl (one_left ss (and_right (not (any (sharing s) ss)) (distinct sharing ss) h) (λ c n. a c (Memᴰ.tail n)))
    where
      go : (c : Bool) → eqb s.prefix k ≡ c → (d : Bool) → from_rows s ≡ d → length (rows_of_k ss) ≤ 1
          → length (keep from_rows (cond c (s ∷ of (λ s. s.prefix) k ss) (of (λ s. s.prefix) k ss))) ≤ 1
      go false e d f ih = ih
      go true e false f ih = rw f ih
      go true e true f ih =
          let q = eqb-true s.prefix k e in
          rw f
          (omega (
            arith,
            none_left s q (a s (Memᴰ.head refl) q f) ss (not-true _ (and_left (not (any (sharing s) ss)) (distinct sharing ss) h)) (λ c n. a c (Memᴰ.tail n)),
          ))

module _ (lim : ℕ → ℕ) (o : Options) (least : 1 ≤ o.min) (most : o.min ≤ o.max) where
  -- ---- a pick
  pick-made : (t : Tree) (u : SourceId → Bool) (f : ℕ) (p : Picked) → pick lim o u f t ≡ some p → Made o t p.spec
  pick-made t u f p e = record { prefix = pick-prefix lim o u f t p e; step = go (pick-cases lim o u f t p e) }
    where
      go : Cases lim o u f t p → OfRows o t p.spec ⊎ OfRuns o t p.spec
      go (takes-rows h q) =
          inl (record { enough = leb-true o.min (length t.l0) (enough-rows lim o least most t u f h); sources = ap (λ (x : Picked). x.spec.sources) q })
      go (takes-runs i w k q) =
          let part : Part (last_of o.max (i ∷ w)) (ids_of t.runs) =
          drop-part (length (i ∷ w) - o.max) (subst (λ (l : List ℕ). Part l (ids_of t.runs)) k (window-part lim o.min o.max u (ids_of t.runs) (sizes_of t.runs))) in
          let long = length-drop (length (i ∷ w) - o.max) (i ∷ w) in
          inr (record {
            ids = last_of o.max (i ∷ w);
            before = part.before;
            after = part.after;
            sources = ap (λ (x : Picked). x.spec.sources) (some-injective _ _ q);
            place = part.place;
            least = omega arith;
            most = omega arith;
            destination = ap (λ (x : Picked). x.spec.destination) (some-injective _ _ q) ∙ sym (drop-last (length (i ∷ w) - o.max) (i ∷ w) (omega arith));
          })

  -- an entry of an own list
  own-made : (n : ℕ) (t : Tree) (u : SourceId → Bool) (f : ℕ) (s : Spec) → Memᴰ s (own_first lim o n u f t) → Made o t s
  unfolding own_first
  own-made zero t u f s m = absurd (Memᴰ.not-nil m)
  own-made (suc n) t u f s m = go (pick lim o u f t) refl m (λ p. own-made n t (also u p.spec) p.fresh s)
    where
      next : Picked → List Spec
      next p = own_first lim o n (also u p.spec) p.fresh t

      go : (a : Option Picked) → pick lim o u f t ≡ a → Memᴰ s (and_on a next)
          → ((p : Picked) → Memᴰ s (next p) → Made o t s) → Made o t s
      go none e m ih = absurd (Memᴰ.not-nil m)
      go (some p) e (Memᴰ.head q) ih = subst (Made o t) (sym q) (pick-made t u f p e)
      go (some p) e (Memᴰ.tail m) ih = ih p m

  -- ---- a call
  -- the specs of a call so far
  abbrev AllMade : List Tree → State → Type 0
  AllMade ts st = (s : Spec) → Memᴰ s st.specs → (t : Tree) × Memᴰ t ts × Made o t s

  -- with one pick more
  pick-all-made : (ts : List Tree) (t : Tree) (p : Picked) (st : State) → Memᴰ t ts
      → pick lim o (st.used t.prefix) st.fresh t ≡ some p → AllMade ts st → AllMade ts (with_pick (some p) st)
  pick-all-made ts t p st m e a s n = go (Memᴰ.append_cases st.specs n)
    where
      go : Memᴰ s st.specs ⊎ Memᴰ s (p.spec ∷ []) → (t : Tree) × Memᴰ t ts × Made o t s
      go (inl k) = a s k
      go (inr k) = (t, m, subst (Made o t) (sym (Memᴰ.eq_of_singleton k)) (pick-made t (st.used t.prefix) st.fresh p e))

  module _ (ts : List Tree) (js : List Job) where
    -- at the end
    plan-made : (s : Spec) → Memᴰ s (planned lim o ts js).specs → (t : Tree) × Memᴰ t ts × Made o t s
    unfolding planned
    plan-made s m =
        let r =
        call-keeps lim o (ordered ts) (AllMade (ordered ts)) (λ t p st. pick-all-made (ordered ts) t p st) (free_slots o js) 0 (start o ts js) (λ s m. absurd (Memᴰ.not-nil m)) in
        let x = r.1 s (subst (Memᴰ s) r.2 m) in
        (x.0, ordered-only ts x.1, x.2)

    -- a spec of tree t from rows has the oldest of them
    rows-oldest : Apart ts → (t : Tree) → Memᴰ t ts → (s : Spec) → Memᴰ s (planned lim o ts js).specs
        → s.prefix ≡ t.prefix → from_rows s ≡ true → OfRows o t s
    rows-oldest d t m s n p f =
        let x = plan-made s n in
        go x.2.step (apart-same d m x.1 (sym x.2.prefix ∙ p))
      where
        go : {c : Tree} → OfRows o c s ⊎ OfRuns o c s → c ≡ t → OfRows o t s
        go (inl r) e = subst (λ (y : Tree). OfRows o y s) e r
        go (inr r) e = absurd (true≢false (sym f ∙ not-rows s r.ids r.sources))

    -- so step 1 is taken once
    rows-once : Apart ts → (t : Tree) → Memᴰ t ts → length (keep from_rows (gets (planned lim o ts js) t)) ≤ 1
    rows-once d t m = go (leb o.min (length t.l0)) refl
      where
        go : (c : Bool) → leb o.min (length t.l0) ≡ c → length (keep from_rows (gets (planned lim o ts js) t)) ≤ 1
        go true e =
            let r = a-row lim o least most t e in
            one_left t.prefix r.0 (planned lim o ts js).specs (disjoint lim o ts js).once
            (λ s n p f. Memᴰ.append_left {s = s.sources} (SortedRun s.destination ∷ []) (rw (rows-oldest d t m s n p f).sources r.1))
        go false e =
            one_left t.prefix (SortedRun 0) (planned lim o ts js).specs (disjoint lim o ts js).once
            (λ s n p f. absurd (omega (arith, (rows-oldest d t m s n p f).enough, leb-false o.min (length t.l0) e)))

    -- all together
    pub shapes : Shapes lim o ts js
    unfolding own_list_of own_list
    shapes = record {
      made = plan-made;
      own_made = λ t s m. own-made _ t _ _ s m;
      rows_once = λ d t m. rows-once (distinct_apart ts d) t m;
    }
