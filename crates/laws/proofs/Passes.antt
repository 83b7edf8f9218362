-- A planning call deals from the trees' lists: where each tree follows a list, a pass hands out the heads, and the call is a
-- deal. The slots suffice as the bound on passes, since a pass that picks takes one.
use Prim.Native.Nat.{ℕ, zero, suc, ◌+◌, ◌-◌, ◌≤◌}
use mathlib.Core.Path.{◌≡◌, refl, sym, ap, ◌∙◌, fun_ext, subst}
use mathlib.Core.Logic.{◌≢◌}
use mathlib.Core.List.{List, [], ◌∷◌, ◌++◌, map, map-append, append-nil, append_assoc, Memᴰ}
use mathlib.Core.Bool.{Bool, true, false, cond, ◌&&◌, ◌||◌, not, or-false}
use mathlib.Core.Option.{Option, some, none}
use native.Mathlib.Omega.{arith}
use lib.Dec.{eqb}
use lib.ListN.{length, length-append, length-map}
use borrow.Author.Tests.{eq-eqb, ne_eqb}
use Rattle.rules.specs.declared.Options.{Options}
use Rattle.rules.specs.declared.tables.SourceId.{SourceId}
use Rattle.rules.specs.Tables.{Tree, among}
use Rattle.rules.specs.Pick.{Spec, spec_uses, also, Picked, pick}
use Rattle.rules.specs.Plan.{State, Plan, with_pick, ask, pass, picked, passes_from}
use Rattle.rules.proofs.Passes.{pass-stops, pass-none, pass-some, passes-end, passes-go-on}
use Rattle.laws.specs.Demand3.{aside}
use Rattle.laws.proofs.Picks.{pick-prefix}
use Rattle.laws.proofs.Own.{Follows}
use Rattle.laws.proofs.Deal.{Queue, queue, heads, rests, heads-zero, rests-zero, Deal, done, more}
use Rattle.laws.proofs.Order.{Apart}

module _ (p : Picked) (st : State) where
  -- a pick is used of its own tree
  pub used-mine : (k : ℕ) → p.spec.prefix ≡ k → (with_pick (some p) st).used k ≡ also (st.used k) p.spec
  used-mine k e = fun_ext (λ x. ap (λ (c : Bool). st.used k x || (c && among x (spec_uses p.spec))) (eq-eqb p.spec.prefix k e))

  -- and of no other
  used-other : (k : ℕ) → p.spec.prefix ≢ k → (with_pick (some p) st).used k ≡ st.used k
  used-other k h =
      fun_ext (λ x. ap (λ (c : Bool). st.used k x || (c && among x (spec_uses p.spec))) (ne_eqb p.spec.prefix k h) ∙ or-false (st.used k x))

module _ (lim : ℕ → ℕ) (o : Options) where
  -- ---- dealing
  module _ (first : ℕ) where
    -- each tree follows its list
    abbrev pub FollowAll : (ℕ → SourceId → Bool) → List Tree → List (Queue Spec) → Type 0
    FollowAll used [] [] = Unit {0}
    FollowAll used [] (q ∷ qs) = ⊥
    FollowAll used (t ∷ ts) [] = ⊥
    FollowAll used (t ∷ ts) (queue k l ∷ qs) = Follows lim o first t (used t.prefix) l × FollowAll used ts qs

    -- what is used of other trees does not matter
    follow-same : (u v : ℕ → SourceId → Bool) (ts : List Tree) (qs : List (Queue Spec))
        → ((c : Tree) → Memᴰ c ts → v c.prefix ≡ u c.prefix) → FollowAll u ts qs → FollowAll v ts qs
    follow-same u v [] (_ ∷ qs) e h = elim h [ ]
    follow-same u v (t ∷ ts) [] e h = elim h [ ]
    follow-same u v [] [] e h = tt
    follow-same u v (t ∷ ts) (queue k l ∷ qs) e h =
        (subst (λ (w : SourceId → Bool). Follows lim o first t w l) (sym (e t (Memᴰ.head refl))) h.0, follow-same u v ts qs (λ c m. e c (Memᴰ.tail m)) h.1)

    -- what a pass over ts with s slots does to the call
    record Passed (st after : State) (ts : List Tree) (qs : List (Queue Spec)) (s : ℕ) : Type 0 where
      specs : map aside after.specs ≡ map aside st.specs ++ heads qs s
      left : FollowAll after.used ts (rests qs s)
      slots : after.slots ≡ s - length (heads qs s)
      fresh : first ≤ after.fresh
      others : (k : ℕ) → ((c : Tree) → Memᴰ c ts → c.prefix ≢ k) → after.used k ≡ st.used k

    -- a pass over trees that follow lists hands out the heads
    pass-deals : (ts : List Tree) (qs : List (Queue Spec)) (s : ℕ) (st : State) → st.slots ≡ s → first ≤ st.fresh
        → Apart ts → FollowAll st.used ts qs
        → Passed st (pass lim o ts st) ts qs s
    unfolding pass
    pass-deals [] (_ ∷ qs) s st e hf d h = elim h [ ]
    pass-deals (t ∷ ts) [] s st e hf d h = elim h [ ]
    pass-deals [] [] s st e hf d h = record { specs = sym (append-nil (map aside st.specs)); left = tt; slots = omega arith; fresh = hf; others = λ k n. refl }
    pass-deals (t ∷ ts) (queue k l ∷ qs) zero st e hf d h =
        rw (pass-stops lim o (t ∷ ts) st e)
        (record {
          specs = rw (heads-zero (queue k l ∷ qs)) (sym (append-nil (map aside st.specs)));
          left = rw (rests-zero (queue k l ∷ qs)) h;
          slots = omega arith;
          fresh = hf;
          others = λ k n. refl;
        })
    pass-deals (t ∷ ts) (queue k [] ∷ qs) (suc s) st e hf d h =
        let r = pass-deals ts qs (suc s) st e hf d.1 h.1 in
        rw (pass-none lim o t ts st (λ z. omega arith) (h.0 st.fresh hf))
        (record {
          specs = r.specs;
          left = (subst (λ (w : SourceId → Bool). Follows lim o first t w []) (sym (r.others t.prefix d.0)) h.0, r.left);
          slots = r.slots;
          fresh = r.fresh;
          others = λ k n. r.others k (λ c m. n c (Memᴰ.tail m));
        })
    pass-deals (t ∷ ts) (queue k (x ∷ l) ∷ qs) (suc s) st e hf d h =
        let y = h.0 st.fresh hf in
        let p = y.0 in
        let mine = pick-prefix lim o (st.used t.prefix) st.fresh t p y.1 in
        let next = with_pick (some p) st in
        let r =
        pass-deals ts qs s next (omega arith) y.3 d.1 (follow-same st.used next.used ts qs (λ c m. used-other p st c.prefix (λ q. d.0 c m (sym q ∙ mine))) h.1) in
        rw (pass-some lim o t ts st p (λ z. omega arith) y.1)
        (record {
          specs = r.specs ∙ rw (map-append aside st.specs (p.spec ∷ []), append_assoc (map aside st.specs) (aside p.spec ∷ []) (heads qs s), y.2);
          left = (
            subst (λ (w : SourceId → Bool). Follows lim o first t w l) (sym (r.others t.prefix d.0 ∙ used-mine p st t.prefix mine)) y.4,
            r.left,
          );
          slots = omega (arith, r.slots);
          fresh = r.fresh;
          others = λ k n. r.others k (λ c m. n c (Memᴰ.tail m)) ∙ used-other p st k (λ q. n t (Memᴰ.head refl) (sym mine ∙ q));
        })

    -- what passes until one picks nothing make of a call that has made some
    pub record Dealt (r : Plan) (passed : ℕ) (st : State) (qs : List (Queue Spec)) : Type 0 where
      pub given : List Spec
      pub rounds : ℕ
      pub deal : Deal qs st.slots given rounds
      pub specs : map aside r.specs ≡ map aside st.specs ++ given
      pub passes : r.passes ≡ passed + rounds

    -- as many specs as before, and the heads
    counts : {st after : State} {ts : List Tree} {qs : List (Queue Spec)} {s : ℕ} → Passed st after ts qs s
        → length after.specs ≡ length st.specs + length (heads qs s)
    counts r = simp (length-append, length-map) at (ap length r.specs)

    -- the passes of a call are a deal
    pub call-deals : (n passed : ℕ) (ts : List Tree) (qs : List (Queue Spec)) (st : State) → st.slots ≤ n
        → first ≤ st.fresh → Apart ts → FollowAll st.used ts qs
        → Dealt (passes_from lim o ts n passed st) passed st qs
    unfolding passes_from
    call-deals zero passed ts qs st k hf d h =
        let z : st.slots ≡ 0 = omega arith in
        record {
          given = [];
          rounds = 0;
          deal = done {qs = qs} {s = st.slots} (rw z (heads-zero qs));
          specs = sym (append-nil (map aside st.specs));
          passes = omega arith;
        }
    call-deals (suc n) passed ts qs st k hf d h =
        let r = pass-deals ts qs st.slots st refl hf d h in
        go r (heads qs st.slots) refl (λ l. call-deals n (suc passed) ts (rests qs st.slots) (pass lim o ts st) l r.fresh d r.left)
      where
        after : State
        after = pass lim o ts st

        go : Passed st after ts qs st.slots → (hs : List Spec) → heads qs st.slots ≡ hs
            → (after.slots ≤ n → Dealt (passes_from lim o ts n (suc passed) after) (suc passed) after (rests qs st.slots))
            → Dealt (passes_from lim o ts (suc n) passed st) passed st qs
        go r [] e ih =
            rw (passes-end lim o ts n passed st (ap not (eq-eqb (length after.specs) (length st.specs) (omega (arith, counts r, ap length e)))))
            (record { given = []; rounds = 0; deal = done e; specs = rw e at r.specs; passes = omega arith })
        go r (x ∷ hs) e ih =
            let c = counts r in
            let l = ap length e in
            let m = ih (omega (arith, r.slots)) in
            rw (passes-go-on lim o ts n passed st (ap not (ne_eqb (length after.specs) (length st.specs) (λ q. omega arith))))
            (record {
              given = heads qs st.slots ++ m.given;
              rounds = suc m.rounds;
              deal = more e (subst (λ (s : ℕ). Deal (rests qs st.slots) s m.given m.rounds) r.slots m.deal);
              specs = m.specs ∙ rw (r.specs, append_assoc (map aside st.specs) (heads qs st.slots) m.given);
              passes = omega (arith, m.passes);
            })

-- ---- what every pick of a call keeps holds at its end
module _ (lim : ℕ → ℕ) (o : Options) (ts : List Tree) (Holds : State → Type 0)
    (keeps : (t : Tree) (p : Picked) (st : State) → Memᴰ t ts → pick lim o (st.used t.prefix) st.fresh t ≡ some p → Holds st → Holds (with_pick (some p) st)) where
  -- one tree asked
  ask-keeps : (t : Tree) (st : State) → Memᴰ t ts → Holds st → Holds (ask lim o t st)
  unfolding ask
  ask-keeps t st m h = go (pick lim o (st.used t.prefix) st.fresh t) refl
    where
      go : (a : Option Picked) → pick lim o (st.used t.prefix) st.fresh t ≡ a → Holds (with_pick a st)
      go none e = h
      go (some p) e = keeps t p st m e h

  -- one pass
  pass-keeps : (us : List Tree) (st : State) → ((t : Tree) → Memᴰ t us → Memᴰ t ts) → Holds st
      → Holds (pass lim o us st)
  unfolding pass
  pass-keeps [] st m h = h
  pass-keeps (t ∷ us) st m h =
      elim (eqb st.slots 0) as (λ c. Holds (cond c st (pass lim o us (ask lim o t st))))
      [ true ↦ h | false ↦ pass-keeps us (ask lim o t st) (λ c n. m c (Memᴰ.tail n)) (ask-keeps t st (m t (Memᴰ.head refl)) h) ]

  -- the plan's specs are those of a state where it holds
  pub call-keeps : (n passed : ℕ) (st : State) → Holds st
      → (end : State) × Holds end × ((passes_from lim o ts n passed st).specs ≡ end.specs)
  unfolding passes_from
  call-keeps zero passed st h = (st, h, refl)
  call-keeps (suc n) passed st h =
      let k = pass-keeps ts st (λ t m. m) h in
      go (picked st (pass lim o ts st)) refl k (call-keeps n (suc passed) (pass lim o ts st) k)
    where
      go : (c : Bool) → picked st (pass lim o ts st) ≡ c → Holds (pass lim o ts st)
          → (end : State) × Holds end × ((passes_from lim o ts n (suc passed) (pass lim o ts st)).specs ≡ end.specs)
          → (end : State) × Holds end × ((passes_from lim o ts (suc n) passed st).specs ≡ end.specs)
      go false e k ih = (pass lim o ts st, k, ap (λ (r : Plan). r.specs) (passes-end lim o ts n passed st e))
      go true e k ih = (ih.0, ih.1, ap (λ (r : Plan). r.specs) (passes-go-on lim o ts n passed st e) ∙ ih.2)
