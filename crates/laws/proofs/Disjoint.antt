-- A plan's specs are free and apart: what is used is what active jobs use and what the specs so far use, and all that a
-- pick uses is free of that.
use Prim.Native.Nat.{ℕ, zero, suc, ◌+◌}
use mathlib.Core.Path.{◌≡◌, refl, sym, ap, ap₂, ◌∙◌, fun_ext}
use mathlib.Core.List.{List, [], ◌∷◌, ◌++◌}
use mathlib.Core.Bool.{Bool, true, false, ◌&&◌, ◌||◌, not, or_assoc, or-false, and-false}
use mathlib.Core.Option.{Option, some, none}
use lib.Dec.{eqb}
use lib.ListN.{length}
use borrow.Author.Tests.{eq-eqb, eqb-true, not-true}
use Rattle.rules.specs.declared.Options.{Options}
use Rattle.rules.specs.Lists.{any, all, distinct}
use Rattle.rules.specs.declared.tables.SourceId.{SourceId}
use Rattle.rules.specs.Tables.{Tree, Job, among}
use Rattle.rules.specs.Windows.{used_ids}
use Rattle.rules.specs.Pick.{Spec, spec_uses, also, Picked, pick, and_on, own_first, own_list}
use Rattle.rules.specs.Plan.{State, with_pick, first_fresh, free_slots, ordered, start, planned, own_list_of}
use Rattle.rules.proofs.Appended.{any_append, all_append}
use Rattle.rules.proofs.Lookups.{and_left, and_right}
use Rattle.rules.proofs.Sorted.{all_weaker, all_none}
use Rattle.laws.specs.Disjoint.{is_free, sharing, Disjoint}
use Rattle.laws.proofs.Used.{unused, plus, unused-plus}
use Rattle.laws.proofs.Picks.{pick-prefix, pick_free}
use Rattle.laws.proofs.Distinct.{distinct-last}
use Rattle.laws.proofs.Passes.{call-keeps}

-- unused by a test: the test holds of none
unused-any : (u : SourceId → Bool) (xs : List SourceId) → unused u xs ≡ true → any u xs ≡ false
unused-any u xs h = all_none (λ x. not (u x)) u (λ x. not-true (u x)) xs h

-- ---- what the specs of a list use of tree k
abbrev specs_use : List Spec → ℕ → SourceId → Bool
specs_use ss k x = any (λ s. eqb s.prefix k && among x (spec_uses s)) ss

-- ids that they do not use share nothing with any of them
none-share : (ss : List Spec) (k : ℕ) (xs : List SourceId) → unused (specs_use ss k) xs ≡ true
    → any (λ s. eqb s.prefix k && any (λ x. among x (spec_uses s)) xs) ss ≡ false
unfolding any
none-share [] k xs h = refl
none-share (s ∷ ss) k xs h =
    let both = sym (unused-plus (λ x. eqb s.prefix k && among x (spec_uses s)) (specs_use ss k) xs) ∙ h in
    ap₂ ◌||◌ (mine (eqb s.prefix k) (and_left _ (unused (specs_use ss k) xs) both)) (none-share ss k xs (and_right (unused (λ x. eqb s.prefix k && among x (spec_uses s)) xs) _ both))
  where
    mine : (c : Bool) → unused (λ x. c && among x (spec_uses s)) xs ≡ true → (c && any (λ x. among x (spec_uses s)) xs) ≡ false
    mine true h = unused-any (λ x. among x (spec_uses s)) xs h
    mine false h = refl

-- ---- a call under way
record Apart (js : List Job) (st : State) : Type 0 where
  used : (k : ℕ) → st.used k ≡ plus (λ x. among x (used_ids js k)) (specs_use st.specs k)
  free : all (is_free js) st.specs ≡ true
  once : distinct sharing st.specs ≡ true

-- so it is at the start
start-apart : (o : Options) (ts : List Tree) (js : List Job) → Apart js (start o ts js)
unfolding any all distinct
start-apart o ts js = record { used = λ k. fun_ext (λ x. sym (or-false (among x (used_ids js k)))); free = refl; once = refl }

module _ (lim : ℕ → ℕ) (o : Options) (js : List Job) where
  -- and after every pick
  pick-apart : (t : Tree) (p : Picked) (st : State) → pick lim o (st.used t.prefix) st.fresh t ≡ some p → Apart js st
      → Apart js (with_pick (some p) st)
  unfolding any all
  pick-apart t p st e a = record {
    used = λ k. fun_ext (λ x. grows k x);
    free = all_append (is_free js) st.specs (s ∷ []) ∙ rw (a.free, and_left (is_free js s) _ both);
    once = distinct-last sharing st.specs s a.once (none-share st.specs s.prefix (spec_uses s) (and_right (is_free js s) _ both));
  }
    where
      s : Spec
      s = p.spec

      both : (is_free js s && unused (specs_use st.specs s.prefix) (spec_uses s)) ≡ true
      both =
          sym (unused-plus (λ x. among x (used_ids js s.prefix)) (specs_use st.specs s.prefix) (spec_uses s))
          ∙ ap (λ (u : SourceId → Bool). unused u (spec_uses s)) (sym (a.used s.prefix) ∙ ap st.used (pick-prefix lim o (st.used t.prefix) st.fresh t p e))
          ∙ pick_free lim o (st.used t.prefix) st.fresh t p e

      grows : (k : ℕ) (x : SourceId)
          → (with_pick (some p) st).used k x ≡ (among x (used_ids js k) || specs_use (st.specs ++ (s ∷ [])) k x)
      grows k x =
          rw (a.used k, any_append (λ r. eqb r.prefix k && among x (spec_uses r)) st.specs (s ∷ []), or-false (eqb s.prefix k && among x (spec_uses s)))
          (or_assoc (among x (used_ids js k)) (specs_use st.specs k x) (eqb s.prefix k && among x (spec_uses s)))

  -- ---- an own list
  module _ (t : Tree) where
    -- for tree t, and free of what u says is used
    abbrev good_for : (SourceId → Bool) → Spec → Bool
    good_for u s = eqb s.prefix t.prefix && unused u (spec_uses s)

    -- a pick is good at what was used before it
    pick_good : (u : SourceId → Bool) (f : ℕ) (p : Picked) → pick lim o u f t ≡ some p → good_for u p.spec ≡ true
    pick_good u f p e = ap₂ ◌&&◌ (eq-eqb p.spec.prefix t.prefix (pick-prefix lim o u f t p e)) (pick_free lim o u f t p e)

    -- what is free after a pick was free before it, and shares nothing with it
    module _ (u : SourceId → Bool) (s r : Spec) (h : good_for (also u s) r ≡ true) where
      -- r is free of what was used, and of s
      parts : (unused u (spec_uses r) && unused (λ x. among x (spec_uses s)) (spec_uses r)) ≡ true
      parts = sym (unused-plus u (λ x. among x (spec_uses s)) (spec_uses r)) ∙ and_right (eqb r.prefix t.prefix) _ h

      -- so it was good before
      good-before : good_for u r ≡ true
      good-before = ap₂ ◌&&◌ (and_left (eqb r.prefix t.prefix) (unused (also u s) (spec_uses r)) h) (and_left (unused u (spec_uses r)) _ parts)

      -- and shares nothing with s
      not-sharing : sharing s r ≡ false
      not-sharing =
          rw (unused-any (λ x. among x (spec_uses s)) (spec_uses r) (and_right (unused u (spec_uses r)) _ parts)) (and-false (eqb s.prefix r.prefix))

    -- every entry of an own list is good at what is used at the start
    own-good : (n : ℕ) (u : SourceId → Bool) (f : ℕ) → all (good_for u) (own_first lim o n u f t) ≡ true
    unfolding own_first all
    own-good zero u f = refl
    own-good (suc n) u f = go (pick lim o u f t) refl (λ p. own-good n (also u p.spec) p.fresh)
      where
        next : Picked → List Spec
        next p = own_first lim o n (also u p.spec) p.fresh t

        go : (a : Option Picked) → pick lim o u f t ≡ a → ((p : Picked) → all (good_for (also u p.spec)) (next p) ≡ true)
            → all (good_for u) (and_on a next) ≡ true
        go none e ih = refl
        go (some p) e ih = ap₂ ◌&&◌ (pick_good u f p e) (all_weaker (good_for (also u p.spec)) (good_for u) (good-before u p.spec) (next p) (ih p))

    -- no two of them share anything
    own-once : (n : ℕ) (u : SourceId → Bool) (f : ℕ) → distinct sharing (own_first lim o n u f t) ≡ true
    unfolding own_first distinct
    own-once zero u f = refl
    own-once (suc n) u f = go (pick lim o u f t) (λ p. own-once n (also u p.spec) p.fresh)
      where
        next : Picked → List Spec
        next p = own_first lim o n (also u p.spec) p.fresh t

        go : (a : Option Picked) → ((p : Picked) → distinct sharing (next p) ≡ true) → distinct sharing (and_on a next) ≡ true
        go none ih = refl
        go (some p) ih =
            ap₂ ◌&&◌
            (ap not (all_none (good_for (also u p.spec)) (sharing p.spec) (not-sharing u p.spec) (next p) (own-good n (also u p.spec) p.fresh)))
            (ih p)

    -- good at what active jobs use is free of it
    good-free : (s : Spec) → good_for (λ x. among x (used_ids js t.prefix)) s ≡ true → is_free js s ≡ true
    good-free s h =
        rw (eqb-true s.prefix t.prefix (and_left _ (unused (λ x. among x (used_ids js t.prefix)) (spec_uses s)) h))
        (and_right (eqb s.prefix t.prefix) _ h)

pub disjoint : (lim : ℕ → ℕ) (o : Options) (ts : List Tree) (js : List Job) → Disjoint lim o ts js
unfolding planned own_list_of own_list
disjoint lim o ts js = record {
  free = rw at-end.2 at-end.1.free;
  once = rw at-end.2 at-end.1.once;
  own_free = λ t.
      let u : SourceId → Bool = λ x. among x (used_ids js t.prefix) in
      all_weaker (good_for lim o js t u) (is_free js) (good-free lim o js t) (own_list_of lim o ts js t)
      (own-good lim o js t (length t.l0 + length t.runs) u (first_fresh ts js));
  own_once = λ t. own-once lim o js t _ _ (first_fresh ts js);
}
  where
    at-end : (end : State) × Apart js end × ((planned lim o ts js).specs ≡ end.specs)
    at-end = call-keeps lim o (ordered ts) (Apart js) (λ t p st m. pick-apart lim o js t p st) (free_slots o js) 0 (start o ts js) (start-apart o ts js)
