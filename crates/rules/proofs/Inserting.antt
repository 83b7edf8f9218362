-- A job put at its place by id (`inserted`) among jobs in rising id order: how many there are then, that their ids rise, what a
-- look-up finds, and what a choice of them keeps.
use Prim.Native.Nat.{suc, ◌+◌}
use mathlib.Core.Path.{◌≡◌, refl, sym, ap, ◌∙◌}
use mathlib.Core.List.{List, [], ◌∷◌}
use mathlib.Core.Bool.{Bool, true, false, cond, ◌&&◌, not}
use mathlib.Core.Option.{Option, some}
use native.Mathlib.Omega.{arith}
use lib.ListN.{length, length-append}
use Rattle.rules.specs.Lists.{any, all, keep, first_with, linked, concat_map}
use Rattle.rules.specs.declared.tables.Ulid.{Ulid}
use Rattle.rules.specs.Tables.{same_ulid, ulid_below, Job}
use Rattle.rules.specs.Lent.{sources_of}
use Rattle.rules.specs.Jobs.{job_with, inserted}
use Rattle.rules.proofs.Lookups.{and_left, and_right, or_left, or_right, same-ulid}
use Rattle.rules.proofs.Ulids.{below-trans, below_other, below_total}

-- ---- entries of which all have a property, and entries that are kept

module _ {A : Type 0} where
  pub all-also : (p q : A → Bool) (xs : List A) → ((x : A) → p x ≡ true → q x ≡ true) → all p xs ≡ true → all q xs ≡ true
  unfolding all
  all-also p q [] h e = refl
  all-also p q (x ∷ xs) h e = rw (h x (and_left (p x) (all p xs) e)) (all-also p q xs h (and_right (p x) (all p xs) e))

  -- what all have, none of them lacks
  pub none_of : (p q : A → Bool) (xs : List A) → ((x : A) → p x ≡ true → q x ≡ false) → all p xs ≡ true → any q xs ≡ false
  unfolding all any
  none_of p q [] h e = refl
  none_of p q (x ∷ xs) h e = rw (h x (and_left (p x) (all p xs) e)) (none_of p q xs h (and_right (p x) (all p xs) e))

  -- two tests that agree on the entries keep the same
  pub keep_same : (t p q : A → Bool) (xs : List A) → ((x : A) → t x ≡ true → p x ≡ q x) → all t xs ≡ true → keep p xs ≡ keep q xs
  unfolding all keep
  keep_same t p q [] h e = refl
  keep_same t p q (x ∷ xs) h e =
      rw (h x (and_left (t x) (all t xs) e), keep_same t p q xs h (and_right (t x) (all t xs) e))

  pub keep_all : (p : A → Bool) (xs : List A) → ((x : A) → p x ≡ true) → keep p xs ≡ xs
  unfolding keep
  keep_all p [] h = refl
  keep_all p (x ∷ xs) h = rw (h x, keep_all p xs h)

  pub all-kept : (p q : A → Bool) (xs : List A) → all p xs ≡ true → all p (keep q xs) ≡ true
  unfolding all keep
  all-kept p q [] e = refl
  all-kept p q (x ∷ xs) e = go (q x) (all-kept p q xs (and_right (p x) (all p xs) e))
    where
      go : (b : Bool) → all p (keep q xs) ≡ true → all p (cond b (x ∷ keep q xs) (keep q xs)) ≡ true
      go true f = rw (and_left (p x) (all p xs) e) f
      go false f = f

  -- no entry is kept that the test leaves out
  pub none_kept : (p q : A → Bool) (xs : List A) → ((x : A) → q x ≡ true → p x ≡ false) → any p (keep q xs) ≡ false
  unfolding any keep
  none_kept p q [] h = refl
  none_kept p q (x ∷ xs) h = go (q x) refl (none_kept p q xs h)
    where
      go : (b : Bool) → q x ≡ b → any p (keep q xs) ≡ false → any p (cond b (x ∷ keep q xs) (keep q xs)) ≡ false
      go true e f = rw (h x e) f
      go false e f = f

-- ---- "Jobs stand in rising id order."

abbrev pub rising : List Job → Bool
rising js = linked (λ a b. ulid_below a.id b.id) js

-- a job of this id is among them
abbrev pub has_id : Ulid → List Job → Bool
has_id u js = any (λ k. same_ulid k.id u) js

-- all have ids above this one
abbrev pub all_above : Ulid → List Job → Bool
all_above u js = all (λ k. ulid_below u k.id) js

pub rising-rest : (x : Job) (xs : List Job) → rising (x ∷ xs) ≡ true → rising xs ≡ true
unfolding linked
rising-rest x [] h = refl
rising-rest x (y ∷ ys) h = and_right (ulid_below x.id y.id) (rising (y ∷ ys)) h

above_more : (u v : Ulid) (xs : List Job) → ulid_below u v ≡ true → all_above v xs ≡ true → all_above u xs ≡ true
above_more u v xs h = all-also (λ k. ulid_below v k.id) (λ k. ulid_below u k.id) xs (λ k. below-trans u v k.id h)

pub rising-first : (x : Job) (xs : List Job) → rising (x ∷ xs) ≡ true → all_above x.id xs ≡ true
unfolding linked all
rising-first x [] h = refl
rising-first x (y ∷ ys) h =
    let next : ulid_below x.id y.id ≡ true = and_left (ulid_below x.id y.id) (rising (y ∷ ys)) h in
    rw next (above_more x.id y.id ys next (rising-first y ys (and_right (ulid_below x.id y.id) (rising (y ∷ ys)) h)))

rising-cons : (x : Job) (xs : List Job) → all_above x.id xs ≡ true → rising xs ≡ true → rising (x ∷ xs) ≡ true
unfolding linked all
rising-cons x [] a h = refl
rising-cons x (y ∷ ys) a h = rw (and_left (ulid_below x.id y.id) (all_above x.id ys) a) h

pub rising-kept : (q : Job → Bool) (xs : List Job) → rising xs ≡ true → rising (keep q xs) ≡ true
unfolding keep linked
rising-kept q [] h = refl
rising-kept q (x ∷ xs) h = go (q x) (rising-kept q xs (rising-rest x xs h))
  where
    go : (b : Bool) → rising (keep q xs) ≡ true → rising (cond b (x ∷ keep q xs) (keep q xs)) ≡ true
    go true k = rising-cons x (keep q xs) (all-kept (λ k. ulid_below x.id k.id) q xs (rising-first x xs h)) k
    go false k = k

-- none has an id below all of theirs
pub above-absent : (u : Ulid) (xs : List Job) → all_above u xs ≡ true → has_id u xs ≡ false
above-absent u xs = none_of (λ k. ulid_below u k.id) (λ k. same_ulid k.id u) xs (λ k. below_other u k.id)

-- ---- the job at its place

module _ (j : Job) where
  -- a job more, and its entries, where its id was not there
  pub length_inserted : (ks : List Job) → has_id j.id ks ≡ false → length (inserted j ks) ≡ suc (length ks)
  unfolding inserted any
  length_inserted [] h = refl
  length_inserted (k ∷ ks) h =
      rw (or_left (same_ulid k.id j.id) (has_id j.id ks) h) (go (ulid_below j.id k.id) (length_inserted ks (or_right (same_ulid k.id j.id) (has_id j.id ks) h)))
    where
      go : (b : Bool) → length (inserted j ks) ≡ suc (length ks) → length (cond b (j ∷ k ∷ ks) (k ∷ inserted j ks)) ≡ suc (suc (length ks))
      go true e = refl
      go false e = ap suc e

  pub entries-inserted : (ks : List Job) → has_id j.id ks ≡ false → length (sources_of (inserted j ks)) ≡ length j.sources + length (sources_of ks)
  unfolding inserted any concat_map
  entries-inserted [] h = length-append j.sources []
  entries-inserted (k ∷ ks) h =
      rw (or_left (same_ulid k.id j.id) (has_id j.id ks) h) (go (ulid_below j.id k.id) (entries-inserted ks (or_right (same_ulid k.id j.id) (has_id j.id ks) h)))
    where
      go : (b : Bool) → length (sources_of (inserted j ks)) ≡ length j.sources + length (sources_of ks) → length (sources_of (cond b (j ∷ k ∷ ks) (k ∷ inserted j ks))) ≡ length j.sources + length (sources_of (k ∷ ks))
      go true e = length-append j.sources (sources_of (k ∷ ks))
      go false e = omega (arith, length-append k.sources (sources_of (inserted j ks)), length-append k.sources (sources_of ks))

  all_inserted : (p : Job → Bool) (ks : List Job) → p j ≡ true → all p ks ≡ true → all p (inserted j ks) ≡ true
  unfolding inserted all
  all_inserted p [] h e = rw h
  all_inserted p (k ∷ ks) h e =
      go (same_ulid k.id j.id) (ulid_below j.id k.id) (and_left (p k) (all p ks) e) (and_right (p k) (all p ks) e) (all_inserted p ks h (and_right (p k) (all p ks) e))
    where
      go : (s b : Bool) → p k ≡ true → all p ks ≡ true → all p (inserted j ks) ≡ true → all p (cond s (j ∷ ks) (cond b (j ∷ k ∷ ks) (k ∷ inserted j ks))) ≡ true
      go true b e f g = rw h f
      go false true e f g = rw (h, e) f
      go false false e f g = rw e g

  pub rising-inserted : (ks : List Job) → rising ks ≡ true → rising (inserted j ks) ≡ true
  unfolding inserted linked
  rising-inserted [] h = refl
  rising-inserted (k ∷ ks) h = go (same_ulid k.id j.id) (ulid_below j.id k.id) refl refl (rising-inserted ks (rising-rest k ks h))
    where
      go : (s b : Bool) → same_ulid k.id j.id ≡ s → ulid_below j.id k.id ≡ b → rising (inserted j ks) ≡ true → rising (cond s (j ∷ ks) (cond b (j ∷ k ∷ ks) (k ∷ inserted j ks))) ≡ true
      go true b e f g = rising-cons j ks (rw (same-ulid k.id j.id e) at (rising-first k ks h)) (rising-rest k ks h)
      go false true e f g = rw f h
      go false false e f g =
          rising-cons k (inserted j ks) (all_inserted (λ x. ulid_below k.id x.id) ks (below_total k.id j.id e f) (rising-first k ks h)) g

  -- another id is found where it was
  pub found-other : (u : Ulid) (ks : List Job) → same_ulid j.id u ≡ false → job_with u (inserted j ks) ≡ job_with u ks
  unfolding inserted first_with
  found-other u [] h = rw h
  found-other u (k ∷ ks) h = go (same_ulid k.id j.id) (ulid_below j.id k.id) refl (found-other u ks h)
    where
      go : (s b : Bool) → same_ulid k.id j.id ≡ s → job_with u (inserted j ks) ≡ job_with u ks → job_with u (cond s (j ∷ ks) (cond b (j ∷ k ∷ ks) (k ∷ inserted j ks))) ≡ job_with u (k ∷ ks)
      go true b e f = rw (same-ulid k.id j.id e, h)
      go false true e f = rw h
      go false false e f = ap (λ (o : Option Job). cond (same_ulid k.id u) (some k) o) f

  -- before all the others
  inserted-first : (ks : List Job) → all_above j.id ks ≡ true → inserted j ks ≡ j ∷ ks
  unfolding inserted all
  inserted-first [] h = refl
  inserted-first (k ∷ ks) h =
      let up : ulid_below j.id k.id ≡ true = and_left (ulid_below j.id k.id) (all_above j.id ks) h in
      rw (below_other j.id k.id up, up)

  -- what a choice that keeps the new job keeps: the new job, and of the others those that it keeps and that it does not replace
  module _ (q : Job → Bool) (mine : q j ≡ true) where
    abbrev besides : Job → Bool
    besides k = not (same_ulid k.id j.id) && q k

    keep-first : (ks : List Job) → all_above j.id ks ≡ true → keep q (j ∷ ks) ≡ inserted j (keep besides ks)
    unfolding keep
    keep-first ks h =
        rw mine
        (sym (inserted-first (keep q ks) (all-kept (λ k. ulid_below j.id k.id) q ks h))
        ∙ ap (inserted j) (sym (keep_same (λ k. ulid_below j.id k.id) besides q ks (λ k up. rw (below_other j.id k.id up)) h)))

    pub keep-inserted : (ks : List Job) → rising ks ≡ true → keep q (inserted j ks) ≡ inserted j (keep besides ks)
    unfolding keep inserted all
    keep-inserted [] h = rw mine
    keep-inserted (k ∷ ks) h = go (same_ulid k.id j.id) (ulid_below j.id k.id) (q k) refl refl refl (keep-inserted ks (rising-rest k ks h))
      where
        go : (s b c : Bool) → same_ulid k.id j.id ≡ s → ulid_below j.id k.id ≡ b → q k ≡ c → keep q (inserted j ks) ≡ inserted j (keep besides ks) → keep q (cond s (j ∷ ks) (cond b (j ∷ k ∷ ks) (k ∷ inserted j ks))) ≡ inserted j (cond (not s && c) (k ∷ keep besides ks) (keep besides ks))
        go true b c e f g i = keep-first ks (rw (same-ulid k.id j.id e) at (rising-first k ks h))
        go false true c e f g i = rw (← g) (rw e at (keep-first (k ∷ ks) (rw f (above_more j.id k.id ks f (rising-first k ks h)))))
        go false false true e f g i = rw (g, e, f) (ap (λ (l : List Job). k ∷ l) i)
        go false false false e f g i = rw g i
