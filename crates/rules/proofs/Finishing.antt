-- Finishing's refusals 13 and 14, said of the runs that stay: since ids fall strictly in a tree, the output can only be in the way of
-- a run of its own number; and where the output is put, once the source runs are gone.
use Prim.Native.Nat.{ℕ, suc, ◌≤◌, ◌<◌}
use mathlib.Core.Path.{◌≡◌, refl, sym, ap, ◌∙◌}
use mathlib.Core.List.{List, [], ◌∷◌, ◌++◌}
use mathlib.Core.Bool.{Bool, true, false, cond, ◌&&◌, ◌||◌, not}
use native.Mathlib.Omega.{arith}
use lib.Dec.{eqb, ltb}
use lib.ListN.{length, take, drop, length-append, take-append-drop}
use lib.Seq.{take-append_seam, drop-append_seam}
use borrow.Author.Tests.{ltb-true, ltb-false, eqb-true, eqb-false, lt-ltb, le-ltb, ne_eqb}
use Rattle.rules.specs.Lists.{any, all, keep, leading, linked}
use Rattle.rules.specs.declared.tables.SourceId.{SourceId}
use Rattle.rules.specs.declared.tables.Run.{Run}
use Rattle.rules.specs.Tables.{among, run_id}
use Rattle.rules.specs.Bounds.{falling_ids}
use Rattle.rules.specs.Finish.{runs_left, output_place, with_output}
use Rattle.rules.proofs.Lookups.{and_left, and_right}
use Rattle.rules.proofs.Appended.{all_append}

-- ---- entries that are kept

module _ {A : Type 0} (q : A → Bool) where
  pub keep_append : (xs ys : List A) → keep q (xs ++ ys) ≡ keep q xs ++ keep q ys
  unfolding keep
  keep_append [] ys = refl
  keep_append (x ∷ xs) ys = go (q x) (keep_append xs ys)
    where
      go : (b : Bool) → keep q (xs ++ ys) ≡ keep q xs ++ keep q ys → cond b (x ∷ keep q (xs ++ ys)) (keep q (xs ++ ys)) ≡ cond b (x ∷ keep q xs) (keep q xs) ++ keep q ys
      go true e = ap (λ (r : List A). x ∷ r) e
      go false e = e

  -- what all have, those that are kept have
  all_keep : (p : A → Bool) (xs : List A) → all p xs ≡ true → all p (keep q xs) ≡ true
  unfolding all keep
  all_keep p [] h = refl
  all_keep p (x ∷ xs) h = go (q x) (all_keep p xs (and_right (p x) (all p xs) h))
    where
      go : (b : Bool) → all p (keep q xs) ≡ true → all p (cond b (x ∷ keep q xs) (keep q xs)) ≡ true
      go true e = rw (and_left (p x) (all p xs) h) e
      go false e = e

-- ---- entries that stand in r to the next one

module _ {A : Type 0} (r : A → A → Bool) where
  -- an entry before others that it stands in r to
  linked-cons : (x : A) (xs : List A) → all (r x) xs ≡ true → linked r (x ∷ xs) ≡ linked r xs
  unfolding all linked
  linked-cons x [] h = refl
  linked-cons x (y ∷ ys) h = rw (and_left (r x y) (all (r x) ys) h)

  module _ (trans : (a b c : A) → r a b ≡ true → r b c ≡ true → r a c ≡ true) where
    all-over : (x y : A) → r x y ≡ true → (zs : List A) → all (r y) zs ≡ true → all (r x) zs ≡ true
    unfolding all
    all-over x y e [] h = refl
    all-over x y e (z ∷ zs) h =
        rw (trans x y z e (and_left (r y z) (all (r y) zs) h)) (all-over x y e zs (and_right (r y z) (all (r y) zs) h))

    -- the first stands in r to all
    pub linked-all : (x : A) (xs : List A) → linked r (x ∷ xs) ≡ true → all (r x) xs ≡ true
    unfolding all linked
    linked-all x [] h = refl
    linked-all x (y ∷ ys) h =
        let e = and_left (r x y) (linked r (y ∷ ys)) h in
        rw e (all-over x y e ys (linked-all y ys (and_right (r x y) (linked r (y ∷ ys)) h)))

    pub linked-rest : (x : A) (xs : List A) → linked r (x ∷ xs) ≡ true → linked r xs ≡ true
    linked-rest x xs h = sym (linked-cons x xs (linked-all x xs h)) ∙ h

    linked-keep : (q : A → Bool) (xs : List A) → linked r xs ≡ true → linked r (keep q xs) ≡ true
    unfolding keep linked
    linked-keep q [] h = refl
    linked-keep q (x ∷ xs) h = go (q x) (linked-keep q xs (linked-rest x xs h))
      where
        go : (b : Bool) → linked r (keep q xs) ≡ true → linked r (cond b (x ∷ keep q xs) (keep q xs)) ≡ true
        go true e = linked-cons x (keep q xs) (all_keep q (r x) xs (linked-all x xs h)) ∙ e
        go false e = e

-- ---- falling ids

abbrev above : Run → Run → Bool
above a b = ltb b.id a.id

above-trans : (a b c : Run) → above a b ≡ true → above b c ≡ true → above a c ≡ true
above-trans a b c h k =
    let u = ltb-true b.id a.id h in
    let v = ltb-true c.id b.id k in
    lt-ltb c.id a.id (omega arith)

-- at most another: below it or the same
below-or-same : (a b : ℕ) → a ≤ b → ltb a b ≡ not (eqb a b)
below-or-same a b h = go (eqb a b) refl
  where
    go : (e : Bool) → eqb a b ≡ e → ltb a b ≡ not e
    go true f = let s = eqb-true a b f in le-ltb a b (omega arith)
    go false f = let n = eqb-false a b f in lt-ltb a b (omega arith)

module _ (out : Run) (q : Run → Bool) where
  -- the output among the runs that stay
  abbrev put : List Run → List Run
  put rs = keep q (take (output_place out rs) rs) ++ (out ∷ keep q (drop (output_place out rs) rs))

  -- a run that stays has the output's number
  abbrev clash : Run → Bool
  clash r = q r && eqb r.id out.id

  all-put : (p : Run → Bool) (rs : List Run) → p out ≡ true → all p rs ≡ true → all p (put rs) ≡ true
  unfolding all
  all-put p rs o h =
      let n = output_place out rs in
      let both : all p (take n rs) && all p (drop n rs) ≡ true = sym (all_append p (take n rs) (drop n rs)) ∙ ap (all p) (take-append-drop n rs) ∙ h in
      rw (all_append p (keep q (take n rs)) (out ∷ keep q (drop n rs)), all_keep q p (take n rs) (and_left (all p (take n rs)) (all p (drop n rs)) both), o)
      (all_keep q p (drop n rs) (and_right (all p (take n rs)) (all p (drop n rs)) both))

  -- runs below a run that is at most the output have other numbers
  none-clash : (x : Run) → x.id ≤ out.id → (rs : List Run) → all (above x) rs ≡ true → any clash rs ≡ false
  unfolding all any
  none-clash x h [] k = refl
  none-clash x h (r ∷ rs) k =
      let l = ltb-true r.id x.id (and_left (above x r) (all (above x) rs) k) in
      rw (ne_eqb r.id out.id (λ e. omega arith), none-clash x h rs (and_right (above x r) (all (above x) rs) k)) (go (q r))
    where
      go : (b : Bool) → (b && false) || false ≡ false
      go true = refl
      go false = refl

  -- and stand below the output
  all-lower : (x : Run) → x.id ≤ out.id → (rs : List Run) → all (above x) rs ≡ true → all (above out) rs ≡ true
  unfolding all
  all-lower x h [] k = refl
  all-lower x h (r ∷ rs) k =
      let l = ltb-true r.id x.id (and_left (above x r) (all (above x) rs) k) in
      rw (lt-ltb r.id out.id (omega arith)) (all-lower x h rs (and_right (above x r) (all (above x) rs) k))

  -- one run before the others: the output comes behind it, or here
  module _ (r : Run) (rs : List Run) (h : linked above (r ∷ rs) ≡ true) where
    abbrev n : ℕ
    n = output_place out rs

    behind : out.id < r.id → linked above (put rs) ≡ not (any clash rs) → (b : Bool)
        → linked above (cond b (r ∷ keep q (take n rs)) (keep q (take n rs)) ++ (out ∷ keep q (drop n rs))) ≡ not ((b && eqb r.id out.id) || any clash rs)
    behind l later true =
        rw (ne_eqb r.id out.id (λ e. omega arith))
        (linked-cons above r (put rs) (all-put (above r) rs (lt-ltb out.id r.id l) (linked-all above above-trans r rs h)) ∙ later)
    behind l later false = later

    here : r.id ≤ out.id → (b : Bool) → linked above (out ∷ cond b (r ∷ keep q rs) (keep q rs)) ≡ not ((b && eqb r.id out.id) || any clash rs)
    unfolding linked
    here l true =
        let lower = linked-all above above-trans r rs h in
        rw (none-clash r l rs lower, below-or-same r.id out.id l, linked-cons above r (keep q rs) (all_keep q (above r) rs lower), linked-keep above above-trans q rs (linked-rest above above-trans r rs h))
        (same (eqb r.id out.id))
      where
        same : (e : Bool) → not e && true ≡ not (e || false)
        same true = refl
        same false = refl
    here l false =
        let lower = linked-all above above-trans r rs h in
        rw (none-clash r l rs lower)
        (linked-cons above out (keep q rs) (all_keep q (above out) rs (all-lower r l rs lower)) ∙ linked-keep above above-trans q rs (linked-rest above above-trans r rs h))

  falls : (rs : List Run) → linked above rs ≡ true → linked above (put rs) ≡ not (any clash rs)
  unfolding leading keep any linked
  falls [] h = refl
  falls (r ∷ rs) h = go (ltb out.id r.id) refl (falls rs (linked-rest above above-trans r rs h))
    where
      go : (a : Bool) → ltb out.id r.id ≡ a → linked above (put rs) ≡ not (any clash rs)
          → linked above (keep q (take (cond a (suc (output_place out rs)) 0) (r ∷ rs)) ++ (out ∷ keep q (drop (cond a (suc (output_place out rs)) 0) (r ∷ rs)))) ≡ not (clash r || any clash rs)
      go true e later = behind r rs h (ltb-true out.id r.id e) later (q r)
      go false e later = here r rs h (ltb-false out.id r.id e) (q r)

-- ---- finishing

module _ (out : Run) (gone : List SourceId) (rs : List Run) where
  -- "finish would leave run ids not strictly falling in the tree": a run that stays has the output's number
  pub output-falls : falling_ids rs ≡ true → falling_ids (with_output out gone rs) ≡ not (any (λ r. not (among (run_id r) gone) && eqb r.id out.id) rs)
  unfolding falling_ids with_output
  output-falls h = falls out (λ r. not (among (run_id r) gone)) rs h

  -- the runs that stay, before the output's place and behind it
  parts : runs_left gone rs ≡ runs_left gone (take (output_place out rs) rs) ++ runs_left gone (drop (output_place out rs) rs)
  parts =
      ap (runs_left gone) (sym (take-append-drop (output_place out rs) rs))
      ∙ keep_append (λ r. not (among (run_id r) gone)) (take (output_place out rs) rs) (drop (output_place out rs) rs)

  -- the output, put among the runs that stay
  pub output-put : (k : ℕ) → k ≡ length (runs_left gone (take (output_place out rs) rs)) → with_output out gone rs ≡ take k (runs_left gone rs) ++ (out ∷ drop k (runs_left gone rs))
  unfolding with_output
  output-put k e =
      rw (e, parts, take-append_seam (runs_left gone (take (output_place out rs) rs)) (runs_left gone (drop (output_place out rs) rs)), drop-append_seam (runs_left gone (take (output_place out rs) rs)) (runs_left gone (drop (output_place out rs) rs)))

  -- one run more than stay
  pub output-more : length (with_output out gone rs) ≡ suc (length (runs_left gone rs))
  unfolding with_output
  output-more =
      let a = runs_left gone (take (output_place out rs) rs) in
      let b = runs_left gone (drop (output_place out rs) rs) in
      omega (arith, length-append a (out ∷ b), length-append a b, ap length parts)
