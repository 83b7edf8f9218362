-- A pick uses a row that was free, a pass that picks takes a slot, and a chain is no longer than the runs: so the bounds on
-- the recursions suffice.
use Prim.Native.Nat.{ℕ, zero, suc, ◌+◌, ◌≤◌, ◌<◌, min}
use mathlib.Core.Path.{◌≡◌, refl, sym, ap, ◌∙◌}
use mathlib.Core.Logic.{◌≢◌}
use mathlib.Core.List.{List, [], ◌∷◌, ◌++◌, append-nil, append_assoc}
use mathlib.Core.Bool.{Bool, true, false, cond, not, and-false}
use mathlib.Core.Option.{Option, some, none}
use native.Mathlib.Omega.{arith}
use native.Mathlib.Decide.{dec_le}
use lib.Dec.{leb, eqb}
use lib.ListN.{length, length-append}
use borrow.Author.Tests.{eq-eqb, ne_eqb, eqb-false, lt-leb, not-true}
use Rattle.rules.specs.declared.Options.{Options}
use Rattle.rules.specs.declared.tables.SourceId.{SourceId}
use Rattle.rules.specs.Tables.{Tree, among}
use Rattle.rules.specs.Chain.{joined, chain}
use Rattle.rules.specs.Windows.{used_ids, lasting, eligible, greatest}
use Rattle.rules.specs.Pick.{Spec, also, Picked, pick, and_on, own_first, own_list}
use Rattle.rules.specs.Plan.{State, Plan, with_pick, first_fresh, free_slots, placed, ordered, ask, pass, picked, passes_from, start, planned, own_list_of}
use Rattle.rules.proofs.Passes.{pass-stops, pass-none, pass-some, passes-end, passes-go-on}
use Rattle.laws.specs.Fuel.{Fuel}
use Rattle.laws.proofs.Used.{free, free-length}
use Rattle.laws.proofs.Picks.{rows_of, rows-length, pick-prefix, fewer}
use Rattle.laws.proofs.Passes.{used-mine}

module _ (lim : ℕ → ℕ) (o : Options) where
  -- ---- own lists
  module _ (least : 1 ≤ o.min) (most : o.min ≤ o.max) (t : Tree) where
    -- with no row free there is no pick
    own-none : (m : ℕ) (u : SourceId → Bool) (f : ℕ) → free u (rows_of t) ≤ 0 → own_first lim o m u f t ≡ []
    unfolding own_first
    own-none zero u f h = refl
    own-none (suc m) u f h = go (pick lim o u f t) refl
      where
        go : (a : Option Picked) → pick lim o u f t ≡ a → and_on a (λ p. own_first lim o m (also u p.spec) p.fresh t) ≡ []
        go none e = refl
        go (some p) e = absurd (omega (arith, fewer lim o least most t u f e))

    -- two bounds that the free rows do not pass give one list
    own-enough : (n m : ℕ) (u : SourceId → Bool) (f : ℕ) → free u (rows_of t) ≤ n → free u (rows_of t) ≤ m
        → own_first lim o n u f t ≡ own_first lim o m u f t
    unfolding own_first
    own-enough zero m u f h k = sym (own-none m u f h)
    own-enough (suc n) zero u f h k = own-none (suc n) u f k
    own-enough (suc n) (suc m) u f h k = go (pick lim o u f t) refl (λ p. own-enough n m (also u p.spec) p.fresh)
      where
        next : ℕ → Picked → List Spec
        next n p = own_first lim o n (also u p.spec) p.fresh t

        go : (a : Option Picked) → pick lim o u f t ≡ a
            → ((p : Picked) → free (also u p.spec) (rows_of t) ≤ n → free (also u p.spec) (rows_of t) ≤ m → next n p ≡ next m p) → and_on a (next n) ≡ and_on a (next m)
        go none e ih = refl
        go (some p) e ih =
            let d = fewer lim o least most t u f e in
            ap {B = List Spec} (λ r. p.spec ∷ r) (ih p (omega arith) (omega arith))

  -- ---- passes

  -- slots and specs together stay as many, and specs grow: each pick takes a slot
  abbrev pub Spends : State → State → Type 0
  Spends st next = (next.slots + length next.specs ≡ st.slots + length st.specs) × (length st.specs ≤ length next.specs)

  -- one tree asked
  asked-spends : (a : Option Picked) (st : State) → st.slots ≢ 0 → Spends st (with_pick a st)
  asked-spends none st h = omega arith
  asked-spends (some p) st h =
      let l = length-append st.specs (p.spec ∷ []) in (omega arith, omega arith)

  -- all trees asked
  pub pass-spends : (ts : List Tree) (st : State) → Spends st (pass lim o ts st)
  unfolding pass ask
  pass-spends [] st = omega arith
  pass-spends (t ∷ ts) st = go (eqb st.slots 0) refl (pass-spends ts (ask lim o t st))
    where
      go : (c : Bool) → eqb st.slots 0 ≡ c → Spends (ask lim o t st) (pass lim o ts (ask lim o t st))
          → Spends st (cond c st (pass lim o ts (ask lim o t st)))
      go true e ih = omega arith
      go false e ih =
          let s : Spends st (ask lim o t st) = asked-spends (pick lim o (st.used t.prefix) st.fresh t) st (eqb-false st.slots 0 e) in
          (ih.0 ∙ s.0, omega arith)

  -- as many specs as before is no pick
  not-picked : (st : State) → picked st st ≡ false
  not-picked st = ap not (eq-eqb (length st.specs) (length st.specs) refl)

  -- the call after a pass
  abbrev after : List Tree → State → State
  after ts st = pass lim o ts st

  -- with no slot all passes do nothing
  passes_none : (ts : List Tree) (n passed : ℕ) (st : State) → st.slots ≤ 0
      → passes_from lim o ts n passed st ≡ record { specs = st.specs; passes = passed }
  unfolding passes_from
  passes_none ts zero passed st h = refl
  passes_none ts (suc n) passed st h =
      let idle = pass-stops lim o ts st (omega arith) in
      passes-end lim o ts n passed st (rw idle (not-picked st))
      ∙ ap (λ (x : State). record { specs = x.specs; passes = passed }) idle

  -- two bounds that the slots do not pass give one plan
  passes-enough : (ts : List Tree) (n m passed : ℕ) (st : State) → st.slots ≤ n → st.slots ≤ m
      → passes_from lim o ts n passed st ≡ passes_from lim o ts m passed st
  passes-enough ts zero m passed st h k = passes_none ts zero passed st h ∙ sym (passes_none ts m passed st h)
  passes-enough ts (suc n) zero passed st h k = passes_none ts (suc n) passed st k ∙ sym (passes_none ts zero passed st k)
  passes-enough ts (suc n) (suc m) passed st h k = go (picked st (after ts st)) refl (passes-enough ts n m (suc passed) (after ts st))
    where
      go : (c : Bool) → picked st (after ts st) ≡ c
          → ((after ts st).slots ≤ n → (after ts st).slots ≤ m → passes_from lim o ts n (suc passed) (after ts st) ≡ passes_from lim o ts m (suc passed) (after ts st))
          → passes_from lim o ts (suc n) passed st ≡ passes_from lim o ts (suc m) passed st
      go false e ih = passes-end lim o ts n passed st e ∙ sym (passes-end lim o ts m passed st e)
      go true e ih =
          let s = pass-spends ts st in
          let d = eqb-false (length (after ts st).specs) (length st.specs) (not-true _ e) in
          passes-go-on lim o ts n passed st e ∙ ih (omega arith) (omega arith) ∙ sym (passes-go-on lim o ts m passed st e)

  -- ---- one tree, asked alone
  alone-goes : (n passed : ℕ) (t : Tree) (st : State) → n ≤ st.slots
      → (passes_from lim o (t ∷ []) n passed st).specs ≡ st.specs ++ own_first lim o n (st.used t.prefix) st.fresh t
  unfolding passes_from own_first pass
  alone-goes zero passed t st h = sym (append-nil st.specs)
  alone-goes (suc n) passed t st h = go (pick lim o u st.fresh t) refl (λ p. alone-goes n (suc passed) t (with_pick (some p) st) (omega arith))
    where
      u : SourceId → Bool
      u = st.used t.prefix

      next : Picked → List Spec
      next p = own_first lim o n (also u p.spec) p.fresh t

      go : (a : Option Picked) → pick lim o u st.fresh t ≡ a
          → ((p : Picked) → (passes_from lim o (t ∷ []) n (suc passed) (with_pick (some p) st)).specs ≡ (st.specs ++ (p.spec ∷ [])) ++ own_first lim o n ((with_pick (some p) st).used t.prefix) p.fresh t)
          → (passes_from lim o (t ∷ []) (suc n) passed st).specs ≡ st.specs ++ and_on a next
      go none e ih =
          let idle : pass lim o (t ∷ []) st ≡ st = pass-none lim o t [] st (λ z. omega arith) e in
          ap (λ (r : Plan). r.specs) (passes-end lim o (t ∷ []) n passed st (rw idle (not-picked st))) ∙ ap (λ (x : State). x.specs) idle ∙ sym (append-nil st.specs)
      go (some p) e ih =
          let gives : pass lim o (t ∷ []) st ≡ with_pick (some p) st = pass-some lim o t [] st p (λ z. omega arith) e in
          let more : picked st (with_pick (some p) st) ≡ true = ap not (ne_eqb (length (st.specs ++ (p.spec ∷ []))) (length st.specs) (λ q. omega (arith, length-append st.specs (p.spec ∷ [])))) in
          let mine = used-mine p st t.prefix (pick-prefix lim o u st.fresh t p e) in
          ap (λ (r : Plan). r.specs) (passes-go-on lim o (t ∷ []) n passed st (rw gives more) ∙ ap (passes_from lim o (t ∷ []) n (suc passed)) gives)
          ∙ ih p
          ∙ append_assoc st.specs (p.spec ∷ []) (own_first lim o n ((with_pick (some p) st).used t.prefix) p.fresh t)
          ∙ ap (λ (w : SourceId → Bool). st.specs ++ (p.spec ∷ own_first lim o n w p.fresh t)) mine

  -- ---- windows

  -- a chain is no longer than the sizes
  joined-le : (least : ℕ) (sizes : List ℕ) → joined lim least sizes ≤ length sizes
  unfolding joined
  joined-le least [] = omega arith
  joined-le least (x ∷ xs) =
      elim (leb x (lim least)) as (λ c. cond c (suc (joined lim (min least x) xs)) 0 ≤ suc (length xs)) [ true ↦ omega (arith, joined-le (min least x) xs) | false ↦ omega arith ]

  -- and so for the chain
  chain-le : (sizes : List ℕ) → chain lim sizes ≤ length sizes
  unfolding chain
  chain-le [] = omega arith
  chain-le (x ∷ xs) = omega (arith, joined-le x xs)

  -- where none beyond l has p, looking beyond l finds no greater one
  greatest-same : (p : ℕ → Bool) (l n : ℕ) → ((k : ℕ) → l < k → p k ≡ false) → l ≤ n → greatest p n ≡ greatest p l
  unfolding greatest
  greatest-same p l zero beyond h =
      let same : 0 ≡ l = omega arith in
      ap (greatest p) same
  greatest-same p l (suc n) beyond h = go (dec_le l n) (greatest-same p l n beyond)
    where
      go : Dec (l ≤ n) → (l ≤ n → greatest p n ≡ greatest p l) → cond (p (suc n)) (suc n) (greatest p n) ≡ greatest p l
      go (yes k) ih = rw (beyond (suc n) (omega arith)) (ih k)
      go (no k) ih = let same : suc n ≡ l = omega arith in ap (greatest p) same

  -- a window longer than the sizes is not within the chain
  too_long : (used : SourceId → Bool) (ids sizes : List ℕ) (k : ℕ) → length sizes < k
      → eligible lim o.min o.max used ids sizes k ≡ false
  unfolding eligible lasting
  too_long used ids sizes k h = rw (lt-leb k (chain lim sizes) (omega (arith, chain-le sizes))) (and-false (leb o.min k))

  pub fuel : Fuel lim o
  unfolding own_list own_list_of planned ordered placed
  fuel = record {
    own = λ least most used fresh t n h.
        let f = free-length used (rows_of t) in
        let r = rows-length t in
        own-enough least most t n (length t.l0 + length t.runs) used fresh (omega arith) (omega arith);
    alone = λ least most t js h.
        let u : SourceId → Bool = λ x. among x (used_ids js t.prefix) in
        let f = free-length u (rows_of t) in
        let r = rows-length t in
        alone-goes (free_slots o js) 0 t (start o (t ∷ []) js) (omega arith)
        ∙ own-enough least most t (free_slots o js) (length t.l0 + length t.runs) u (first_fresh (t ∷ []) js) (omega arith) (omega arith);
    passes = λ ts js n h. passes-enough (ordered ts) n (free_slots o js) 0 (start o ts js) h (omega arith);
    windows = λ used ids sizes h n k. greatest-same (eligible lim o.min o.max used ids sizes) (length ids) n (λ i l. too_long used ids sizes i (omega arith)) k;
  }
