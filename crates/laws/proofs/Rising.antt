-- Fresh numbers rise: each spec of step 1 takes the next one, and no two take the same.
use Prim.Native.Nat.{ℕ, ◌+◌, ◌≤◌, ◌<◌, min}
use mathlib.Core.Path.{◌≡◌, refl, sym, ap, ap₂, ◌∙◌}
use mathlib.Core.Logic.{◌⊎◌, inl, inr}
use mathlib.Core.List.Memᴰ
use mathlib.Core.List.{List, [], ◌∷◌, ◌++◌, map, map-append, append-nil, Memᴰ}
use mathlib.Core.Bool.{Bool, true, false, ◌&&◌, and-false, true≢false}
use mathlib.Core.Option.{some, some-injective}
use native.Mathlib.Omega.{arith}
use lib.Dec.{eqb}
use lib.ListN.{length, length-append}
use borrow.Author.Tests.{ne_eqb}
use Rattle.rules.specs.declared.Options.{Options}
use Rattle.rules.specs.Lists.{keep, distinct, last_of}
use Rattle.rules.specs.Tables.{Tree, Job}
use Rattle.rules.specs.Lent.{rows_from}
use Rattle.rules.specs.Pick.{Spec, last_run, risen, Picked, oldest, pick}
use Rattle.rules.specs.Plan.{State, with_pick, first_fresh, start}
use Rattle.rules.proofs.Rows.{rows_from-append}
use Rattle.laws.specs.Demand3.{from_rows}
use Rattle.laws.proofs.Used.{keep_append}
use Rattle.laws.proofs.Picks.{Cases, takes-rows, takes-runs, pick-cases, rows-first, not-rows, a-row, enough-rows}
use Rattle.laws.proofs.Distinct.{none_any, distinct-last}

-- ---- specs of step 1

-- how many there are
abbrev pub row_specs : List Spec → ℕ
row_specs ss = length (keep from_rows ss)

-- where they go
abbrev pub destinations_of : List Spec → List ℕ
destinations_of ss = map (λ s. s.destination) (keep from_rows ss)

-- two of them with one destination
abbrev pub row_clash : Spec → Spec → Bool
row_clash a b = from_rows a && (from_rows b && eqb a.destination b.destination)

-- ---- fresh numbers rise

-- after n specs of step 1 the fresh number is n above the first, and their destinations are the numbers between, each once
pub record Rising (first : ℕ) (st : State) : Type 0 where
  pub fresh : st.fresh ≡ min (first + row_specs st.specs) last_run
  pub within : first + row_specs st.specs ≤ last_run → (s : Spec) → Memᴰ s st.specs → from_rows s ≡ true
      → (first ≤ s.destination) × (s.destination < first + row_specs st.specs)
  pub taken : first + row_specs st.specs ≤ last_run → destinations_of st.specs ≡ rows_from (λ k. first + k) 0 (row_specs st.specs)
  pub once : first + row_specs st.specs ≤ last_run → distinct row_clash st.specs ≡ true

-- a spec of step 1 counts
kept_more : (ss : List Spec) (s : Spec) → from_rows s ≡ true → keep from_rows (ss ++ (s ∷ [])) ≡ keep from_rows ss ++ (s ∷ [])
unfolding keep
kept_more ss s h = keep_append from_rows ss (s ∷ []) ∙ rw h

one_more : (ss : List Spec) (s : Spec) → from_rows s ≡ true → row_specs (ss ++ (s ∷ [])) ≡ row_specs ss + 1
one_more ss s h = ap length (kept_more ss s h) ∙ length-append (keep from_rows ss) (s ∷ [])

-- one of step 2 does not
kept_same : (ss : List Spec) (s : Spec) → from_rows s ≡ false → keep from_rows (ss ++ (s ∷ [])) ≡ keep from_rows ss
unfolding keep
kept_same ss s h = keep_append from_rows ss (s ∷ []) ∙ rw h (append-nil (keep from_rows ss))

module _ (first : ℕ) (p : Picked) (st : State) (r : Rising first st) where
  -- how many there are after this pick
  abbrev now : ℕ
  now = row_specs (st.specs ++ (p.spec ∷ []))

  -- a pick of step 1 takes the fresh number
  rows-rise : from_rows p.spec ≡ true → p.spec.destination ≡ st.fresh → p.fresh ≡ risen st.fresh
      → Rising first (with_pick (some p) st)
  unfolding rows_from
  rows-rise f d n =
      let more = one_more st.specs p.spec f in
      record {
        fresh = omega (arith, r.fresh);
        within = λ h s m k. go h s k (Memᴰ.append_cases st.specs m);
        taken = λ h. takes h;
        once = λ h. distinct-last row_clash st.specs p.spec (r.once (omega arith)) (none_any (λ a. row_clash a p.spec) st.specs (λ a m. apart h a m (from_rows a) refl));
      }
    where
      takes : first + now ≤ last_run → destinations_of (st.specs ++ (p.spec ∷ [])) ≡ rows_from (λ k. first + k) 0 now
      takes h =
          let more = one_more st.specs p.spec f in
          let at : p.spec.destination ≡ first + (0 + row_specs st.specs) = omega (arith, r.fresh) in
          ap (map (λ (s : Spec). s.destination)) (kept_more st.specs p.spec f)
          ∙ map-append (λ (s : Spec). s.destination) (keep from_rows st.specs) (p.spec ∷ [])
          ∙ ap₂ (λ (a : List ℕ) (b : ℕ). a ++ (b ∷ [])) (r.taken (omega arith)) at
          ∙ sym (rows_from-append (λ k. first + k) 0 (row_specs st.specs) 1)
          ∙ ap (rows_from (λ k. first + k) 0) (sym more)

      go : first + now ≤ last_run → (s : Spec) → from_rows s ≡ true → Memᴰ s st.specs ⊎ Memᴰ s (p.spec ∷ [])
          → (first ≤ s.destination) × (s.destination < first + now)
      go h s k (inl m) =
          let more = one_more st.specs p.spec f in
          let old = r.within (omega arith) s m k in
          (omega arith, omega arith)
      go h s k (inr m) =
          let more = one_more st.specs p.spec f in
          let same = ap (λ (x : Spec). x.destination) (Memᴰ.eq_of_singleton m) in
          let at = r.fresh in
          (omega arith, omega arith)

      apart : first + now ≤ last_run → (a : Spec) → Memᴰ a st.specs → (c : Bool) → from_rows a ≡ c
          → (c && (from_rows p.spec && eqb a.destination p.spec.destination)) ≡ false
      apart h a m false e = refl
      apart h a m true e =
          let more = one_more st.specs p.spec f in
          let old = r.within (omega arith) a m e in
          let at = r.fresh in
          rw (ne_eqb a.destination p.spec.destination (λ q. omega arith)) (and-false (from_rows p.spec))

  -- one of step 2 leaves it
  runs-stay : from_rows p.spec ≡ false → p.fresh ≡ st.fresh → Rising first (with_pick (some p) st)
  runs-stay f n =
      let same = ap length (kept_same st.specs p.spec f) in
      record {
        fresh = omega (arith, r.fresh);
        within = λ h s m k. go h s k (Memᴰ.append_cases st.specs m);
        taken = λ h.
            ap (map (λ (s : Spec). s.destination)) (kept_same st.specs p.spec f) ∙ r.taken (omega arith) ∙ ap (rows_from (λ k. first + k) 0) (sym same);
        once = λ h. distinct-last row_clash st.specs p.spec (r.once (omega arith)) (none_any (λ a. row_clash a p.spec) st.specs (λ a m. rw f (and-false (from_rows a))));
      }
    where
      go : first + now ≤ last_run → (s : Spec) → from_rows s ≡ true → Memᴰ s st.specs ⊎ Memᴰ s (p.spec ∷ [])
          → (first ≤ s.destination) × (s.destination < first + now)
      go h s k (inl m) =
          let same = ap length (kept_same st.specs p.spec f) in
          let old = r.within (omega arith) s m k in
          (omega arith, omega arith)
      go h s k (inr m) = absurd (true≢false (sym k ∙ ap from_rows (Memᴰ.eq_of_singleton m) ∙ f))

module _ (lim : ℕ → ℕ) (o : Options) (least : 1 ≤ o.min) (most : o.min ≤ o.max) (ts : List Tree) (js : List Job) where
  -- so they rise with every pick
  pub pick-rises : (t : Tree) (p : Picked) (st : State) → pick lim o (st.used t.prefix) st.fresh t ≡ some p
      → Rising (first_fresh ts js) st → Rising (first_fresh ts js) (with_pick (some p) st)
  pick-rises t p st e r = go (pick-cases lim o (st.used t.prefix) st.fresh t p e)
    where
      go : Cases lim o (st.used t.prefix) st.fresh t p → Rising (first_fresh ts js) (with_pick (some p) st)
      go (takes-rows h q) =
          rows-rise (first_fresh ts js) p st r
          (rw q (rows-first (oldest o t) (a-row lim o least most t (enough-rows lim o least most t (st.used t.prefix) st.fresh h)).1))
          (ap (λ (x : Picked). x.spec.destination) q)
          (ap (λ (x : Picked). x.fresh) q)
      go (takes-runs i w k q) =
          let same = some-injective _ _ q in
          runs-stay (first_fresh ts js) p st r (not-rows p.spec (last_of o.max (i ∷ w)) (ap (λ (x : Picked). x.spec.sources) same)) (ap (λ (x : Picked). x.fresh) same)

  -- at the start there are none
  pub start-rises : first_fresh ts js ≤ last_run → Rising (first_fresh ts js) (start o ts js)
  unfolding keep distinct rows_from
  start-rises h = record { fresh = omega arith; within = λ k s m. absurd (Memᴰ.not-nil m); taken = λ k. refl; once = λ k. refl }
