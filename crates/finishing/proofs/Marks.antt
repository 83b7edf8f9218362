-- The watermarks that finish and drain leave, by the rows that the look-ups find.
use Prim.Native.Nat.{ℕ, zero, suc, ◌+◌, ◌-◌, ◌*◌, ◌≤◌, ◌<◌, suc-le-suc}
use mathlib.Core.Path.{◌≡◌, refl, sym, ap, ◌∙◌}
use mathlib.Core.List.{List, [], ◌∷◌}
use mathlib.Core.Bool.{Bool, true, false, cond, not}
use mathlib.Core.Option.{some, none}
use native.Mathlib.Nat.{add-zero, zero-lt-suc, le_of_suc-le-suc, not-suc-le-zero}
use native.Mathlib.Omega.{arith}
use lib.Dec.{eqb}
use lib.ListN.{length, get_or}
use borrow.Author.Tests.{eq-eqb, ne_eqb}
use Rattle.rules.specs.Lists.{leading, keep}
use Rattle.rules.specs.declared.tables.Ulid.{Ulid}
use Rattle.rules.specs.Tables.{same_ulid, L0Row, Tree}
use Rattle.rules.specs.Lent.{LentTrees, rows_from, ulid_at, l0_at}
use Rattle.rules.specs.Finish.{absent, row_of_view, mark_at, finish_mark, drain_mark}
use Rattle.rules.proofs.Rows.{length-rows_from, get_or-rows_from, map-rows_from}
use Rattle.rules.proofs.Lookups.{leading-found, leading-none}
use Rattle.rows.specs.Movers.{marked}
use Rattle.rows.proofs.Found.{leading-map}
use Rattle.rules.specs.declared.tables.SourceId.{SourceId}
use Rattle.rules.specs.declared.tables.SourceId.TheVariants.{SstView}

-- a flag that is not 0
pub marked-is : (m : ℕ) → marked m ≡ not (eqb m 0)
marked-is zero = sym (ap not (eq-eqb 0 0 refl))
marked-is (suc m) = sym (ap not (ne_eqb (suc m) 0 (λ e. omega arith)))

-- tests that agree at each row let as many rows pass
pub leading-same : {A B : Type 0} (p : A → Bool) (q : B → Bool) (f : ℕ → A) (g : ℕ → B) (i j n : ℕ) → ((k : ℕ) → k < n → p (f (i + k)) ≡ q (g (j + k))) → leading p (rows_from f i n) ≡ leading q (rows_from g j n)
unfolding leading rows_from
leading-same p q f g i j zero h = refl
leading-same p q f g i j (suc n) h =
    let here : p (f i) ≡ q (g j) = rw (add-zero, add-zero) at (h 0 (zero-lt-suc n)) in
    rw (here, leading-same p q f g (i + 1) (j + 1) n (λ k l. ap (λ (m : ℕ). p (f m)) (omega arith) ∙ h (suc k) (suc-le-suc l) ∙ ap (λ (m : ℕ). q (g m)) (omega arith)))

-- ---- the row of a view

module _ (t : LentTrees) (u : Ulid) (first rows m : ℕ) (place : m ≡ leading (λ v. not (same_ulid v u)) (rows_from (λ k. ulid_at t.l0_ids (4 * k)) first rows)) where
  among-rows : m ≡ leading (λ v. not (same_ulid v.view u)) (rows_from (l0_at t) first rows)
  among-rows =
      place
      ∙ ap (leading (λ v. not (same_ulid v u))) (sym (map-rows_from (λ (v : L0Row). v.view) (l0_at t) first rows))
      ∙ leading-map (λ (v : L0Row). v.view) (λ v. not (same_ulid v u)) (rows_from (l0_at t) first rows)

  view-there : m < rows → row_of_view u (rows_from (l0_at t) first rows) ≡ some (l0_at t (first + m))
  view-there h =
      leading-found (λ (v : L0Row). same_ulid v.view u) (l0_at t 0) (rows_from (l0_at t) first rows) (omega (arith, length-rows_from (l0_at t) first rows, among-rows))
      ∙ ap (λ (k : ℕ). some (get_or (rows_from (l0_at t) first rows) k (l0_at t 0))) (sym among-rows)
      ∙ ap some (get_or-rows_from (l0_at t) first rows m (l0_at t 0) h)

  view-gone : rows ≤ m → row_of_view u (rows_from (l0_at t) first rows) ≡ none
  view-gone h = leading-none (λ (v : L0Row). same_ulid v.view u) (rows_from (l0_at t) first rows) (omega (arith, length-rows_from (l0_at t) first rows, among-rows))

-- ---- finish: the first source is a view

module _ (u : Ulid) (others : List SourceId) (x : Tree) (t : LentTrees) (first rows m : ℕ) (own : x.l0 ≡ rows_from (l0_at t) first rows) (place : m ≡ leading (λ v. not (same_ulid v u)) (rows_from (λ k. ulid_at t.l0_ids (4 * k)) first (first + rows - first))) where
  within : m ≡ leading (λ v. not (same_ulid v u)) (rows_from (λ k. ulid_at t.l0_ids (4 * k)) first rows)
  within = place ∙ ap (λ (k : ℕ). leading (λ v. not (same_ulid v u)) (rows_from (λ k. ulid_at t.l0_ids (4 * k)) first k)) (omega arith)

  -- "and its SST id if the view is still there"
  pub mark-there : m < rows → record { view_mark = 1; sst_mark = 1; view = u; sst = ulid_at t.l0_ids (4 * (first + m) + 2) } ≡ finish_mark (SstView u ∷ others) x
  mark-there h = sym (ap (λ (vs : List L0Row). mark_at u (row_of_view u vs)) own ∙ ap (mark_at u) (view-there t u first rows m within h))

  -- "else absent"
  pub mark-absent : rows ≤ m → record { view_mark = 1; sst_mark = 0; view = u; sst = absent } ≡ finish_mark (SstView u ∷ others) x
  mark-absent h = sym (ap (λ (vs : List L0Row). mark_at u (row_of_view u vs)) own ∙ ap (mark_at u) (view-gone t u first rows m within h))

-- ---- drain

module _ (p : L0Row → Bool) (d : L0Row) (x : Tree) where
  first-source : (vs : List L0Row) → leading (λ v. not (p v)) vs < length vs → drain_mark (keep p vs) x ≡ mark_at (get_or vs (leading (λ v. not (p v)) vs) d).view (some (get_or vs (leading (λ v. not (p v)) vs) d))
  unfolding leading keep
  first-source [] h = absurd (not-suc-le-zero h)
  first-source (v ∷ vs) h = go (p v) h (first-source vs)
    where
      go : (b : Bool) → cond (not b) (suc (leading (λ v. not (p v)) vs)) 0 < suc (length vs)
          → (leading (λ v. not (p v)) vs < length vs → drain_mark (keep p vs) x ≡ mark_at (get_or vs (leading (λ v. not (p v)) vs) d).view (some (get_or vs (leading (λ v. not (p v)) vs) d)))
          → drain_mark (cond b (v ∷ keep p vs) (keep p vs)) x ≡ mark_at (get_or (v ∷ vs) (cond (not b) (suc (leading (λ v. not (p v)) vs)) 0) d).view (some (get_or (v ∷ vs) (cond (not b) (suc (leading (λ v. not (p v)) vs)) 0) d))
      go true h later = refl
      go false h later = later (le_of_suc-le-suc h)

  no_source : (vs : List L0Row) → length vs ≤ leading (λ v. not (p v)) vs → drain_mark (keep p vs) x ≡ x.watermark
  unfolding leading keep
  no_source [] h = refl
  no_source (v ∷ vs) h = go (p v) h (no_source vs)
    where
      go : (b : Bool) → suc (length vs) ≤ cond (not b) (suc (leading (λ v. not (p v)) vs)) 0 → (length vs ≤ leading (λ v. not (p v)) vs → drain_mark (keep p vs) x ≡ x.watermark)
          → drain_mark (cond b (v ∷ keep p vs) (keep p vs)) x ≡ x.watermark
      go true h later = absurd (not-suc-le-zero h)
      go false h later = later (le_of_suc-le-suc h)

module _ (t : LentTrees) (x : Tree) (p : L0Row → Bool) (kept : List ℕ) (first rows m : ℕ) (says : (k : ℕ) → k < rows → marked (get_or kept (first + k) 0) ≡ not (p (l0_at t (first + k)))) (place : m ≡ leading (λ f. not (eqb f 0)) (rows_from (λ k. get_or kept k 0) first rows)) where
  by_row : m ≡ leading (λ v. not (p v)) (rows_from (l0_at t) first rows)
  by_row = place ∙ leading-same (λ f. not (eqb f 0)) (λ v. not (p v)) (λ k. get_or kept k 0) (l0_at t) first first rows (λ k h. sym (marked-is (get_or kept (first + k) 0)) ∙ says k h)

  pub drain-there : m < rows → record { view_mark = 1; sst_mark = 1; view = ulid_at t.l0_ids (4 * (first + m)); sst = ulid_at t.l0_ids (4 * (first + m) + 2) } ≡ drain_mark (keep p (rows_from (l0_at t) first rows)) x
  drain-there h =
      ap (λ (v : L0Row). mark_at v.view (some v)) (sym (ap (λ (k : ℕ). get_or (rows_from (l0_at t) first rows) k (l0_at t 0)) (sym by_row) ∙ get_or-rows_from (l0_at t) first rows m (l0_at t 0) h))
      ∙ sym (first-source p (l0_at t 0) x (rows_from (l0_at t) first rows) (omega (arith, length-rows_from (l0_at t) first rows, by_row)))

  pub drain-stays : rows ≤ m → x.watermark ≡ drain_mark (keep p (rows_from (l0_at t) first rows)) x
  drain-stays h = sym (no_source p (l0_at t 0) x (rows_from (l0_at t) first rows) (omega (arith, length-rows_from (l0_at t) first rows, by_row)))
