-- The loops of validation: sources held against places p + k of a list, and places tried one after the other.
use Prim.Native.Nat.{ℕ, ◌+◌, ◌-◌, ◌≤◌, ◌<◌}
use mathlib.Core.Path.{◌≡◌, refl, sym, ap, ◌∙◌}
use mathlib.Core.List.{List}
use mathlib.Core.Bool.{Bool, true, false, not}
use native.Mathlib.Nat.{add-zero, sub-zero}
use native.Mathlib.Omega.{arith}
use Rattle.rules.specs.declared.tables.SourceId.{SourceId}
use Rattle.rules.specs.declared.tables.SourceId.TheVariants.{SortedRun, SstView}
use Rattle.rules.specs.contracts.tables.SourceIdPartialEq.TheImpl.{ghosts}
use Rattle.rules.specs.Tables.{same_id}
use Rattle.rules.specs.Lent.{rows_from}
use Rattle.rules.specs.Validation.{starts_with, consecutive}
use Rattle.rules.proofs.Rows.{rows_next, rows_end}
use Rattle.rows.proofs.Scans.{Left, scan-next, scan-stops, scan-ends}

-- the derived equality of what sources name, and what `!=` says by it
eq-same : (x y : SourceId) → ghosts.eq x y ≡ same_id x y
eq-same (SortedRun a) (SortedRun b) = refl
eq-same (SortedRun a) (SstView v) = refl
eq-same (SstView u) (SortedRun b) = refl
eq-same (SstView u) (SstView v) = refl

pub ne-same : (x y : SourceId) (r : Bool) → r ≡ not (ghosts.eq x y) → same_id x y ≡ not r
ne-same x y r e = go r (same_id x y) (e ∙ ap not (eq-same x y))
  where
    go : (b d : Bool) → b ≡ not d → d ≡ not b
    go b true e = sym (ap not e)
    go b false e = sym (ap not e)

-- the sources from source k on stand from place p + k on exactly if v
pub record Matches (f g : ℕ → SourceId) (places n p k : ℕ) (v : Bool) : Type 0 where
  pub within : p + k ≤ places
  pub test : starts_with (rows_from f (p + k) (places - (p + k))) (rows_from g k (n - k)) ≡ v

module _ {f g : ℕ → SourceId} {places n p : ℕ} where
  pub match-starts : p ≤ places → Matches f g places n p 0 (starts_with (rows_from f p (places - p)) (rows_from g 0 n))
  match-starts h = record { within = omega arith; test = rw (add-zero p, sub-zero n) }

  module _ {k : ℕ} {v : Bool} (m : Matches f g places n p k v) where
    -- the list is at its end, the sources are not
    pub match-short : k < n → p + k ≡ places → false ≡ v
    unfolding starts_with
    match-short h e = rw (rows_end f (p + k) places (omega arith), rows_next g k n h) at m.test

    -- source k is not at place p + k
    pub match-breaks : k < n → p + k < places → false ≡ same_id (f (p + k)) (g k) → false ≡ v
    unfolding starts_with
    match-breaks h l e = rw (rows_next f (p + k) places l, rows_next g k n h, ← e) at m.test

    -- source k is there
    pub match-on : k < n → p + k < places → true ≡ same_id (f (p + k)) (g k) → Matches f g places n p (k + 1) v
    unfolding starts_with
    match-on h l e =
        let next : p + (k + 1) ≡ p + k + 1 = omega arith in
        record { within = omega arith; test = rw next (rw (rows_next f (p + k) places l, rows_next g k n h, ← e) at m.test) }

    -- no source is left
    pub match-ends : n ≤ k → true ≡ v
    unfolding starts_with
    match-ends h = rw (rows_end g k n h) at m.test

-- ---- places tried one after the other, from the first on
module _ (xs : List SourceId) {f : ℕ → SourceId} {places p : ℕ} {v : Bool} (l : Left (λ (ys : List SourceId). consecutive ys xs) f places p v) where
  -- the sources stand from place p on
  pub place_found : p < places → true ≡ starts_with (rows_from f p (places - p)) xs → true ≡ v
  unfolding consecutive
  place_found h e =
      let next = rows_next f p places h in
      scan-stops l h (rw (sym (e ∙ ap (λ (ys : List SourceId). starts_with ys xs) next)))

  -- they do not
  pub place-on : p < places → false ≡ starts_with (rows_from f p (places - p)) xs → Left (λ (ys : List SourceId). consecutive ys xs) f places (p + 1) v
  unfolding consecutive
  place-on h e =
      let next = rows_next f p places h in
      scan-next l h (rw (sym (e ∙ ap (λ (ys : List SourceId). starts_with ys xs) next)))

  -- past the last place
  pub places-end : p ≡ places → starts_with (rows_from f places (places - places)) xs ≡ v
  unfolding consecutive
  places-end e = rw (rows_end f places places (omega arith)) (scan-ends l (omega (arith, e)))
