-- A gap of rows that is opened and filled (`opened`), and one that is closed (`closed`): what the copies of open_rows and
-- close_rows leave, and the slice's length.
use mathlib.Core.Path.{◌≡◌, ap, ◌∙◌}
use Prim.Native.Nat.{ℕ, ◌+◌, ◌*◌, ◌-◌, ◌≤◌}
use native.Mathlib.Nat.{mul-add}
use native.Mathlib.Omega.{arith}
use mathlib.Core.List.{List, ◌++◌, append_assoc}
use lib.ListN.{length, take, drop, replicate, length-take, length-drop, length-append}
use lib.Seq.{paste, take-take, take-append-le, drop_at, take-paste, length-paste, length-take-le}
use Rattle.rules.specs.Lent.{laid_with}
use Rattle.rules.proofs.Laid.{length-laid_with}
use Rattle.rows.specs.Movers.{opened, closed}
use Rattle.rows.proofs.Paste.{drop-behind}
use Rattle.rows.proofs.Laying.{freed, grown}

-- ---- opening

-- the room of n + k rows, in parts: the rows before row `at`, the gap, and the rows from row `at` on
abbrev pub OpenRoom : ℕ → ℕ → ℕ → ℕ → Type 0
OpenRoom w n at k = w * (n + k) ≡ w * at + w * k + w * (n - at)

-- it is so where `at` is one of the rows, or their end
pub open-room : (w n at k : ℕ) → at ≤ n → OpenRoom w n at k
open-room w n at k h =
    let e : n + k ≡ at + k + (n - at) = omega arith in
    rw (e, mul-add, mul-add)

-- m numbers from number b on move up by g, and g numbers of s go into the gap
gap-filled : {A : Type 0} (l s : List A) (b g m : ℕ) → b + g + m ≤ length l
    → paste (paste l (b + g) (drop b l) m) b s g ≡ take b l ++ (take g s ++ take m (drop b l)) ++ drop (b + g + m) l
gap-filled {A} l s b g m room =
    let lead : length (take (b + g) l) ≡ b + g = length-take-le (b + g) l (omega arith) in
    let up : paste l (b + g) (drop b l) m ≡ take (b + g) l ++ (take m (drop b l) ++ drop (b + g + m) l) =
    append_assoc (take (b + g) l) (take m (drop b l)) (drop (b + g + m) l) in
    let front : take b (paste l (b + g) (drop b l) m) ≡ take b l =
    ap (take b) up ∙ take-append-le b (take (b + g) l) (take m (drop b l) ++ drop (b + g + m) l) (omega arith) ∙ take-take b (b + g) l (omega arith) in
    let back : drop (b + g) (paste l (b + g) (drop b l) m) ≡ take m (drop b l) ++ drop (b + g + m) l =
    ap (drop (b + g)) up ∙ drop_at (take (b + g) l) (take m (drop b l) ++ drop (b + g + m) l) (b + g) lead in
    ap (λ (r : List A). r ++ take g s ++ drop (b + g) (paste l (b + g) (drop b l) m)) front
    ∙ ap (λ (r : List A). take b l ++ take g s ++ r) back
    ∙ simp append_assoc

module _ {A : Type 0} (z : A) (w n at k : ℕ) (l new : List A) (within : at ≤ n) (room : w * (n + k) ≤ length l) (have : w * k ≤ length new) where
  -- n + k rows
  length-opened : length (opened w n at new k l) ≡ w * (n + k)
  unfolding opened
  length-opened =
      let split : OpenRoom w n at k = open-room w n at k within in
      let rest : length (drop (w * at) l) ≡ length l - w * at = length-drop (w * at) l in
      simp (length-append, length-take-le (w * at) l (omega arith), length-take-le (w * k) new have, length-take-le (w * (n - at)) (drop (w * at) l) (omega arith))
      (omega arith)

  -- after both copies
  pub open-all : {col col' : List A} → col ≡ paste l (w * at + w * k) (drop (w * at) l) (w * (n - at)) → col' ≡ paste col (w * at) new (w * k)
      → col' ≡ laid_with z (w * n) (opened w n at new k l) l
  unfolding opened
  open-all p q =
      let split : OpenRoom w n at k = open-room w n at k within in
      q
      ∙ ap (λ (r : List A). paste r (w * at) new (w * k)) p
      ∙ gap-filled l new (w * at) (w * k) (w * (n - at)) (omega arith)
      ∙ rw (grown z (w * n) (opened w n at new k l) l (omega (arith, length-opened, mul-add w n k)), length-opened, split)

  -- open_rows leaves the slice its length
  pub length-open : length (laid_with z (w * n) (opened w n at new k l) l) ≡ length l
  length-open = length-laid_with z (w * n) (opened w n at new k l) l (omega (arith, mul-add w n k)) (omega (arith, length-opened))

-- ---- closing

-- the room of n rows, in parts: the rows before row `at`, the k that go, and the rows behind them
abbrev pub CloseRoom : ℕ → ℕ → ℕ → ℕ → Type 0
CloseRoom w n at k = (w * n ≡ w * (at + k) + w * (n - (at + k))) × (w * (at + k) ≡ w * at + w * k)

-- it is so where the k rows are among them
pub close-room : (w n at k : ℕ) → at + k ≤ n → CloseRoom w n at k
close-room w n at k h =
    let e : n ≡ at + k + (n - (at + k)) = omega arith in
    (ap (λ (m : ℕ). w * m) e ∙ mul-add w (at + k) (n - (at + k)), mul-add w at k)

-- m numbers from number f on move down to number b, and what they leave up to number u is cleared
gap-closed : {A : Type 0} (z : A) (l : List A) (b f m u : ℕ) {col col' : List A} → b ≤ f → f + m ≡ u → u ≤ length l
    → col ≡ paste l b (drop f l) m → col' ≡ paste col (b + m) (replicate (f - b) z) (f - b) → col' ≡ laid_with z u (take b l ++ take m (drop f l)) l
gap-closed z l b f m u {col} low end room p q =
    let rest : length (drop f l) ≡ length l - f = length-drop f l in
    let gap : f - b ≡ u - (b + m) = omega arith in
    freed z {d = b + m} l col (omega arith)
    (rw (p, length-paste l b (drop f l) m (omega arith) (omega arith)) room)
    (rw p (take-paste l b (drop f l) m (omega arith) (omega arith)))
    (rw p (drop-behind l b (drop f l) m u (omega arith) (omega arith) (omega arith)))
    (rw gap at q)

module _ {A : Type 0} (z : A) (w n at k : ℕ) (l : List A) (within : at + k ≤ n) (room : w * n ≤ length l) where
  -- after the copy, and with what it frees cleared
  pub close-all : {col col' : List A} → col ≡ paste l (w * at) (drop (w * (at + k)) l) (w * (n - (at + k)))
      → col' ≡ paste col (w * at + w * (n - (at + k))) (replicate (w * (at + k) - w * at) z) (w * (at + k) - w * at)
      → col' ≡ laid_with z (w * n) (closed w n at k l) l
  unfolding closed
  close-all p q =
      let split : CloseRoom w n at k = close-room w n at k within in
      gap-closed z l (w * at) (w * (at + k)) (w * (n - (at + k))) (w * n) (omega arith) (omega arith) room p q

  -- close_rows leaves the slice its length
  pub length-close : length (laid_with z (w * n) (closed w n at k l) l) ≡ length l
  unfolding closed
  length-close =
      let split : CloseRoom w n at k = close-room w n at k within in
      length-laid_with z (w * n) (closed w n at k l) l room (simp (length-append, length-take) (omega arith))
