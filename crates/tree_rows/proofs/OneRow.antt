-- One tree's row of w numbers changed in a slice: the slice in parts, before and after, and a store into the row.
use Prim.Native.Nat.{ℕ, zero, suc, ◌+◌, ◌*◌, ◌<◌}
use mathlib.Core.Path.{◌≡◌, sym, ap, ◌∙◌}
use mathlib.Core.List.{List, [], ◌∷◌, ◌++◌, append_assoc}
use native.Mathlib.Nat.{zero-add}
use native.Mathlib.Omega.{arith}
use lib.ListN.{length, get_or, take, drop, set, take-append-drop}
use lib.Seq.{length-take-le, split_at}
use Rattle.rules.specs.Lists.{concat_map}
use Rattle.rules.specs.Tables.{Tree}
use Rattle.rules.specs.Lent.{laid}
use Rattle.rules.proofs.Rows.{length-words, concat_map-append}
use Rattle.rows.proofs.Laying.{grown}
use Rattle.tree_rows.specs.Change.{changed_at}
use Rattle.tree_rows.proofs.Changes.{changed-parts, length-changed}

-- a store behind the first numbers
pub set-behind : (xs ys : List ℕ) (n k v : ℕ) → n ≡ length xs + k → set (xs ++ ys) n v ≡ xs ++ set ys k v
set-behind [] ys n k v e = rw (e, zero-add)
set-behind (x ∷ xs) ys zero k v e = absurd (omega arith)
set-behind (x ∷ xs) ys (suc n) k v e = ap (λ (r : List ℕ). x ∷ r) (set-behind xs ys n k v (omega arith))

-- the rows before one, its own numbers, and the rows behind it
one-row : (words : Tree → List ℕ) (xs : List Tree) (x : Tree) (ys : List Tree) (rest : List ℕ) → concat_map words (xs ++ (x ∷ ys)) ++ rest ≡ concat_map words xs ++ (words x ++ (concat_map words ys ++ rest))
unfolding concat_map
one-row words xs x ys rest = rw (concat_map-append words xs (x ∷ ys), append_assoc, append_assoc)

-- the slice s of n rows, w numbers each, around the row of tree i
pub record Apart (words : Tree → List ℕ) (w : ℕ) (ts : List Tree) (n : ℕ) (s : List ℕ) (i : ℕ) (x : Tree) : Type 0 where
  pub before : List ℕ
  pub behind : List ℕ
  pub long : length before ≡ w * i
  -- as it was
  pub stood : s ≡ before ++ (words x ++ behind)
  -- with the tree changed
  pub changed : (f : Tree → Tree) → laid (w * n) (concat_map words (changed_at i f ts)) s ≡ before ++ (words (f x) ++ behind)

pub apart : (words : Tree → List ℕ) (w : ℕ) → ((t : Tree) → length (words t) ≡ w) → (ts : List Tree) (n : ℕ) (s : List ℕ) → n ≡ length ts → take (w * n) s ≡ concat_map words ts → (i : ℕ) → i < n → (d : Tree)
    → Apart words w ts n s i (get_or ts i d)
apart words w width ts n s count rows i there d = record {
  before = concat_map words (take i ts);
  behind = concat_map words (drop (suc i) ts) ++ drop (w * n) s;
  long = length-words words w width (take i ts) ∙ ap (λ (m : ℕ). w * m) (length-take-le i ts (omega arith));
  stood =
      sym (take-append-drop (w * n) s)
      ∙ ap (λ (r : List ℕ). r ++ drop (w * n) s) (rows ∙ ap (concat_map words) (split_at ts i d (omega arith)))
      ∙ parts (get_or ts i d);
  changed = λ f.
      grown 0 (w * n) (concat_map words (changed_at i f ts)) s (omega (arith, size f))
      ∙ ap (λ (m : ℕ). concat_map words (changed_at i f ts) ++ drop m s) (size f)
      ∙ ap (λ (r : List Tree). concat_map words r ++ drop (w * n) s) (changed-parts i f ts d (omega arith))
      ∙ parts (f (get_or ts i d));
}
  where
    size : (f : Tree → Tree) → length (concat_map words (changed_at i f ts)) ≡ w * n
    size f = length-words words w width (changed_at i f ts) ∙ ap (λ (m : ℕ). w * m) (length-changed i f ts ∙ sym count)

    parts : (x : Tree) → concat_map words (take i ts ++ (x ∷ drop (suc i) ts)) ++ drop (w * n) s ≡ concat_map words (take i ts) ++ (words x ++ (concat_map words (drop (suc i) ts) ++ drop (w * n) s))
    parts x = one-row words (take i ts) x (drop (suc i) ts) (drop (w * n) s)
