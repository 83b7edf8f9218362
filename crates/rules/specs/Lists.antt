-- What the rules say of lists and of numbered refusals, and the libraries lack.
use Rattle.std.specs.Prelude.{ℕ, suc, ◌+◌, ◌-◌, max, List, [], ◌∷◌, ◌++◌, Bool, true, false, cond, ◌&&◌, ◌||◌, not, drop, length}
use Rattle.std.proofs.Math.Option.{Option, some, none}

infixr 15 ◌given◌else◌
module _ {ℓ} {A : Type ℓ} where
  unfoldable pub any : (A → Bool) → List A → Bool
  any p [] = false
  any p (x ∷ xs) = p x || any p xs

  unfoldable pub all : (A → Bool) → List A → Bool
  all p [] = true
  all p (x ∷ xs) = p x && all p xs

  -- the entries with p, in their order
  unfoldable pub keep : (A → Bool) → List A → List A
  keep p [] = []
  keep p (x ∷ xs) = cond (p x) (x ∷ keep p xs) (keep p xs)

  -- the first entry with p
  unfoldable pub first_with : (A → Bool) → List A → Option A
  first_with p [] = none
  first_with p (x ∷ xs) = cond (p x) (some x) (first_with p xs)

  -- how many entries stand before the first one without p
  unfoldable pub leading : (A → Bool) → List A → ℕ
  leading p [] = 0
  leading p (x ∷ xs) = cond (p x) (suc (leading p xs)) 0

  -- each entry stands in r to the next one
  unfoldable pub linked : (A → A → Bool) → List A → Bool
  linked r [] = true
  linked r (x ∷ []) = true
  linked r (x ∷ (y ∷ ys)) = r x y && linked r (y ∷ ys)

  -- no entry is the same as a later one
  unfoldable pub distinct : (A → A → Bool) → List A → Bool
  distinct same [] = true
  distinct same (x ∷ xs) = not (any (same x) xs) && distinct same xs

  -- the last n entries
  abbrev pub last_of : ℕ → List A → List A
  last_of n xs = drop (length xs - n) xs

module _ {ℓ κ} {A : Type ℓ} {B : Type κ} where
  unfoldable pub concat_map : (A → List B) → List A → List B
  concat_map f [] = []
  concat_map f (x ∷ xs) = f x ++ concat_map f xs

unfoldable pub total : List ℕ → ℕ
total [] = 0
total (x ∷ xs) = x + total xs

-- one above the largest, 0 for no number
unfoldable pub one_above : List ℕ → ℕ
one_above [] = 0
one_above (x ∷ xs) = max (suc x) (one_above xs)

-- a refusal is its number, 0 for none: n "Given exactly when" b, else what the later checks say
abbrev pub ◌given◌else◌ : ℕ → Bool → ℕ → ℕ
n given b else later = cond b n later
