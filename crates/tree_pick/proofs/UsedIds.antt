-- Used ids: what more keys say of every id, and a row written to the table is a key more.
use Prim.Native.Nat.{ℕ}
use mathlib.Core.Path.{◌≡◌, refl, sym, ap, ap₂, ◌∙◌}
use mathlib.Core.List.{List, [], ◌∷◌, ◌++◌, map}
use mathlib.Core.Bool.{Bool, ◌&&◌, ◌||◌, and-false, or-false, and-or_distrib_left}
use lib.Dec.{eqb}
use Rattle.rules.specs.Lists.{any}
use Rattle.rules.specs.declared.tables.SourceId.{SourceId}
use Rattle.rules.specs.declared.tables.SourceId.TheVariants.{SortedRun, SstView}
use Rattle.rules.specs.Tables.{same_id, among}
use Rattle.rules.proofs.Appended.{any_append}
use Rattle.tree_pick.specs.declared.conflict.Key.{Key}
use Rattle.tree_pick.specs.Conflict.{same_key, key_of, holds, used_in}
use Rattle.std.specs.List.{list_any}
use Rattle.tree_pick.specs.contracts.conflict.KeyPartialEq.TheImpl.{ghosts}
use Rattle.rules.specs.declared.tables.SourceId.TheVariants.{SortedRun, SstView}

-- ---- keys of ids

-- "Specs picked in this call are added.": what was used, and what is added
pub used-more : (ks js : List Key) (prefix : ℕ) (x : SourceId) → used_in (ks ++ js) prefix x ≡ used_in ks prefix x || used_in js prefix x
unfolding holds
used-more ks js prefix x = any_append (λ k. same_key k (key_of prefix x)) ks js

-- the ids of a tree are used of this tree alone
pub used-of-tree : (p : ℕ) (xs : List SourceId) (q : ℕ) (y : SourceId) → used_in (map (key_of p) xs) q y ≡ eqb p q && among y xs
unfolding holds any
used-of-tree p [] q y = sym (and-false (eqb p q))
used-of-tree p (x ∷ xs) q y = rw (used-of-tree p xs q y) (sym (and-or_distrib_left (eqb p q) (same_id x y) (among y xs)))

-- what a key more says of every id
pub one-more : (ks : List Key) (key : Key) (prefix : ℕ) (x : SourceId) → used_in (ks ++ (key ∷ [])) prefix x ≡ used_in ks prefix x || same_key key (key_of prefix x)
unfolding holds any
one-more ks key prefix x = used-more ks (key ∷ []) prefix x ∙ ap (λ (b : Bool). used_in ks prefix x || b) (or-false _)

-- the derived equality of keys is that of ids, of one tree
key-eq : (p q : ℕ) (x y : SourceId) → ghosts.eq (key_of p x) (key_of q y) ≡ same_key (key_of p x) (key_of q y)
key-eq p q (SortedRun a) (SortedRun b) = refl
key-eq p q (SortedRun a) (SstView v) = refl
key-eq p q (SstView u) (SortedRun b) = refl
key-eq p q (SstView u) (SstView v) = refl

-- the scan is over the keys in use
pub scanned : (ks : List Key) (prefix : ℕ) (x : SourceId) → list_any (λ k. ghosts.eq k (key_of prefix x)) ks ≡ used_in ks prefix x
unfolding holds any
scanned [] prefix x = refl
scanned (k ∷ ks) prefix x = ap₂ ◌||◌ (key-eq k.prefix prefix k.id x) (scanned ks prefix x)
