-- Used ids as keys, those of all trees in one table.
use Rattle.std.specs.Prelude.{ℕ, ◌+◌, ◌≡◌, List, [], ◌∷◌, ◌++◌, Bool, ◌&&◌, ◌||◌, eqb, length, take}
use Rattle.rules.specs.Lists.{any}
use Rattle.rules.specs.declared.tables.SourceId.{SourceId}
use Rattle.rules.specs.Tables.{same_id}
use Rattle.tree_pick.specs.declared.conflict.Key.{Key}
use Rattle.tree_pick.specs.declared.conflict.UsedIds.{UsedIds}

abbrev pub same_key : Key → Key → Bool
same_key a b = eqb a.prefix b.prefix && same_id a.id b.id

-- the key of a tree's id
abbrev pub key_of : ℕ → SourceId → Key
key_of prefix x = record { prefix = prefix; id = x }

unfoldable pub holds : List Key → Key → Bool
holds ks key = any (λ k. same_key k key) ks

-- what is used of a tree, as windows take it
abbrev pub used_in : List Key → ℕ → SourceId → Bool
used_in ks prefix x = holds ks (key_of prefix x)

-- the keys in use
abbrev pub keys_in : UsedIds → List Key
keys_in u = take u.count u.keys.now

-- one key more: of every id, it was used or is the one added
pub record KeyAdded (before : UsedIds) (key : Key) (after : UsedIds) : Type 0 where
  pub same : after.keys.ghost_name ≡ before.keys.ghost_name
  pub kept : length after.keys.now ≡ length before.keys.now
  pub counted : after.count ≡ before.count + 1
  pub rows : keys_in after ≡ keys_in before ++ (key ∷ [])
  pub used : (prefix : ℕ) (x : SourceId) → used_in (keys_in after) prefix x ≡ used_in (keys_in before) prefix x || same_key key (key_of prefix x)
