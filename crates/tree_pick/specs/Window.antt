-- Where a window lies.
use Rattle.std.specs.Prelude.{ℕ, ◌+◌, ◌<◌, ◌≤◌, ◌≡◌, List, [], length, take, drop}
use Rattle.std.specs.declared.option.Option.{Option}
use Rattle.std.specs.declared.option.Option.TheVariants.{None, Some}
use Rattle.tree_pick.specs.declared.window.Window.{Window}

-- `part` is the `count` ids from place `from` on
pub record Lies (ids : List ℕ) (from count : ℕ) (part : List ℕ) : Type 0 where
  pub within : from + count ≤ length ids
  pub is : take count (drop from ids) ≡ part

-- there is no window, or it is there and `part` of it is found
abbrev pub Found : List ℕ → Option Window → List ℕ → List ℕ → Type 0
Found ids None window part = window ≡ []
Found ids (Some w) window part = (0 < length window) × Lies ids w.from w.count part
