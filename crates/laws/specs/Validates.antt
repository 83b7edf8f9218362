-- What a plan proposes, validation accepts on the same trees. Where these are not refused 2, under options with 1 ≤ min ≤ max.
use Rattle.std.specs.Prelude.{ℕ, ◌≡◌}
use mathlib.Core.List.{List, Memᴰ}
use Rattle.rules.specs.declared.Options.{Options}
use Rattle.rules.specs.Tables.{Tree, Job}
use Rattle.rules.specs.Pick.{Spec}
use Rattle.rules.specs.Plan.{planned, own_list_of}
use Rattle.rules.specs.Validation.{tree_with, tiered_refusal}

pub record Validates (lim : ℕ → ℕ) (o : Options) (ts : List Tree) (js : List Job) : Type 0 where
  -- each spec of a plan
  pub plan : (s : Spec) → Memᴰ s (planned lim o ts js).specs
      → tiered_refusal s.sources s.destination (tree_with s.prefix ts) ≡ 0
  -- and each entry of a tree's own list
  pub own : (t : Tree) → Memᴰ t ts → (s : Spec) → Memᴰ s (own_list_of lim o ts js t)
      → tiered_refusal s.sources s.destination (tree_with s.prefix ts) ≡ 0
