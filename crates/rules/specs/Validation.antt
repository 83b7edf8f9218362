-- Validation of a spec: "Jobs" of document 01, first paragraph, and refusals 6 to 9.
use Rattle.std.specs.Prelude.{ℕ, min, List, [], ◌∷◌, ◌++◌, map, Bool, true, false, ◌&&◌, ◌||◌, not, eqb, length}
use Rattle.std.proofs.Math.Option.{Option, some, none}
use Rattle.rules.specs.Lists.{first_with, ◌given◌else◌}
use Rattle.rules.specs.declared.tables.SourceId.{SourceId}
use Rattle.rules.specs.declared.tables.Source.{Source}
use Rattle.rules.specs.declared.tables.SourceId.TheVariants.{SortedRun, SstView}
use Rattle.rules.specs.Tables.{Tree, same_id, id_of, run_id, view_id}
use Rattle.rules.specs.Lent.{LentTrees, trees_of, rows_from, source_at}
use Rattle.rules.specs.Bounds.{trees_outside, trees_misshapen, is_mark, good_sources, lengths_agree}

-- a spec to validate; its length is that of its marks: "The length of a spec to validate has no bound of its own"
pub record LentSpec : Type 0 where
  pub drain : ℕ
  pub prefix : ℕ
  pub destination : ℕ
  pub marks : List ℕ
  pub runs : List ℕ
  pub views : List ℕ

abbrev pub lent_spec : ℕ → ℕ → ℕ → List ℕ → List ℕ → List ℕ → LentSpec
lent_spec drain prefix destination marks runs views =
    record { drain = drain; prefix = prefix; destination = destination; marks = marks; runs = runs; views = views }

-- all the source entries of three slices
abbrev pub lent_sources : List ℕ → List ℕ → List ℕ → List Source
lent_sources marks runs views = rows_from (source_at marks runs views) 0 (length marks)

-- "lent lengths disagree ..; a mark above 1, .. a spec to validate included"
unfoldable pub spec_misshapen : LentSpec → Bool
spec_misshapen s =
    not
    (lengths_agree s.marks s.runs s.views
    && is_mark s.drain
    && good_sources (lent_sources s.marks s.runs s.views))

-- "the tree's L0 then runs, as one list; they may cross the boundary"
abbrev pub logical_order : Tree → List SourceId
logical_order t = map view_id t.l0 ++ map run_id t.runs

unfoldable pub starts_with : List SourceId → List SourceId → Bool
starts_with ys [] = true
starts_with [] (x ∷ xs) = false
starts_with (y ∷ ys) (x ∷ xs) = same_id y x && starts_with ys xs

-- the sources stand in the list one after the other: 8 where they do not, so "one longer than the list is refused 8"
unfoldable pub consecutive : List SourceId → List SourceId → Bool
consecutive [] xs = starts_with [] xs
consecutive (y ∷ ys) xs = starts_with (y ∷ ys) xs || consecutive ys xs

abbrev pub lower : ℕ → Option ℕ → ℕ
lower r none = r
lower r (some s) = min r s

-- "the lowest run among the sources"
unfoldable pub lowest_run : List SourceId → Option ℕ
lowest_run [] = none
lowest_run (SortedRun r ∷ xs) = some (lower r (lowest_run xs))
lowest_run (SstView v ∷ xs) = lowest_run xs

-- 9: "destination not the lowest run among the sources"; "With no run among them the destination is not looked at."
abbrev pub wrong_destination : ℕ → Option ℕ → Bool
wrong_destination d none = false
wrong_destination d (some r) = not (eqb d r)

-- the tree of a prefix
abbrev pub tree_with : ℕ → List Tree → Option Tree
tree_with prefix ts = first_with (λ t. eqb t.prefix prefix) ts

abbrev pub is_empty : List SourceId → Bool
is_empty [] = true
is_empty (x ∷ xs) = false

-- "then 6, 7, 8, 9"
unfoldable pub tiered_refusal : List SourceId → ℕ → Option Tree → ℕ
tiered_refusal xs d none = 6
tiered_refusal xs d (some t) =
    7 given is_empty xs
    else 8 given not (consecutive (logical_order t) xs)
    else 9 given wrong_destination d (lowest_run xs)
    else 0

-- "Validation: drain accepted at once, then 6, 7, 8, 9."
unfoldable pub validate_refusal : LentTrees → LentSpec → ℕ
validate_refusal t s =
    1 given trees_outside t
    else 2 given trees_misshapen t || spec_misshapen s
    else 0 given eqb s.drain 1
    else tiered_refusal (map id_of (lent_sources s.marks s.runs s.views)) s.destination (tree_with s.prefix (trees_of t))
