-- "One pick from a tree", and a tree's own list.
use Rattle.std.specs.Prelude.{ℕ, zero, suc, ◌+◌, min, List, [], ◌∷◌, ◌++◌, map, Bool, cond, ◌&&◌, ◌||◌, leb, length}
use Rattle.std.proofs.Math.Option.{Option, some, none}
use Rattle.rules.specs.declared.Options.{Options}
use Rattle.rules.specs.Lists.{total, last_of}
use Rattle.rules.specs.declared.tables.SourceId.{SourceId}
use Rattle.rules.specs.declared.tables.Run.{Run}
use Rattle.rules.specs.declared.tables.SourceId.TheVariants.{SortedRun}
use Rattle.rules.specs.Tables.{L0Row, Tree, among, view_id}
use Rattle.rules.specs.Windows.{passes, last, window}

-- a proposal: a tiered spec
pub record Spec : Type 0 where
  pub prefix : ℕ
  pub sources : List SourceId
  pub destination : ℕ

-- what a picked spec uses of its tree
abbrev pub spec_uses : Spec → List SourceId
spec_uses s = s.sources ++ (SortedRun s.destination ∷ [])

-- "Specs picked in this call are added."
abbrev pub also : (SourceId → Bool) → Spec → SourceId → Bool
also used s x = used x || among x (spec_uses s)

-- the largest run number
abbrev pub last_run : ℕ
last_run = 4294967295

-- "the fresh number rises by one, stopping at 4,294,967,295"
abbrev pub risen : ℕ → ℕ
risen fresh = min (fresh + 1) last_run

-- a spec, and the fresh number after it
pub record Picked : Type 0 where
  pub spec : Spec
  pub fresh : ℕ

abbrev pub ids_of : List Run → List ℕ
ids_of rs = map (λ r. r.id) rs

abbrev pub sizes_of : List Run → List ℕ
sizes_of rs = map (λ r. r.size) rs

abbrev pub l0_sizes_of : List L0Row → List ℕ
l0_sizes_of vs = map (λ v. v.size) vs

-- "take the last max of them (the oldest), in table order"
abbrev pub oldest : Options → Tree → List L0Row
oldest o t = last_of o.max t.l0

-- step 1: "If L0 rows are at least min, take the last max of them ..; destination the fresh number, next run the tree's
-- first run. If it passes, this is the pick"
unfoldable pub takes_rows : (ℕ → ℕ) → Options → (SourceId → Bool) → ℕ → Tree → Bool
takes_rows lim o used fresh t =
    leb o.min (length t.l0)
    && passes lim o.max used (map view_id (oldest o t)) fresh (total (l0_sizes_of (oldest o t))) (sizes_of t.runs)

abbrev pub row_pick : Options → ℕ → Tree → Picked
row_pick o fresh t = record {
  spec = record { prefix = t.prefix; sources = map view_id (oldest o t); destination = fresh };
  fresh = risen fresh;
}

-- step 2: "Should k exceed max, the front is dropped. Destination: the last run."
abbrev pub run_pick : Options → ℕ → Tree → List ℕ → Option Picked
run_pick o fresh t [] = none
run_pick o fresh t (i ∷ ids) =
    some
    (record {
      spec = record { prefix = t.prefix; sources = map SortedRun (last_of o.max (i ∷ ids)); destination = last (i ∷ ids) };
      fresh = fresh;
    })

-- "One pick from a tree": step 1, "Otherwise" step 2; "No pick exactly when neither exists."
unfoldable pub pick : (ℕ → ℕ) → Options → (SourceId → Bool) → ℕ → Tree → Option Picked
pick lim o used fresh t =
    cond (takes_rows lim o used fresh t) (some (row_pick o fresh t))
    (run_pick o fresh t (window lim o.min o.max used (ids_of t.runs) (sizes_of t.runs)))

-- the pick, then what follows it
abbrev pub and_on : Option Picked → (Picked → List Spec) → List Spec
and_on none more = []
and_on (some p) more = p.spec ∷ more p

-- the first n entries of a tree's own list: "picks from this tree only, .. each pick added to the used ids, until there is
-- none"
unfoldable pub own_first : (ℕ → ℕ) → Options → ℕ → (SourceId → Bool) → ℕ → Tree → List Spec
own_first lim o zero used fresh t = []
own_first lim o (suc n) used fresh t =
    and_on (pick lim o used fresh t) (λ p. own_first lim o n (also used p.spec) p.fresh t)

-- its own list: each pick uses a row that was free, so there are no more entries than the tree has rows
unfoldable pub own_list : (ℕ → ℕ) → Options → (SourceId → Bool) → ℕ → Tree → List Spec
own_list lim o used fresh t = own_first lim o (length t.l0 + length t.runs) used fresh t
