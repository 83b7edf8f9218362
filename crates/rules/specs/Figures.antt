-- "Figures to hold to": those that document 01 marks (*), and some of our own that tell apart what those do not, in one table under one
-- statement.
use Rattle.std.specs.Prelude.{ℕ, ◌+◌, ◌-◌, ◌^◌, ◌≡◌, refl, List, [], ◌∷◌, Float}
use Rattle.std.proofs.Math.Option.{Option, some, none}
use Rattle.std.specs.Float.{binary32}
use Rattle.std.specs.Float.Ieee.{of_bits, of_int, mul, to_unsigned}
use Rattle.rules.specs.declared.Options.{Options}
use Rattle.rules.specs.Lists.{any, all, keep, first_with, leading, concat_map, total, one_above}
use Rattle.rules.specs.declared.tables.Ulid.{Ulid}
use Rattle.rules.specs.declared.tables.Run.{Run}
use Rattle.rules.specs.declared.tables.Source.{Source}
use Rattle.rules.specs.declared.tables.SourceId.{SourceId}
use Rattle.rules.specs.declared.tables.SourceId.TheVariants.{SortedRun, SstView}
use Rattle.rules.specs.Tables.{L0Row, Tree, Job}
use Rattle.rules.specs.Limit.{limit_of}
use Rattle.rules.specs.Chain.{chain, joined, held_back}
use Rattle.rules.specs.Windows.{used_ids, passes, last, beginning_passes, up_to, lasting, eligible, greatest, window}
use Rattle.rules.specs.Pick.{Spec, takes_rows, pick, own_first, own_list}
use Rattle.rules.specs.Plan.{first_fresh, free_slots, placed, ordered, ask, pass, passes_from, planned, own_list_of}
use Rattle.rules.specs.Jobs.{adopts}
use Rattle.rules.specs.Finish.{absent, with_output, finish_tree}

-- ---- the tables of the figures

abbrev single : ℕ → Float
single bits = of_bits binary32 bits

abbrev one : Float
one = single 0x3f80_0000

abbrev half : Float
half = single 0x3f00_0000

abbrev four : Float
four = single 0x4080_0000

abbrev not_anumber : Float
not_anumber = single 0x7fc0_0000

abbrev minus_two : Float
minus_two = single 0xc000_0000

abbrev infinity : Float
infinity = single 0x7f80_0000

abbrev run : ℕ → ℕ → Run
run i s = record { id = i; size = s }

abbrev ulid : ℕ → Ulid
ulid n = record { high = 0; low = n }

-- an L0 row of size 1; its SST has an id of its own
abbrev row : ℕ → L0Row
row n = record { view = ulid n; sst = ulid (100 + n); size = 1 }

abbrev tree : ℕ → List L0Row → List Run → Tree
tree p vs rs = record { prefix = p; watermark = record { view_mark = 0; sst_mark = 0; view = absent; sst = absent }; l0 = vs; runs = rs }

-- "Threshold 4, min 2, max 3"
abbrev options : ℕ → Options
options slots = record { min = 2; max = 3; concurrent = slots; threshold = four }

abbrev spec : ℕ → List SourceId → ℕ → Spec
spec p xs d = record { prefix = p; sources = xs; destination = d }

abbrev job : ℕ → List Source → ℕ → Job
job status xs d = record { id = ulid 1; status = status; drain = 0; prefix = 0; destination = d; sources = xs }

abbrev source_run : ℕ → Source
source_run r = record { mark = 1; run = r; view = absent }

abbrev source_view : ℕ → Source
source_view v = record { mark = 0; run = 0; view = ulid v }

-- "Root: L0 a, b, c, d of size 1, runs 12, 11 of size 100."
abbrev root : Tree
root = tree 0 (row 1 ∷ row 2 ∷ row 3 ∷ row 4 ∷ []) (run 12 100 ∷ run 11 100 ∷ [])

-- "Segment 7: runs 10, 9 of size 50."
abbrev seven : Tree
seven = tree 7 [] (run 10 50 ∷ run 9 50 ∷ [])

abbrev bcd : Spec
bcd = spec 0 (SstView (ulid 2) ∷ SstView (ulid 3) ∷ SstView (ulid 4) ∷ []) 13

abbrev ten_nine : Spec
ten_nine = spec 7 (SortedRun 10 ∷ SortedRun 9 ∷ []) 9

abbrev twelve_eleven : Spec
twelve_eleven = spec 0 (SortedRun 12 ∷ SortedRun 11 ∷ []) 11

-- ---- what a figure says

pub data Figure : Type 0 where
  -- limit(size) at a threshold
  limit : Float → ℕ → ℕ → Figure
  -- the length of the chain from the first of these sizes, at a threshold
  chains : Float → List ℕ → ℕ → Figure
  -- a tree's own list, with no jobs
  owns : Tree → List Spec → Figure
  -- the whole plan at a concurrent limit: its specs and passes
  plans : ℕ → List Tree → List Job → List Spec → ℕ → Figure
  -- a tree after a finish of a job's sources to a destination, with this output
  finishes : List Source → ℕ → Run → Tree → Tree → Figure
  -- whether a local job, or none, gives way to the remote one
  adopting : Option Job → List ℕ → Figure

-- which of the six remote statuses are adopted
abbrev adopted : Option Job → List ℕ
adopted known = keep (λ s. adopts known (job s [] 0)) (0 ∷ 1 ∷ 2 ∷ 3 ∷ 4 ∷ 5 ∷ [])

abbrev pub Holds : Figure → Type 0
Holds (limit threshold s n) = limit_of threshold s ≡ n
Holds (chains threshold sizes n) = chain (limit_of threshold) sizes ≡ n
Holds (owns t specs) = own_list_of (limit_of four) (options 0) (t ∷ []) [] t ≡ specs
Holds (plans slots ts js specs n) = planned (limit_of four) (options slots) ts js ≡ record { specs = specs; passes = n }
Holds (finishes xs d out before after) = finish_tree (job 2 xs d) out before ≡ after
Holds (adopting known statuses) = adopted known ≡ statuses

abbrev pub AllHold : List Figure → Type 0
AllHold [] = Unit {0}
AllHold (f ∷ fs) = Holds f × AllHold fs

abbrev pub figures : List Figure
figures =
    -- (*) "threshold 1.0: limit(16,777,217) = 16,777,216, so two runs of 16,777,217 don't chain; limit(16,777,219) =
    -- 16,777,220; limit(2^64 - 1) = 2^64 - 1."
    limit one 16777217 16777216
    ∷ chains one (16777217 ∷ 16777217 ∷ []) 1
    ∷ limit one 16777219 16777220
    ∷ limit one (2 ^ 64 - 1) (2 ^ 64 - 1)
    -- (*) "0.5: limit(3) = 1. NaN or -2.0: limit(9) = 0. Infinity: limit(0) = 0, limit(1) = 2^64 - 1."
    ∷ limit half 3 1
    ∷ limit not_anumber 9 0
    ∷ limit minus_two 9 0
    ∷ limit infinity 0 0
    ∷ limit infinity 1 (2 ^ 64 - 1)
    -- (*) "threshold 4, runs 100, 10, 1: one chain of three. Runs 1, 4, 5: chain of two."
    ∷ chains four (100 ∷ 10 ∷ 1 ∷ []) 3
    ∷ chains four (1 ∷ 4 ∷ 5 ∷ []) 2
    -- (*) "Threshold 4, min 2, max 3, runs 5, 4, 3, 2, 1 of size 10, no L0: own list is 3, 2, 1 to 1, alone."
    ∷ owns (tree 0 [] (run 5 10 ∷ run 4 10 ∷ run 3 10 ∷ run 2 10 ∷ run 1 10 ∷ []))
    (spec 0 (SortedRun 3 ∷ SortedRun 2 ∷ SortedRun 1 ∷ []) 1 ∷ [])
    -- (*) "F = 3, no jobs. Plan whole: prefix 0, b c d to 13; prefix 7, 10 9 to 9; prefix 0, 12 11 to 11; passes 2. F =
    -- 2: the first two, passes 1. F = 0: none, passes 0."
    ∷ plans 3 (root ∷ seven ∷ []) [] (bcd ∷ ten_nine ∷ twelve_eleven ∷ []) 2
    ∷ plans 2 (root ∷ seven ∷ []) [] (bcd ∷ ten_nine ∷ []) 1
    ∷ plans 0 (root ∷ seven ∷ []) [] [] 0
    -- (*) "Finishing b c d to 13: L0 a, runs 13, 12, 11, watermark b. Finishing 12 11 to 11: runs 11."
    ∷ finishes (source_view 2 ∷ source_view 3 ∷ source_view 4 ∷ []) 13 (run 13 3) root
    (record {
      prefix = 0;
      watermark = record { view_mark = 1; sst_mark = 1; view = ulid 2; sst = ulid 102 };
      l0 = row 1 ∷ [];
      runs = run 13 3 ∷ run 12 100 ∷ run 11 100 ∷ [];
    })
    ∷ finishes (source_run 12 ∷ source_run 11 ∷ []) 11 (run 11 200) root (tree 0 root.l0 (run 11 200 ∷ []))
    -- ours: "max entries or more" hold back the rows, and not more than max
    ∷ owns (tree 0 (row 1 ∷ row 2 ∷ []) (run 3 8 ∷ run 2 8 ∷ run 1 8 ∷ []))
    (spec 0 (SortedRun 3 ∷ SortedRun 2 ∷ SortedRun 1 ∷ []) 1 ∷ [])
    -- ours: a longer window is not tried after a shorter beginning failed, and Compacted holds no slot
    ∷ plans 1 (tree 0 [] (run 4 10 ∷ run 3 10 ∷ run 2 10 ∷ run 1 10 ∷ []) ∷ []) (job 3 (source_run 1 ∷ []) 1 ∷ [])
    (spec 0 (SortedRun 3 ∷ SortedRun 2 ∷ []) 2 ∷ []) 1
    -- ours: the adoption table, row by row as 01 writes it
    ∷ adopting none (0 ∷ 3 ∷ 4 ∷ 5 ∷ [])
    ∷ adopting (some (job 0 [] 0)) (3 ∷ [])
    ∷ adopting (some (job 1 [] 0)) (2 ∷ 3 ∷ [])
    ∷ adopting (some (job 2 [] 0)) (1 ∷ 2 ∷ 3 ∷ [])
    ∷ adopting (some (job 3 [] 0)) (3 ∷ [])
    ∷ adopting (some (job 4 [] 0)) []
    ∷ adopting (some (job 5 [] 0)) []
    ∷ []

-- THE STATEMENT: every figure of the table holds, by computation
pub figures-hold : AllHold figures
unfolding limit_of to_unsigned mul of_int of_bits any all keep first_with leading concat_map total one_above chain joined held_back used_ids passes last beginning_passes up_to lasting eligible greatest window takes_rows pick own_first own_list first_fresh free_slots placed ordered ask pass passes_from planned own_list_of with_output finish_tree
figures-hold = (refl, (refl, (refl, (refl, (refl, (refl, (refl, (refl, (refl, (refl, (refl, (refl, (refl, (refl, (refl, (refl, (refl, (refl, (refl, (refl, (refl, (refl, (refl, (refl, (refl, (refl, tt))))))))))))))))))))))))))
