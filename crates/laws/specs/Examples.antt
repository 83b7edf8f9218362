-- Demand 3 on small tables: its premises can be met, the share of (c) is reached and not passed, and without the last premise
-- (b) and (d) fail.
use Rattle.std.specs.Prelude.{ℕ, ◌*◌, ◌≡◌, refl, List, [], ◌∷◌, map, length}
use Rattle.std.proofs.lemmas.Bool.{false≢true}
use Rattle.std.proofs.Common.{lit≤}
use Rattle.std.specs.Float.{binary32}
use Rattle.std.specs.Float.Ieee.{of_bits}
use Rattle.rules.specs.declared.Options.{Options}
use Rattle.rules.specs.Lists.{any, all, keep, concat_map, total, one_above, distinct}
use Rattle.rules.specs.declared.tables.Ulid.{Ulid}
use Rattle.rules.specs.declared.tables.Run.{Run}
use Rattle.rules.specs.Tables.{L0Row, Tree, Job}
use Rattle.rules.specs.Chain.{chain, joined, held_back}
use Rattle.rules.specs.Windows.{used_ids, passes, last, beginning_passes, up_to, lasting, eligible, greatest, window}
use Rattle.rules.specs.Pick.{takes_rows, pick, own_first, own_list}
use Rattle.rules.specs.Plan.{first_fresh, free_slots, placed, ordered, ask, pass, passes_from, planned, own_list_of}
use Rattle.laws.specs.Demand3.{gets, largest, Given}

abbrev four : ℕ → ℕ
four n = 4 * n

abbrev options : ℕ → ℕ → ℕ → Options
options min max slots = record { min = min; max = max; concurrent = slots; threshold = of_bits binary32 0x4080_0000 }

abbrev ulid : ℕ → Ulid
ulid n = record { high = 0; low = n }

abbrev row : ℕ → L0Row
row n = record { view = ulid n; sst = ulid n; size = 1 }

abbrev run : ℕ → ℕ → Run
run i s = record { id = i; size = s }

abbrev tree : ℕ → List L0Row → List Run → Tree
tree p vs rs = record { prefix = p; watermark = record { view_mark = 0; sst_mark = 0; view = ulid 0; sst = ulid 0 }; l0 = vs; runs = rs }

-- 01's "Root: L0 a, b, c, d of size 1, runs 12, 11 of size 100. Segment 7: runs 10, 9 of size 50."
abbrev root : Tree
root = tree 0 (row 1 ∷ row 2 ∷ row 3 ∷ row 4 ∷ []) (run 12 100 ∷ run 11 100 ∷ [])

abbrev seven : Tree
seven = tree 7 [] (run 10 50 ∷ run 9 50 ∷ [])

-- the premises hold of these tables
pub met : Given (options 2 3 2) (root ∷ seven ∷ []) []
unfolding any keep concat_map one_above distinct used_ids first_fresh
met = record { least = lit≤ tt; most = lit≤ tt; prefixes = refl; room = lit≤ tt; below = λ t m n h. absurd (false≢true h) }

-- with 2 slots for 2 trees the root gets 1 spec, though its own list has 2
pub reached : (length (gets (planned four (options 2 3 2) (root ∷ seven ∷ []) []) root) ≡ 1) × (length (own_list_of four (options 2 3 2) (root ∷ seven ∷ []) [] root) ≡ 2)
unfolding any all keep concat_map total one_above chain joined held_back used_ids passes last beginning_passes up_to lasting eligible greatest window takes_rows pick own_first own_list first_fresh free_slots placed ordered ask pass passes_from planned own_list_of
reached = (refl, refl)

-- ---- without the last premise: an active job of tree p that names run 1, which is the first fresh number

abbrev busy : ℕ → Job
busy p = record { id = ulid 1; status = 3; drain = 1; prefix = p; destination = 0; sources = (record { mark = 1; run = 1; view = ulid 0 }) ∷ [] }

abbrev two : List Tree
two = tree 0 (row 1 ∷ []) (run 0 1000 ∷ []) ∷ tree 7 (row 2 ∷ []) [] ∷ []

-- the own list of tree 7 is empty, and yet it gets a spec: the root took that number before it was asked
pub entry_not_own :
    (own_list_of four (options 1 1 2) two (busy 7 ∷ []) (tree 7 (row 2 ∷ []) []) ≡ [])
    × (length (gets (planned four (options 1 1 2) two (busy 7 ∷ [])) (tree 7 (row 2 ∷ []) [])) ≡ 1)
unfolding any all keep concat_map total one_above chain joined held_back used_ids passes last beginning_passes up_to lasting eligible greatest window takes_rows pick own_first own_list first_fresh free_slots placed ordered ask pass passes_from planned own_list_of
entry_not_own = (refl, refl)

abbrev blocked : List Tree
blocked = tree 0 (row 1 ∷ row 2 ∷ row 3 ∷ []) [] ∷ tree 7 (row 4 ∷ row 5 ∷ []) (run 0 1000 ∷ []) ∷ []

-- the root is blocked in the first pass and picks in the second: 2 passes, though no tree gets more than 1 spec
pub pass_too_many :
    ((planned four (options 2 3 9) blocked (busy 0 ∷ [])).passes ≡ 2)
    × (largest (map (λ t. length (gets (planned four (options 2 3 9) blocked (busy 0 ∷ [])) t)) blocked) ≡ 1)
unfolding any all keep concat_map total one_above chain joined held_back used_ids passes last beginning_passes up_to lasting eligible greatest window takes_rows pick own_first own_list first_fresh free_slots placed ordered ask pass passes_from planned own_list_of
pass_too_many = (refl, refl)
