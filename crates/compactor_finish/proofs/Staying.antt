-- Refusals 13 and 14 and the output's place, by the flags of the runs that stay.
use Prim.Native.Nat.{ℕ, zero, suc, ◌+◌, ◌≤◌, ◌<◌}
use mathlib.Core.Path.{◌≡◌, refl, sym, ap, ap₂, ◌∙◌}
use mathlib.Core.List.{List, [], ◌∷◌, ◌++◌, map, map-append}
use mathlib.Core.Bool.{Bool, true, false, cond, ◌&&◌, ◌||◌, not, or_assoc}
use native.Mathlib.Nat.{le_of_suc-le-suc, not-suc-le-zero}
use native.Mathlib.Omega.{arith}
use lib.Dec.{eqb, leb, ltb, leb-suc-suc}
use lib.ListN.{length, get_or, take, drop, length-map, length-append, get_or-map, get_or-eq_default}
use lib.Seq.{get_or-take, take-take, length-take-le}
use borrow.Author.Tests.{eq-eqb, ne_eqb, eqb-true, eqb-false, ltb-true, ltb-false, lt-ltb, le-ltb, leb-true, leb-false, not-true}
use Rattle.rules.specs.Lists.{any, all, keep, leading, distinct, concat_map}
use Rattle.rules.specs.declared.tables.Run.{Run}
use Rattle.rules.specs.declared.tables.SourceId.{SourceId}
use Rattle.rules.specs.declared.tables.SourceId.TheVariants.{SortedRun}
use Rattle.rules.specs.Tables.{same_ulid, L0Row, Tree, Job, among, run_id}
use Rattle.rules.specs.Lent.{LentTrees, rows_from, run_at, trees_of, runs_used, l0_of, runs_of}
use Rattle.rules.specs.Bounds.{max_runs, first_is_root, falling_ids, good_marks, good_trees}
use Rattle.rules.specs.Finish.{named, runs_left, output_place, finish_tree, misplaced, too_many_runs}
use Rattle.rules.proofs.Appended.{any_append}
use Rattle.rules.proofs.Rows.{map-rows_from}
use Rattle.rules.proofs.Packed.{runs-first, length_runs, length-trees_of, tree_is}
use Rattle.rules.proofs.Lookups.{and_left, and_right, or_left, or_right, none-at, all-at}
use Rattle.rules.proofs.Finishing.{output-falls, output-more}
use Rattle.rows.specs.Movers.{marked}
use Rattle.rows.specs.Read.{Stands}
use Rattle.tree_rows.specs.Change.{changed_at, keep_rows, kept_in, RunFlags}
use Rattle.tree_rows.proofs.Changes.{in-tree}
use Rattle.tree_rows.proofs.Standing.{runs-before, runs_of_lem}
use Rattle.tree_rows.proofs.Flags.{flags-mine}
use Rattle.tree_rows.proofs.Counts.{kept-many}
use Rattle.finishing.specs.Placing.{run_of, clash_in, old_place}
use Rattle.finishing.proofs.Marks.{leading-same}
use Rattle.finishing.proofs.Placed.{old-within}

-- ---- a run that stays has the number

unfoldable stays : List Bool → List ℕ → ℕ → Bool
stays [] xs n = false
stays (b ∷ bs) [] n = false
stays (b ∷ bs) (x ∷ xs) n = (b && eqb x n) || stays bs xs n

module _ (n : ℕ) where
  abbrev same : Run → Bool
  same r = eqb r.id n

  stays_by : (p : Run → Bool) (rs : List Run) (bs : List Bool) (ys : List ℕ) → stays (map p rs ++ bs) (map (λ r. r.id) rs ++ ys) n ≡ any (λ r. p r && same r) rs || stays bs ys n
  unfolding stays any
  stays_by p [] bs ys = refl
  stays_by p (r ∷ rs) bs ys = rw (stays_by p rs bs ys) (sym (or_assoc (p r && same r) (any (λ r. p r && same r) rs) (stays bs ys n)))

  stays_all : (rs : List Run) → stays (map (λ r. true) rs) (map (λ r. r.id) rs) n ≡ any same rs
  unfolding stays any
  stays_all [] = refl
  stays_all (r ∷ rs) = ap (λ (b : Bool). same r || b) (stays_all rs)

  -- the runs of trees of other prefixes
  others : (prefix : ℕ) (ts : List Tree) → any (eqb prefix) (map (λ x. x.prefix) ts) ≡ false → any (λ x. not (eqb x.prefix prefix) && any same x.runs) ts ≡ any same (runs_of ts)
  unfolding any concat_map
  others prefix [] h = refl
  others prefix (t ∷ ts) h =
      let rest = any (eqb prefix) (map (λ (x : Tree). x.prefix) ts) in
      let other : eqb t.prefix prefix ≡ false = ne_eqb t.prefix prefix (λ e. eqb-false prefix t.prefix (or_left (eqb prefix t.prefix) rest h) (sym e)) in
      rw (other, any_append same t.runs (runs_of ts), others prefix ts (or_right (eqb prefix t.prefix) rest h))

  aside : (a b c : Bool) → b || (a || c) ≡ a || (b || c)
  aside true true c = refl
  aside true false c = refl
  aside false b c = refl

  -- of tree i those with q, of the others every run
  by-trees : (q : Run → Bool) (i : ℕ) (ts : List Tree) (d : Tree) → i < length ts → distinct eqb (map (λ x. x.prefix) ts) ≡ true
      → stays (kept_in (λ x. x.runs) i q ts) (map (λ r. r.id) (runs_of ts)) n ≡ any (λ r. q r && same r) (get_or ts i d).runs || any (λ x. not (eqb x.prefix (get_or ts i d).prefix) && any same x.runs) ts
  unfolding kept_in concat_map distinct any
  by-trees q i [] d h u = absurd (not-suc-le-zero h)
  by-trees q zero (t ∷ ts) d h u =
      let prefixes = map (λ (x : Tree). x.prefix) ts in
      let apart = not-true (any (eqb t.prefix) prefixes) (and_left (not (any (eqb t.prefix) prefixes)) (distinct eqb prefixes) u) in
      rw (map-append (λ (r : Run). r.id) t.runs (runs_of ts), stays_by q t.runs (map (λ r. true) (runs_of ts)) (map (λ r. r.id) (runs_of ts)), stays_all (runs_of ts), eq-eqb t.prefix t.prefix refl, others t.prefix ts apart)
  by-trees q (suc i) (t ∷ ts) d h u =
      let prefixes = map (λ (x : Tree). x.prefix) ts in
      let apart = not-true (any (eqb t.prefix) prefixes) (and_left (not (any (eqb t.prefix) prefixes)) (distinct eqb prefixes) u) in
      let other : eqb t.prefix (get_or ts i d).prefix ≡ false = rw (get_or-map (λ (x : Tree). x.prefix) ts i d) at (none-at (eqb t.prefix) d.prefix prefixes apart i (rw length-map (le_of_suc-le-suc h))) in
      rw (map-append (λ (r : Run). r.id) t.runs (runs_of ts), stays_by (λ r. true) t.runs (kept_in (λ x. x.runs) i q ts) (map (λ r. r.id) (runs_of ts)), other, by-trees q i ts d (le_of_suc-le-suc h) (and_right (not (any (eqb t.prefix) prefixes)) (distinct eqb prefixes) u))
      (aside (any (λ r. q r && same r) (get_or ts i d).runs) (any same t.runs) (any (λ x. not (eqb x.prefix (get_or ts i d).prefix) && any same x.runs) ts))

  -- no number twice: the first run that has it decides
  none_stays : (bs : List Bool) (xs : List ℕ) → any (eqb n) xs ≡ false → stays bs xs n ≡ false
  unfolding stays any
  none_stays [] xs h = refl
  none_stays (b ∷ bs) [] h = refl
  none_stays (b ∷ bs) (x ∷ xs) h =
      rw (ne_eqb x n (λ e. eqb-false n x (or_left (eqb n x) (any (eqb n) xs) h) (sym e)), none_stays bs xs (or_right (eqb n x) (any (eqb n) xs) h)) (go b)
    where
      go : (b : Bool) → (b && false) || false ≡ false
      go true = refl
      go false = refl

  first-stays : (bs : List Bool) (xs : List ℕ) → length bs ≡ length xs → distinct eqb xs ≡ true → stays bs xs n ≡ get_or bs (leading (λ x. not (eqb x n)) xs) false
  unfolding stays leading distinct
  first-stays [] [] l u = refl
  first-stays [] (x ∷ xs) l u = absurd (omega arith)
  first-stays (b ∷ bs) [] l u = absurd (omega arith)
  first-stays (b ∷ bs) (x ∷ xs) l u = go (eqb x n) refl (first-stays bs xs (omega arith) (and_right (not (any (eqb x) xs)) (distinct eqb xs) u))
    where
      last : (b : Bool) → (b && true) || false ≡ b
      last true = refl
      last false = refl

      nothing : (b c : Bool) → (b && false) || c ≡ c
      nothing true c = refl
      nothing false c = refl

      go : (e : Bool) → eqb x n ≡ e → stays bs xs n ≡ get_or bs (leading (λ x. not (eqb x n)) xs) false → (b && e) || stays bs xs n ≡ get_or (b ∷ bs) (cond (not e) (suc (leading (λ x. not (eqb x n)) xs)) 0) false
      go true f later =
          let apart : any (eqb n) xs ≡ false = ap (λ (m : ℕ). any (eqb m) xs) (sym (eqb-true x n f)) ∙ not-true (any (eqb x) xs) (and_left (not (any (eqb x) xs)) (distinct eqb xs) u) in
          rw (none_stays bs xs apart) (last b)
      go false f later = nothing b (stays bs xs n) ∙ later

-- ---- the rules on trees, part by part

record Rules (ts : List Tree) : Type 0 where
  prefixes : distinct eqb (map (λ x. x.prefix) ts) ≡ true
  falling : all (λ x. falling_ids x.runs) ts ≡ true
  numbers : distinct eqb (map (λ r. r.id) (runs_of ts)) ≡ true

rules : (ts : List Tree) → good_trees ts ≡ true → Rules ts
unfolding good_trees
rules ts h =
    let root = first_is_root ts in
    let prefixes = distinct eqb (map (λ (x : Tree). x.prefix) ts) in
    let falling = all (λ (x : Tree). falling_ids x.runs) ts in
    let numbers = distinct eqb (map (λ (r : Run). r.id) (runs_of ts)) in
    let views = distinct same_ulid (map (λ (v : L0Row). v.view) (l0_of ts)) in
    let marks = all good_marks ts in
    let up_views = and_left (root && prefixes && falling && numbers && views) marks h in
    let up_numbers = and_left (root && prefixes && falling && numbers) views up_views in
    let up_falling = and_left (root && prefixes && falling) numbers up_numbers in
    record {
      prefixes = and_right root prefixes (and_left (root && prefixes) falling up_falling);
      falling = and_right (root && prefixes) falling up_falling;
      numbers = and_right (root && prefixes && falling) numbers up_numbers;
    }

pub prefixes-once : (ts : List Tree) → good_trees ts ≡ true → distinct eqb (map (λ x. x.prefix) ts) ≡ true
prefixes-once ts h = (rules ts h).prefixes

-- ---- how many runs stay

module _ {A : Type 0} where
  map-take : {B : Type 0} (f : A → B) (m : ℕ) (xs : List A) → map f (take m xs) ≡ take m (map f xs)
  map-take f zero xs = refl
  map-take f (suc m) [] = refl
  map-take {B} f (suc m) (x ∷ xs) = ap (λ (r : List B). f x ∷ r) (map-take f m xs)

  count_by : (p : A → Bool) (xs : List A) (bs : List Bool) → length (keep (λ b. b) (map p xs ++ bs)) ≡ length (keep p xs) + length (keep (λ b. b) bs)
  unfolding keep
  count_by p [] bs = omega arith
  count_by p (x ∷ xs) bs = go (p x) (count_by p xs bs)
    where
      go : (c : Bool) → length (keep (λ b. b) (map p xs ++ bs)) ≡ length (keep p xs) + length (keep (λ b. b) bs)
          → length (cond c (c ∷ keep (λ b. b) (map p xs ++ bs)) (keep (λ b. b) (map p xs ++ bs))) ≡ length (cond c (x ∷ keep p xs) (keep p xs)) + length (keep (λ b. b) bs)
      go true h = omega arith
      go false h = h

  count-all : (xs : List A) → length (keep (λ b. b) (map (λ x. true) xs)) ≡ length xs
  unfolding keep
  count-all [] = refl
  count-all (x ∷ xs) = ap suc (count-all xs)

  keep-every : (xs : List A) → length (keep (λ x. true) xs) ≡ length xs
  unfolding keep
  keep-every [] = refl
  keep-every (x ∷ xs) = ap suc (keep-every xs)

map_same : (bs : List Bool) → map (λ b. b) bs ≡ bs
map_same [] = refl
map_same (b ∷ bs) = ap (λ (r : List Bool). b ∷ r) (map_same bs)

module _ (q : Run → Bool) (f : Tree → Tree) (keeps : (x : Tree) → (f x).runs ≡ keep q x.runs) where
  kept-count : (i : ℕ) (ts : List Tree) → length (keep (λ b. b) (kept_in (λ x. x.runs) i q ts)) ≡ length (runs_of (changed_at i f ts))
  unfolding kept_in changed_at concat_map keep
  kept-count i [] = refl
  kept-count zero (t ∷ ts) =
      count_by q t.runs (map (λ r. true) (runs_of ts))
      ∙ omega (arith, count-all (runs_of ts), length-append (f t).runs (runs_of ts), ap length (keeps t))
  kept-count (suc i) (t ∷ ts) =
      count_by (λ r. true) t.runs (kept_in (λ x. x.runs) i q ts)
      ∙ omega (arith, keep-every t.runs, kept-count i ts, length-append t.runs (runs_of (changed_at i f ts)))

-- one run more in tree i is one run more in all
changed-more : (f g : Tree → Tree) → ((x : Tree) → length (f x).runs ≡ suc (length (g x).runs)) → (i : ℕ) (ts : List Tree) → i < length ts → length (runs_of (changed_at i f ts)) ≡ suc (length (runs_of (changed_at i g ts)))
unfolding changed_at concat_map
changed-more f g h i [] l = absurd (not-suc-le-zero l)
changed-more f g h zero (t ∷ ts) l = omega (arith, h t, length-append (f t).runs (runs_of ts), length-append (g t).runs (runs_of ts))
changed-more f g h (suc i) (t ∷ ts) l = omega (arith, changed-more f g h i ts (le_of_suc-le-suc l), length-append t.runs (runs_of (changed_at i f ts)), length-append t.runs (runs_of (changed_at i g ts)))

not-not : (b : Bool) → not (not b) ≡ b
not-not true = refl
not-not false = refl

above-is : (a n : ℕ) → not (leb a n) ≡ ltb n a
above-is a n = go (leb a n) refl
  where
    go : (b : Bool) → leb a n ≡ b → not b ≡ ltb n a
    go true e = let h = leb-true a n e in sym (le-ltb n a h)
    go false e = let h = leb-false a n e in sym (lt-ltb n a h)

-- what goes with a job that finishes
abbrev pub gone_runs : Job → List SourceId
gone_runs j = named j ++ (SortedRun j.destination ∷ [])

abbrev pub stays_for : Job → Run → Bool
stays_for j r = not (among (run_id r) (gone_runs j))

-- ---- the flags of the runs that stay when job j finishes, where tree i is its tree

module _ (t : LentTrees) (i : ℕ) (there : i < t.count) (good : good_trees (trees_of t) ≡ true) (d : Tree) (j : Job) (out : Run) (kept : List ℕ) (flags : RunFlags t i (stays_for j) kept) (have : runs_used t ≤ length kept) where
  abbrev x : Tree
  x = get_or (trees_of t) i d

  listed : i < length (trees_of t)
  listed = omega (arith, length-trees_of t)

  ids : map (λ r. r.id) (runs_of (trees_of t)) ≡ rows_from (λ k. get_or t.run_ids k 0) 0 (runs_used t)
  ids = ap (map (λ (r : Run). r.id)) (runs-first t) ∙ map-rows_from (λ (r : Run). r.id) (run_at t) 0 (runs_used t)

  long : length (map marked (take (runs_used t) kept)) ≡ runs_used t
  long = length-map (take (runs_used t) kept) marked ∙ length-take-le (runs_used t) kept have

  flag_at : (k : ℕ) → get_or (map marked (take (runs_used t) kept)) k false ≡ ltb k (runs_used t) && marked (get_or kept k 0)
  flag_at k = go (ltb k (runs_used t)) refl
    where
      go : (b : Bool) → ltb k (runs_used t) ≡ b → get_or (map marked (take (runs_used t) kept)) k false ≡ b && marked (get_or kept k 0)
      go true e = get_or-map marked (take (runs_used t) kept) k 0 ∙ ap marked (get_or-take (runs_used t) kept k 0 (ltb-true k (runs_used t) e))
      go false e = get_or-eq_default (map marked (take (runs_used t) kept)) false (omega (arith, long, ltb-false k (runs_used t) e))

  -- 13, as the code finds it
  pub misplaced-is : misplaced j out (trees_of t) x ≡ clash_in t.run_ids (runs_used t) kept out.id
  unfolding misplaced finish_tree
  misplaced-is =
      let ts = trees_of t in
      let n = out.id in
      let elsewhere = any (λ (y : Tree). not (eqb y.prefix x.prefix) && any (λ r. eqb r.id n) y.runs) ts in
      ap (λ (b : Bool). not b || elsewhere) (output-falls out (gone_runs j) x.runs (all-at (λ (y : Tree). falling_ids y.runs) d ts (rules ts good).falling i listed))
      ∙ ap (λ (b : Bool). b || elsewhere) (not-not (any (λ r. stays_for j r && eqb r.id n) x.runs))
      ∙ sym (by-trees n (stays_for j) i ts d listed (prefixes-once ts good))
      ∙ ap (λ (bs : List Bool). stays bs (map (λ r. r.id) (runs_of ts)) n) (sym flags)
      ∙ first-stays n (map marked (take (runs_used t) kept)) (map (λ r. r.id) (runs_of ts)) (long ∙ sym (length-map (runs_of ts) (λ r. r.id) ∙ length_runs t)) (rules ts good).numbers
      ∙ ap (λ (xs : List ℕ). get_or (map marked (take (runs_used t) kept)) (leading (λ x. not (eqb x n)) xs) false) ids
      ∙ flag_at (run_of t.run_ids (runs_used t) n)

  -- so many stay
  pub stay-count : (p : L0Row → Bool) → length (keep marked (take (runs_used t) kept)) ≡ length (runs_of (changed_at i (keep_rows p (stays_for j)) (trees_of t)))
  stay-count p =
      kept-many marked (λ b. b) (take (runs_used t) kept) (kept_in (λ x. x.runs) i (stays_for j) (trees_of t)) (flags ∙ sym (map_same (kept_in (λ x. x.runs) i (stays_for j) (trees_of t))))
      ∙ kept-count (stays_for j) (keep_rows p (stays_for j)) (λ x. refl) i (trees_of t)

  -- 14, as the code finds it
  pub too-many-is : too_many_runs j out (trees_of t) x ≡ leb max_runs (length (keep marked (take (runs_used t) kept)))
  unfolding too_many_runs finish_tree
  too-many-is =
      let every : L0Row → Bool = λ v. true in
      let ts = trees_of t in
      ap (λ (us : List Tree). ltb max_runs (length (runs_of us))) (in-tree i (finish_tree j out) ts d listed (prefixes-once ts good))
      ∙ ap (λ (m : ℕ). ltb max_runs m) (changed-more (finish_tree j out) (keep_rows every (stays_for j)) more i ts listed)
      ∙ leb-suc-suc max_runs (length (runs_of (changed_at i (keep_rows every (stays_for j)) ts)))
      ∙ ap (leb max_runs) (sym (stay-count every))
    where
      more : (y : Tree) → length (finish_tree j out y).runs ≡ suc (length (keep (stays_for j) y.runs))
      more y = output-more out (gone_runs j) y.runs

  -- the output's place among those that stay
  module _ {l c r m : ℕ} (at : Stands t.trees t.count i l c r m) where
    own : x.runs ≡ rows_from (run_at t) r m
    own = ap (λ (y : Tree). y.runs) (tree_is t i d there) ∙ ap₂ (λ (a b : ℕ). rows_from (run_at t) a b) (sym at.first_run) (sym at.runs)

    place : old_place t.run_ids r m out.id ≡ output_place out x.runs
    place =
        leading-same (λ (k : ℕ). not (leb k out.id)) (λ (y : Run). ltb out.id y.id) (λ k. get_or t.run_ids k 0) (run_at t) r r m (λ k h. above-is (get_or t.run_ids (r + k) 0) out.id)
        ∙ ap (output_place out) (sym own)

    pub place-count : length (keep marked (take (old_place t.run_ids r m out.id) (drop r kept))) ≡ length (runs_left (gone_runs j) (take (output_place out x.runs) x.runs))
    place-count =
        let n = old_place t.run_ids r m out.id in
        let mine : map marked (take m (drop r kept)) ≡ map (stays_for j) x.runs = flags-mine (λ (y : Tree). y.runs) (stays_for j) (trees_of t) i d listed (runs_used t) kept (sym (length_runs t)) have r m (runs-before t i (omega arith) ∙ sym at.first_run) (runs_of_lem t i d there ∙ sym at.runs) flags in
        kept-many marked (stays_for j) (take n (drop r kept)) (take n x.runs)
        (ap (map marked) (sym (take-take n m (drop r kept) (old-within t.run_ids r m out.id refl)))
        ∙ map-take marked n (take m (drop r kept))
        ∙ ap (take n) mine
        ∙ sym (map-take (stays_for j) n x.runs))
        ∙ ap (λ (k : ℕ). length (runs_left (gone_runs j) (take k x.runs))) place
