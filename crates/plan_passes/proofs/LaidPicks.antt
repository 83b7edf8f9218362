-- The loops that lay a plan: the sources of a pick, those of all picks, and the specs.
use Prim.Native.Nat.{ℕ, suc, ◌+◌, ◌-◌, ◌*◌, ◌≤◌, ◌<◌}
use mathlib.Core.Path.{◌≡◌, refl, ap, ◌∙◌}
use mathlib.Core.List.{List, [], ◌∷◌, ◌++◌, map-append, append-nil}
use native.Mathlib.Omega.{arith}
use lib.ListN.{length, get_or, set, take, drop, length-append, length-map}
use lib.Seq.{length-take-le, take-add, take_all}
use Rattle.std.proofs.lemmas.List.{map_more}
use Rattle.rules.specs.Lists.{concat_map}
use Rattle.rules.specs.declared.tables.SourceId.{SourceId}
use Rattle.rules.specs.Lent.{LentTrees, rows_from}
use Rattle.rules.specs.Pick.{Spec}
use Rattle.rules.specs.Planning.{LentPlan, spec_words, spec_sources}
use Rattle.rules.proofs.Rows.{length-rows_from, rows_from-append, length-words, concat_map-append}
use Rattle.plan_passes.specs.declared.picks.PickRow.{PickRow}
use Rattle.plan_passes.specs.Picks.{source_in, spec_of, specs_of}
use Rattle.plan_passes.specs.Lay.{Written, Room, SpecsLaid, SourcesWritten, SourcesLaid}
use Rattle.plan_passes.proofs.Writing.{written_none, written_row, written-kept, written-more, written-laid, room-less, sources-none, room-kept, sources-more, sources-laid}

-- ---- the sources of a pick

-- k of the `count` sources from row `from` on stand from place `at` on
pub record LayingRows (f : ℕ → SourceId) (p : LentPlan) (at from count k : ℕ) (q : LentPlan) : Type 0 where
  pub within : k ≤ count
  pub rows : SourcesWritten p at (rows_from f from k) q

module _ {f : ℕ → SourceId} {p : LentPlan} {at from count : ℕ} where
  pub laying-starts : Room (at + count) p → LayingRows f p at from count 0 p
  unfolding rows_from
  laying-starts r = record { within = omega arith; rows = sources-none (room-less (omega arith) r) }

  module _ {k : ℕ} {q : LentPlan} (a : LayingRows f p at from count k q) where
    -- there is a place for one more
    pub laying-room : Room (at + count) p → k < count → Room (at + k + 1) q
    laying-room r h = room-kept a.rows (room-less (omega arith) r)

    -- row from + k is laid
    pub laying-next : k < count → {q' : LentPlan} → SourcesWritten q (at + k) (f (from + k) ∷ []) q' → LayingRows f p at from count (k + 1) q'
    unfolding rows_from
    laying-next h e = record {
      within = omega arith;
      rows = rw (rows_from-append f from k 1) (sources-more a.rows (omega (arith, length-rows_from f from k)) e);
    }

    -- all are laid
    pub laying-ends : count ≤ k → SourcesWritten p at (rows_from f from count) q
    laying-ends h =
        let all : k ≡ count = omega (arith, a.within) in
        rw all at a.rows

-- ---- the sources of all picks

module _ (t : LentTrees) (picks : List PickRow) where
  -- the sources of the picks before pick k
  abbrev sources_to : ℕ → List SourceId
  sources_to k = spec_sources (specs_of t (take k picks))

  sources_next : (k : ℕ) (d : PickRow) → k < length picks → sources_to (k + 1) ≡ sources_to k ++ (spec_of t (get_or picks k d)).sources
  unfolding concat_map
  sources_next k d h =
      ap (λ (ss : List Spec). spec_sources ss) (map_more (spec_of t) picks k d h)
      ∙ concat_map-append (λ s. s.sources) (specs_of t (take k picks)) (spec_of t (get_or picks k d) ∷ [])
      ∙ rw append-nil

  -- as many sources as the row says
  length-sources : (x : PickRow) → length (spec_of t x).sources ≡ x.count
  length-sources x = length-rows_from (source_in t x.kind) x.from x.count

  -- those up to and with pick k
  length-next : (k : ℕ) (d : PickRow) → k < length picks → length (sources_to (k + 1)) ≡ length (sources_to k) + (get_or picks k d).count
  length-next k d h = omega (arith, ap length (sources_next k d h), length-append (sources_to k) (spec_of t (get_or picks k d)).sources, length-sources (get_or picks k d))

  -- those behind pick k make no fewer
  sources-upto : (k n : ℕ) → k + n ≤ length picks → length (sources_to k) ≤ length (sources_to (k + n))
  sources-upto k n h =
      let split : take (k + n) picks ≡ take k picks ++ take n (drop k picks) = take-add k n picks in
      omega (arith, ap (λ (ps : List PickRow). length (spec_sources (specs_of t ps))) split ∙ rw (map-append (spec_of t) (take k picks) (take n (drop k picks))) (ap length (concat_map-append (λ s. s.sources) (specs_of t (take k picks)) (specs_of t (take n (drop k picks))))) ∙ length-append (sources_to k) (spec_sources (specs_of t (take n (drop k picks)))))

  sources_all : sources_to (length picks) ≡ spec_sources (specs_of t picks)
  sources_all = ap (λ (ps : List PickRow). spec_sources (specs_of t ps)) (take_all (length picks) picks (omega arith))

-- the sources of k picks are laid, and `at` is the place behind them
pub record LayingPicks (t : LentTrees) (picks : List PickRow) (p : LentPlan) (at k : ℕ) (q : LentPlan) : Type 0 where
  pub within : k ≤ length picks
  pub place : at ≡ length (spec_sources (specs_of t (take k picks)))
  pub rows : SourcesWritten p 0 (spec_sources (specs_of t (take k picks))) q

module _ {t : LentTrees} {picks : List PickRow} {p : LentPlan} where
  pub picks-starts : Room (length (spec_sources (specs_of t picks))) p → LayingPicks t picks p 0 0 p
  unfolding concat_map
  picks-starts r = record { within = omega arith; place = refl; rows = sources-none (room-less (omega arith) r) }

  module _ {at k : ℕ} {q : LentPlan} (a : LayingPicks t picks p at k q) (d : PickRow) (h : k < length picks) where
    -- there are places for the sources of pick k
    pub picks-room : Room (length (spec_sources (specs_of t picks))) p → Room (at + (get_or picks k d).count) q
    picks-room r =
        let rest : k + 1 + (length picks - (k + 1)) ≡ length picks = omega arith in
        room-kept a.rows (room-less (omega (arith, a.place, length-next t picks k d h, rw rest at (sources-upto t picks (k + 1) (length picks - (k + 1)) (omega arith)), ap length (sources_all t picks))) r)

    -- pick k is laid
    pub picks-next : {at' : ℕ} {q' : LentPlan} → at' ≡ at + (get_or picks k d).count → SourcesWritten q at (spec_of t (get_or picks k d)).sources q' → LayingPicks t picks p at' (k + 1) q'
    picks-next s e = record {
      within = omega arith;
      place = omega (arith, s, a.place, length-next t picks k d h);
      rows = rw (sources_next t picks k d h) (sources-more a.rows (omega (arith, a.place)) e);
    }

  -- all are laid
  pub picks-ends : {at k : ℕ} {q : LentPlan} → LayingPicks t picks p at k q → length picks ≤ k → SourcesLaid p (spec_sources (specs_of t picks)) q
  picks-ends {k = k} a h = rw (take_all k picks h) at (sources-laid a.rows)

-- ---- the specs

-- k specs are laid
pub record LayingSpecs (picks : List PickRow) (p : LentPlan) (k : ℕ) (q : LentPlan) : Type 0 where
  pub within : k ≤ length picks
  pub kept : length q.specs ≡ length p.specs
  pub of_marks : q.marks ≡ p.marks
  pub of_runs : q.runs ≡ p.runs
  pub of_views : q.views ≡ p.views
  pub rows : (t : LentTrees) → Written p.specs 0 (concat_map spec_words (specs_of t (take k picks))) q.specs

module _ {picks : List PickRow} {p : LentPlan} where
  pub specs-starts : LayingSpecs picks p 0 p
  unfolding concat_map
  specs-starts = record { within = omega arith; kept = refl; of_marks = refl; of_runs = refl; of_views = refl; rows = λ t. written_none p.specs 0 (omega arith) }

  module _ {k : ℕ} {q : LentPlan} (a : LayingSpecs picks p k q) where
    -- spec k, by a store for each of its numbers
    pub specs-next : (d : PickRow) → k < length picks → 3 * length picks ≤ length p.specs
        → LayingSpecs picks p (k + 1) (record { specs = set (set (set q.specs (3 * k) (get_or picks k d).prefix) (3 * k + 1) (get_or picks k d).destination) (3 * k + 2) (get_or picks k d).count; marks = q.marks; runs = q.runs; views = q.views })
    unfolding concat_map
    specs-next d h r =
        let x : PickRow = get_or picks k d in
        let one : 3 * k + 1 ≡ suc (3 * k) = omega arith in
        let two : 3 * k + 2 ≡ suc (suc (3 * k)) = omega arith in
        let row : List ℕ = x.prefix ∷ x.destination ∷ x.count ∷ [] in
        let put : Written q.specs (3 * k) row (set (set (set q.specs (3 * k) x.prefix) (3 * k + 1) x.destination) (3 * k + 2) x.count) = rw (two, one) (written_row q.specs (3 * k) row (omega (arith, a.kept))) in
        record {
          within = omega arith;
          kept = written-kept put ∙ a.kept;
          of_marks = a.of_marks;
          of_runs = a.of_runs;
          of_views = a.of_views;
          rows = λ t.
              let words : concat_map spec_words (specs_of t (take (k + 1) picks)) ≡ concat_map spec_words (specs_of t (take k picks)) ++ row =
              ap (concat_map spec_words) (map_more (spec_of t) picks k d h)
              ∙ concat_map-append spec_words (specs_of t (take k picks)) (spec_of t x ∷ [])
              ∙ ap (λ (n : ℕ). concat_map spec_words (specs_of t (take k picks)) ++ (x.prefix ∷ x.destination ∷ n ∷ [])) (length-sources t picks x) in
              let many : length (concat_map spec_words (specs_of t (take k picks))) ≡ 3 * k = length-words spec_words 3 (λ s. refl) (specs_of t (take k picks)) ∙ ap (λ (n : ℕ). 3 * n) (length-map (take k picks) (spec_of t) ∙ length-take-le k picks (omega arith)) in
              rw words (written-more (a.rows t) (omega (arith, many)) put);
        }

    -- all are laid
    pub specs-ends : length picks ≤ k → (t : LentTrees) → SpecsLaid p (specs_of t picks) q
    specs-ends h t = record { of_specs = rw (take_all k picks h) at (written-laid (a.rows t)); of_marks = a.of_marks; of_runs = a.of_runs; of_views = a.of_views }
