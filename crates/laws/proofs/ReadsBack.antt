-- A plan reads back: spec i lies behind i others, and its sources behind theirs.
use Prim.Native.Nat.{ℕ, ◌+◌, ◌-◌, ◌*◌, ◌≤◌, ◌<◌, max}
use mathlib.Core.Path.{◌≡◌, refl, sym, ap, ap₂, ◌∙◌}
use mathlib.Core.List.{List, [], ◌∷◌, ◌++◌, map, map-append, append-nil, append_assoc}
use native.Mathlib.Nat.{div-mul-le_self}
use native.Mathlib.Omega.{arith}
use lib.Dec.{lit<}
use lib.ListN.{length, get_or, take, drop, length-append, length-map, get_or-map}
use lib.Seq.{take_at, drop_at, get_or-append_seam}
use Rattle.rules.specs.Lists.{concat_map}
use Rattle.rules.specs.declared.tables.SourceId.{SourceId}
use Rattle.rules.specs.declared.tables.Source.{Source}
use Rattle.rules.specs.declared.tables.SourceId.TheVariants.{SortedRun, SstView}
use Rattle.rules.specs.Tables.{id_of}
use Rattle.rules.specs.Lent.{ulid_at, source_at, laid, laid_with}
use Rattle.rules.specs.Pick.{Spec}
use Rattle.rules.specs.Planning.{LentPlan, spec_places, source_places, mark_of, run_of, view_words, spec_words, spec_sources, lay_plan}
use Rattle.rules.specs.Validation.{lent_spec, lent_sources}
use Rattle.rules.proofs.Laid.{length-laid}
use Rattle.rules.proofs.Records.{source-eq}
use Rattle.rules.proofs.ReadBack.{number, ulid, more}
use Rattle.rules.proofs.Rows.{rows_are, map-rows_from, length-words, concat_map-append}
use Rattle.laws.specs.ReadsBack.{sources_in, specs_from, specs_in, spec_of, spec_lent, ReadsBack, KeepsLengths}

-- ---- one spec, lent by itself

-- an id as a source entry, with zeros in its idle parts
abbrev entry_of : SourceId → Source
entry_of x = record { mark = mark_of x; run = run_of x; view = ulid_at (view_words x) 0 }

-- each view takes two words
pub two-words : (x : SourceId) → length (view_words x) ≡ 2
two-words (SortedRun r) = refl
two-words (SstView v) = refl

entry-id : (x : SourceId) → id_of (entry_of x) ≡ x
entry-id (SortedRun r) = refl
entry-id (SstView v) = refl

-- an id, for want of one
abbrev pub no_id : SourceId
no_id = SstView (record { high = 0; low = 0 })

-- entry i of the slices is that of source i
pub entry_at : (xs : List SourceId) (i : ℕ) → i < length xs
    → source_at (map mark_of xs) (map run_of xs) (concat_map view_words xs) i ≡ entry_of (get_or xs i no_id)
entry_at xs i h =
    source-eq (get_or-map mark_of xs i no_id) (get_or-map run_of xs i no_id)
    (ap (λ (s : List ℕ). ulid_at s (2 * i)) (sym (append-nil (concat_map view_words xs))) ∙ ulid view_words 2 two-words xs [] no_id i h (2 * i) 0 (lit< tt) (omega arith))

-- so its ids are its sources
pub ids-back : (xs : List SourceId) → map id_of (lent_sources (map mark_of xs) (map run_of xs) (concat_map view_words xs)) ≡ xs
ids-back xs =
    let entry = source_at (map mark_of xs) (map run_of xs) (concat_map view_words xs) in
    rw (length-map xs mark_of, map-rows_from id_of entry 0 (length xs))
    (rows_are (λ k. id_of (entry k)) no_id 0 xs (λ k h. ap (λ (n : ℕ). id_of (entry n)) (omega arith) ∙ ap id_of (entry_at xs k h) ∙ entry-id (get_or xs k no_id)))

spec-back : (ss : List Spec) → map spec_of (map spec_lent ss) ≡ ss
spec-back [] = refl
spec-back (s ∷ ss) =
    ap₂ ◌∷◌ (ap (λ (xs : List SourceId). record { prefix = s.prefix; sources = xs; destination = s.destination }) (ids-back s.sources)) (spec-back ss)

-- ---- its place in the plan

-- lent specs of the same parts
lent-eq : {a b d f : ℕ} {m n r s v w : List ℕ} → a ≡ b → d ≡ f → m ≡ n → r ≡ s → v ≡ w
    → lent_spec 0 a d m r v ≡ lent_spec 0 b f n s w
lent-eq a d m r v = λ i. lent_spec 0 (a i) (d i) (m i) (r i) (v i)

-- a part of a slice
cut : (a b c : List ℕ) (n m : ℕ) → length a ≡ n → length b ≡ m → take m (drop n (a ++ (b ++ c))) ≡ b
cut a b c n m e f = rw (drop_at a (b ++ c) n e) (take_at b c m f)

module _ (p : LentPlan) (ss : List Spec) where
  -- a spec, for want of one
  abbrev no_spec : Spec
  no_spec = record { prefix = 0; sources = []; destination = 0 }

  -- number k of spec i
  number_is : (i at k : ℕ) → i < length ss → k < 3 → at ≡ 3 * i + k
      → get_or (lay_plan p ss).specs at 0 ≡ get_or (spec_words (get_or ss i no_spec)) k 0
  unfolding lay_plan laid_with
  number_is i at k h l e = number spec_words 3 (λ s. refl) ss _ no_spec i h at k l e

  -- the sources of spec x, behind those of the specs `pre`
  sources-split : (pre : List Spec) (x : Spec) (now : List Spec) → pre ++ x ∷ now ≡ ss
      → spec_sources ss ≡ spec_sources pre ++ (x.sources ++ spec_sources now)
  unfolding concat_map
  sources-split pre x now e = ap spec_sources (sym e) ∙ concat_map-append (λ (s : Spec). s.sources) pre (x ∷ now)

  module _ (pre : List Spec) (x : Spec) (now : List Spec) (e : pre ++ x ∷ now ≡ ss) where
    -- in a slice with a number for each
    column : (f : SourceId → ℕ) (s : List ℕ)
        → take (length x.sources) (drop (length (spec_sources pre)) (laid 0 (map f (spec_sources ss)) s)) ≡ map f x.sources
    unfolding laid_with
    column f s =
        rw (sources-split pre x now e, map-append f (spec_sources pre) (x.sources ++ spec_sources now), map-append f x.sources (spec_sources now), append_assoc (map f (spec_sources pre)), append_assoc (map f x.sources))
        (cut (map f (spec_sources pre)) (map f x.sources) _ _ _ (length-map (spec_sources pre) f) (length-map x.sources f))

    -- in the slice with two
    views-part : (s : List ℕ)
        → take (2 * length x.sources) (drop (2 * length (spec_sources pre)) (laid 0 (concat_map view_words (spec_sources ss)) s)) ≡ concat_map view_words x.sources
    unfolding laid_with
    views-part s =
        rw (sources-split pre x now e, concat_map-append view_words (spec_sources pre) (x.sources ++ spec_sources now), concat_map-append view_words x.sources (spec_sources now), append_assoc (concat_map view_words (spec_sources pre)), append_assoc (concat_map view_words x.sources))
        (cut (concat_map view_words (spec_sources pre)) (concat_map view_words x.sources) _ _ _ (length-words view_words 2 two-words (spec_sources pre)) (length-words view_words 2 two-words x.sources))

    -- as the plan's slices
    parts :
        (take (length x.sources) (drop (length (spec_sources pre)) (lay_plan p ss).marks) ≡ map mark_of x.sources)
        × (take (length x.sources) (drop (length (spec_sources pre)) (lay_plan p ss).runs) ≡ map run_of x.sources)
        × (take (2 * length x.sources) (drop (2 * length (spec_sources pre)) (lay_plan p ss).views) ≡ concat_map view_words x.sources)
    unfolding lay_plan
    parts = (column mark_of p.marks, column run_of p.runs, views-part p.views)

  -- the specs `now` behind the specs `pre`
  specs-from : (pre now : List Spec) → pre ++ now ≡ ss
      → specs_from (lay_plan p ss) (length pre) (length (spec_sources pre)) (length now) ≡ map spec_lent now
  unfolding specs_from
  specs-from pre [] e = refl
  specs-from pre (x ∷ now) e =
      let i = length pre in
      let lt : i < length ss = omega (arith, simp length-append at (ap length e)) in
      let here : get_or ss i no_spec ≡ x = ap (λ (l : List Spec). get_or l i no_spec) (sym e) ∙ get_or-append_seam pre x now no_spec in
      let many : sources_in (lay_plan p ss) i ≡ length x.sources = number_is i (3 * i + 2) 2 lt (lit< tt) refl ∙ ap (λ (s : Spec). length s.sources) here in
      let cuts = parts pre x now e in
      rw many
      (ap₂ ◌∷◌
      (lent-eq
      (number_is i (3 * i) 0 lt (lit< tt) (omega arith) ∙ ap (λ (s : Spec). s.prefix) here)
      (number_is i (3 * i + 1) 1 lt (lit< tt) refl ∙ ap (λ (s : Spec). s.destination) here)
      cuts.0 cuts.1 cuts.2)
      (rw (length-append pre (x ∷ []), more (λ (s : Spec). s.sources) pre x) at (specs-from (pre ++ (x ∷ [])) now (append_assoc pre (x ∷ []) now ∙ e))))

  -- a slice beyond what was laid
  beyond : (new s : List ℕ) (n : ℕ) → length new ≡ n → drop n (laid 0 new s) ≡ drop n s
  unfolding laid_with
  beyond new s n e =
      let none : 0 - length new ≡ 0 = omega arith in
      let far : max 0 (length new) ≡ n = omega arith in
      rw (none, far) (drop_at new (drop n s) n e)

  pub reads-back : ReadsBack p ss
  unfolding lay_plan concat_map
  reads-back =
      let lent : specs_in (lay_plan p ss) (length ss) ≡ map spec_lent ss = specs-from [] ss refl in
      record {
        specs = ap (map spec_of) lent ∙ spec-back ss;
        zeros = lent;
        beyond_specs = beyond (concat_map spec_words ss) p.specs (3 * length ss) (length-words spec_words 3 (λ s. refl) ss);
        beyond_marks = beyond (map mark_of (spec_sources ss)) p.marks (length (spec_sources ss)) (length-map (spec_sources ss) mark_of);
        beyond_runs = beyond (map run_of (spec_sources ss)) p.runs (length (spec_sources ss)) (length-map (spec_sources ss) run_of);
        beyond_views = beyond (concat_map view_words (spec_sources ss)) p.views (2 * length (spec_sources ss)) (length-words view_words 2 two-words (spec_sources ss));
      }

  -- and keeps its lengths
  pub keeps-lengths : length ss ≤ spec_places p → length (spec_sources ss) ≤ source_places p → KeepsLengths p ss
  unfolding lay_plan
  keeps-lengths h k =
      let third = div-mul-le_self (length p.specs) 3 in
      let half = div-mul-le_self (length p.views) 2 in
      let numbers = length-words spec_words 3 (λ s. refl) ss in
      let words = length-words view_words 2 two-words (spec_sources ss) in
      record {
        specs = length-laid 0 (concat_map spec_words ss) p.specs (omega arith) (omega arith);
        marks = length-laid 0 (map mark_of (spec_sources ss)) p.marks (omega arith) (rw (length-map (spec_sources ss) mark_of) (omega arith));
        runs = length-laid 0 (map run_of (spec_sources ss)) p.runs (omega arith) (rw (length-map (spec_sources ss) run_of) (omega arith));
        views = length-laid 0 (concat_map view_words (spec_sources ss)) p.views (omega arith) (omega arith);
      }
