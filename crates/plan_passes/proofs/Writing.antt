-- Numbers written into a slice (`Written`), one row after another, and sources into three (`SourcesWritten`).
use Prim.Native.Nat.{ℕ, suc, ◌+◌, ◌*◌, ◌≤◌}
use mathlib.Core.Path.{◌≡◌, refl, sym, ap, ◌∙◌}
use mathlib.Core.List.{List, [], ◌∷◌, ◌++◌, map-append, append_assoc, append-nil}
use native.Mathlib.Nat.{add-zero, zero-add}
use native.Mathlib.Omega.{arith}
use lib.ListN.{length, take, drop, set, length-append, length-drop, length-map, take-append-drop}
use lib.Seq.{sets, sets-eq, length-take-le, take_at, drop_at, drop-drop}
use Rattle.rules.specs.Lists.{concat_map}
use Rattle.rules.specs.declared.tables.SourceId.{SourceId}
use Rattle.rules.specs.declared.tables.SourceId.TheVariants.{SortedRun, SstView}
use Rattle.rules.specs.Lent.{laid}
use Rattle.rules.specs.Planning.{LentPlan, mark_of, run_of, view_words}
use Rattle.rules.proofs.Rows.{length-words, concat_map-append}
use Rattle.rows.proofs.Laying.{grown}
use Rattle.plan_passes.specs.Lay.{Written, Room, SourcesWritten, SourcesLaid}

-- nothing yet
pub written_none : (s : List ℕ) (at : ℕ) → at ≤ length s → Written s at [] s
written_none s at h = record {
  room = omega arith;
  is = sym (rw (add-zero, append-nil) (take-append-drop at s));
}

-- one row, by a store for each of its numbers
pub written_row : (s : List ℕ) (at : ℕ) (row : List ℕ) → at + length row ≤ length s → Written s at row (sets s at row)
written_row s at row h = record { room = h; is = sets-eq row s at h }

module _ {s : List ℕ} {at : ℕ} {new s₁ : List ℕ} (e : Written s at new s₁) where
  -- up to the end of what was written
  front : length (take at s ++ new) ≡ at + length new
  front = omega (arith, length-append (take at s) new, length-take-le at s (omega (arith, e.room)))

  -- the slice keeps its length
  pub written-kept : length s₁ ≡ length s
  written-kept =
      ap length e.is
      ∙ omega (arith, length-append (take at s ++ new) (drop (at + length new) s), front, length-drop (at + length new) s, e.room)

  -- more behind it
  pub written-more : {at₁ : ℕ} {more s₂ : List ℕ} → at₁ ≡ at + length new → Written s₁ at₁ more s₂ → Written s at (new ++ more) s₂
  written-more {at₁} {more} p g =
      let both : at + length (new ++ more) ≡ at + length new + length more = omega (arith, length-append new more) in
      let before : take at₁ s₁ ≡ take at s ++ new = ap (take at₁) e.is ∙ take_at (take at s ++ new) (drop (at + length new) s) at₁ (front ∙ sym p) in
      let behind : drop (at₁ + length more) s₁ ≡ drop (at + length new + length more) s =
      sym (drop-drop (length more) at₁ s₁)
      ∙ ap (λ (r : List ℕ). drop (length more) (drop at₁ r)) e.is
      ∙ ap (drop (length more)) (drop_at (take at s ++ new) (drop (at + length new) s) at₁ (front ∙ sym p))
      ∙ drop-drop (length more) (at + length new) s in
      record {
        room = omega (arith, both, g.room, written-kept);
        is = g.is ∙ rw (before, behind, both, append_assoc (take at s) new more);
      }

-- from the front on, as `laid` has it
pub written-laid : {s new s₁ : List ℕ} → Written s 0 new s₁ → s₁ ≡ laid 0 new s
written-laid {s} {new} e = e.is ∙ rw zero-add (sym (grown 0 0 new s (omega arith)))

-- ---- sources

-- less room than there is
pub room-less : {n k : ℕ} {p : LentPlan} → k ≤ n → Room n p → Room k p
room-less h r = record {
  of_marks = omega (arith, r.of_marks);
  of_runs = omega (arith, r.of_runs);
  of_views = omega (arith, r.of_views);
}

-- two words a view
view-width : (x : SourceId) → length (view_words x) ≡ 2
view-width (SortedRun r) = refl
view-width (SstView v) = refl

length-views : (ss : List SourceId) → length (concat_map view_words ss) ≡ 2 * length ss
length-views ss = length-words view_words 2 view-width ss

module _ {p : LentPlan} {at : ℕ} where
  -- nothing yet
  pub sources-none : Room at p → SourcesWritten p at [] p
  unfolding concat_map
  sources-none r = record {
    of_specs = refl;
    of_marks = written_none p.marks at r.of_marks;
    of_runs = written_none p.runs at r.of_runs;
    of_views = written_none p.views (2 * at) r.of_views;
  }

  -- one source, whose view's words are h and l, by a store for each number
  pub source-put : (x : SourceId) {h l : ℕ} → view_words x ≡ h ∷ l ∷ [] → Room (at + 1) p
      → SourcesWritten p at (x ∷ []) (record { specs = p.specs; marks = set p.marks at (mark_of x); runs = set p.runs at (run_of x); views = set (set p.views (2 * at) h) (2 * at + 1) l })
  unfolding concat_map
  source-put x {h} {l} e r =
      let next : 2 * at + 1 ≡ suc (2 * at) = omega arith in
      record {
        of_specs = refl;
        of_marks = written_row p.marks at (mark_of x ∷ []) r.of_marks;
        of_runs = written_row p.runs at (run_of x ∷ []) r.of_runs;
        of_views = rw (e, next) (written_row p.views (2 * at) (h ∷ l ∷ []) (omega (arith, r.of_views)));
      }

  module _ {ss : List SourceId} {q : LentPlan} (e : SourcesWritten p at ss q) where
    -- the slices keep their lengths, and so the room that they have
    pub room-kept : {n : ℕ} → Room n p → Room n q
    room-kept r = record {
      of_marks = omega (arith, r.of_marks, written-kept e.of_marks);
      of_runs = omega (arith, r.of_runs, written-kept e.of_runs);
      of_views = omega (arith, r.of_views, written-kept e.of_views);
    }

    -- more behind them
    pub sources-more : {at₁ : ℕ} {more : List SourceId} {q₁ : LentPlan} → at₁ ≡ at + length ss → SourcesWritten q at₁ more q₁ → SourcesWritten p at (ss ++ more) q₁
    sources-more {more = more} s g = record {
      of_specs = g.of_specs ∙ e.of_specs;
      of_marks = rw map-append (written-more e.of_marks (omega (arith, s, length-map ss mark_of)) g.of_marks);
      of_runs = rw map-append (written-more e.of_runs (omega (arith, s, length-map ss run_of)) g.of_runs);
      of_views = rw (concat_map-append view_words ss more) (written-more e.of_views (omega (arith, s, length-views ss)) g.of_views);
    }

-- from the front on, as `lay_plan` has them
pub sources-laid : {p q : LentPlan} {ss : List SourceId} → SourcesWritten p 0 ss q → SourcesLaid p ss q
sources-laid e = record {
  of_specs = e.of_specs;
  of_marks = written-laid e.of_marks;
  of_runs = written-laid e.of_runs;
  of_views = written-laid e.of_views;
}
