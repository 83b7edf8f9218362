-- What laying a plan writes: numbers into one slice, sources into three.
use Rattle.std.specs.Prelude.{ℕ, ◌+◌, ◌*◌, ◌≤◌, ◌≡◌, List, ◌++◌, map, length, take, drop}
use Rattle.rules.specs.Lists.{concat_map}
use Rattle.rules.specs.declared.tables.SourceId.{SourceId}
use Rattle.rules.specs.Lent.{laid}
use Rattle.rules.specs.Pick.{Spec}
use Rattle.rules.specs.Planning.{LentPlan, spec_words, mark_of, run_of, view_words}
use Rattle.plan_passes.specs.declared.lay.PlanTable.{PlanTable}

-- the lent plan, as the code hands it about, is that of the definitions
abbrev pub plan_in : PlanTable → LentPlan
plan_in p = record { specs = p.specs.now; marks = p.marks.now; runs = p.runs.now; views = p.views.now }

-- b is the table whose slices a was lent
pub record SameTable (a b : PlanTable) : Type 0 where
  pub specs : b.specs.ghost_name ≡ a.specs.ghost_name
  pub marks : b.marks.ghost_name ≡ a.marks.ghost_name
  pub runs : b.runs.ghost_name ≡ a.runs.ghost_name
  pub views : b.views.ghost_name ≡ a.views.ghost_name

-- each slice is as long as it was
pub record SameLengths (a b : PlanTable) : Type 0 where
  pub specs : length b.specs.now ≡ length a.specs.now
  pub marks : length b.marks.now ≡ length a.marks.now
  pub runs : length b.runs.now ≡ length a.runs.now
  pub views : length b.views.now ≡ length a.views.now

-- `new` stands from number `at` on, and all else is as it was
pub record Written (before : List ℕ) (at : ℕ) (new after : List ℕ) : Type 0 where
  pub room : at + length new ≤ length before
  pub is : after ≡ take at before ++ new ++ drop (at + length new) before

-- places for n sources: a mark, a run and the two words of a view each
pub record Room (n : ℕ) (p : LentPlan) : Type 0 where
  pub of_marks : n ≤ length p.marks
  pub of_runs : n ≤ length p.runs
  pub of_views : 2 * n ≤ length p.views

-- the sources stand from place `at` on
pub record SourcesWritten (p : LentPlan) (at : ℕ) (ss : List SourceId) (q : LentPlan) : Type 0 where
  pub of_specs : q.specs ≡ p.specs
  pub of_marks : Written p.marks at (map mark_of ss) q.marks
  pub of_runs : Written p.runs at (map run_of ss) q.runs
  pub of_views : Written p.views (2 * at) (concat_map view_words ss) q.views

-- ---- a plan, as `lay_plan` has it: "Places of the plan beyond the answer keep their bytes."

-- its specs
pub record SpecsLaid (p : LentPlan) (specs : List Spec) (q : LentPlan) : Type 0 where
  pub of_specs : q.specs ≡ laid 0 (concat_map spec_words specs) p.specs
  pub of_marks : q.marks ≡ p.marks
  pub of_runs : q.runs ≡ p.runs
  pub of_views : q.views ≡ p.views

-- their sources
pub record SourcesLaid (p : LentPlan) (ss : List SourceId) (q : LentPlan) : Type 0 where
  pub of_specs : q.specs ≡ p.specs
  pub of_marks : q.marks ≡ laid 0 (map mark_of ss) p.marks
  pub of_runs : q.runs ≡ laid 0 (map run_of ss) p.runs
  pub of_views : q.views ≡ laid 0 (concat_map view_words ss) p.views
