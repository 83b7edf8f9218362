-- The lent plan after a call: it reads back, and a spec that validation accepts it accepts as it lies there.
use Prim.Native.Nat.{ℕ, zero, suc, ◌+◌, ◌*◌}
use mathlib.Core.Path.{◌≡◌, refl, sym, ap, ◌∙◌, subst}
use mathlib.Core.List.Memᴰ
use mathlib.Core.List.{List, map, Memᴰ}
use mathlib.Core.Bool.{true, false}
use lib.ListN.{length, get_or, length-map, get_or-map}
use borrow.Author.Tests.{eq-eqb}
use Rattle.rules.specs.declared.Options.{Options}
use Rattle.rules.specs.Answers.ValidateAnswer.{Accepted}
use Rattle.rules.specs.Lists.{all, concat_map}
use Rattle.rules.specs.declared.tables.SourceId.{SourceId}
use Rattle.rules.specs.declared.tables.SourceId.TheVariants.{SortedRun, SstView}
use Rattle.rules.specs.Lent.{LentTrees, LentJobs, rows_from, source_at, trees_of, jobs_of}
use Rattle.rules.specs.Bounds.{trees_outside, trees_misshapen, is_mark, good_sources}
use Rattle.rules.specs.Limit.{limit_of}
use Rattle.rules.specs.Pick.{Spec}
use Rattle.rules.specs.Planning.{LentPlan, plan_refusal, mark_of, run_of, view_words, lay_plan}
use Rattle.rules.specs.Validation.{LentSpec, spec_misshapen, tree_with, tiered_refusal, validate_refusal}
use Rattle.rules.specs.Calls.{plan_call, validate_call}
use Rattle.rules.proofs.Rows.{length-words}
use Rattle.laws.specs.ReadsBack.{specs_in, spec_of, spec_lent}
use Rattle.laws.specs.PlanCall.{plan_of}
use Rattle.laws.specs.PlanLaid.{PlanLaid}
use Rattle.laws.proofs.ReadsBack.{two-words, no_id, ids-back, reads-back, keeps-lengths}
use Rattle.laws.proofs.Validates.{validates}
use Rattle.laws.proofs.PlanCall.{accepted-good, has-places}

-- ---- a spec as a call lays it is well lent

-- its marks are marks
a-mark : (x : SourceId) → is_mark (mark_of x) ≡ true
a-mark (SortedRun r) = refl
a-mark (SstView v) = refl

marks-good : (xs : List SourceId) (runs views : List ℕ) (i n : ℕ)
    → all (λ s. is_mark s.mark) (rows_from (source_at (map mark_of xs) runs views) i n) ≡ true
unfolding all rows_from
marks-good xs runs views i zero = refl
marks-good xs runs views i (suc n) = rw (get_or-map mark_of xs i no_id, a-mark (get_or xs i no_id)) (marks-good xs runs views (i + 1) n)

well-lent : (s : Spec) → spec_misshapen (spec_lent s) ≡ false
unfolding spec_misshapen good_sources
well-lent s =
    let xs = s.sources in
    let runs = eq-eqb (length (map run_of xs)) (length (map mark_of xs)) (length-map xs run_of ∙ sym (length-map xs mark_of)) in
    let views = eq-eqb (length (concat_map view_words xs)) _ (length-words view_words 2 two-words xs ∙ ap (λ (n : ℕ). 2 * n) (sym (length-map xs mark_of))) in
    rw (runs, views, marks-good xs (map run_of xs) (concat_map view_words xs) 0 (length (map mark_of xs)))

-- so that it is accepted where it is accepted on the list of trees
accepted-lent : (t : LentTrees) (s : Spec) → trees_outside t ≡ false → trees_misshapen t ≡ false
    → tiered_refusal s.sources s.destination (tree_with s.prefix (trees_of t)) ≡ 0
    → validate_call t (spec_lent s) ≡ Accepted
unfolding validate_call validate_refusal
accepted-lent t s inside shapely h = rw (inside, shapely, well-lent s, ids-back s.sources, h)

module _ (o : Options) (t : LentTrees) (j : LentJobs) (p : LentPlan) (h : plan_refusal o t j p ≡ 0) where
  abbrev specs : List Spec
  specs = (plan_of o t j).specs

  -- a call that is not refused lays its plan
  lays : (plan_call o t j p).plan ≡ lay_plan p specs
  unfolding plan_call
  lays = rw h

  -- the specs as they lie there
  as_lent : specs_in (plan_call o t j p).plan (length specs) ≡ map spec_lent specs
  as_lent = ap (λ (q : LentPlan). specs_in q (length specs)) lays ∙ (reads-back p specs).zeros

  pub plan-laid : PlanLaid o t j p
  plan-laid =
      let good = accepted-good o t j p h in
      let places = has-places o t j p h in
      let accepts = (validates (limit_of o.threshold) o good.least good.most (trees_of t) (jobs_of j) good.trees).plan in
      record {
        reads_back = ap (λ (q : LentPlan). map spec_of (specs_in q (length specs))) lays ∙ (reads-back p specs).specs;
        validated = λ s m.
            let r = Memᴰ.of_map spec_lent specs (subst (Memᴰ s) as_lent m) in
            subst (λ (l : LentSpec). validate_call t l ≡ Accepted) r.2 (accepted-lent t r.0 good.inside good.shapely (accepts r.0 r.1));
        lengths = keeps-lengths p specs places.specs places.sources;
      }
