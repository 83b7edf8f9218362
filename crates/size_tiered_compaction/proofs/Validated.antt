-- The answer of validation, case by case.
use native.Mathlib.Omega.{arith}
use Prim.Native.Nat.{ℕ, zero, suc, ◌*◌, ◌≤◌, ◌<◌}
use mathlib.Core.Path.{◌≡◌, refl, sym, ap}
use mathlib.Core.List.{map}
use mathlib.Core.Bool.{Bool, true, false, ◌&&◌, ◌||◌, not}
use lib.Dec.{eqb}
use lib.ListN.{length}
use borrow.Author.Tests.{eqb-true, eq-eqb, ne_eqb, le-leb, lt-leb}
use Rattle.std.specs.Prelude.{Result}
use Rattle.std.specs.declared.result.Result.TheVariants.{Ok, Err}
use Rattle.rules.specs.declared.answers.Refusal.{Refusal}
use Rattle.rules.specs.Answers.{number_of, refused, validate_answer}
use Rattle.rules.specs.Answers.ValidateAnswer.{Accepted, Refused}
use Rattle.rules.specs.Lists.{◌given◌else◌}
use Rattle.rules.specs.Tables.{id_of}
use Rattle.rules.specs.Lent.{LentTrees, trees_of}
use Rattle.rules.specs.Bounds.{trees_outside, trees_misshapen, trees_refusal, lengths_agree, good_sources}
use Rattle.rules.specs.Validation.{LentSpec, lent_sources, spec_misshapen, tree_with, tiered_refusal, validate_refusal}
use Rattle.rules.specs.Calls.{validate_by, validate_call}
use Rattle.rules.proofs.Bounds.{TreesGood, trees-good}
use Rattle.rules.proofs.Lookups.{and_left, and_right}
use Rattle.rules.proofs.Refused.{numbered}
use Rattle.rows.specs.declared.sources.Sources.{Sources}
use Rattle.rows.specs.InSlices.{sources_in}
use Rattle.size_tiered_compaction.specs.LogicalOrder.{Agree}

module _ (t : LentTrees) (s : LentSpec) where
  -- the trees are refused
  pub trees-refused : (v : ℕ) → v ≡ trees_refusal t → (v ≡ 0 → ⊥) → Refused v ≡ validate_call t s
  unfolding trees_refusal validate_refusal validate_call
  trees-refused v e n = go (trees_outside t) (trees_misshapen t) v e n
    where
      go : (a b : Bool) (v : ℕ) → v ≡ (1 given a else 2 given b else 0) → (v ≡ 0 → ⊥) → Refused v ≡ validate_by (1 given a else 2 given b || spec_misshapen s else 0 given eqb s.drain 1 else tiered_refusal (map id_of (lent_sources s.marks s.runs s.views)) s.destination (tree_with s.prefix (trees_of t)))
      go true b v e n = ap Refused e
      go false true v e n = ap Refused e
      go false false v e n = absurd (n e)

  -- the spec is refused 2
  pub spec-refused : TreesGood t → spec_misshapen s ≡ true → Refused 2 ≡ validate_call t s
  unfolding validate_refusal validate_call
  spec-refused g e = rw (g.inside, g.shapely, e)

  -- "drain accepted at once"
  pub drain-accepted : TreesGood t → spec_misshapen s ≡ false → s.drain ≡ 1 → Accepted ≡ validate_call t s
  unfolding validate_refusal validate_call
  drain-accepted g e d = rw (g.inside, g.shapely, e, eq-eqb s.drain 1 d)

  -- a tiered spec
  pub tiered-answer : TreesGood t → spec_misshapen s ≡ false → (s.drain ≡ 1 → ⊥) → (v : ℕ) → v ≡ tiered_refusal (map id_of (lent_sources s.marks s.runs s.views)) s.destination (tree_with s.prefix (trees_of t)) → validate_by v ≡ validate_call t s
  unfolding validate_refusal validate_call
  tiered-answer g e d v is = rw (g.inside, g.shapely, e, ne_eqb s.drain 1 d) (ap validate_by is)

-- ---- the spec's own refusal 2, by its parts
module _ (s : LentSpec) where
  pub bad_kind : 1 < s.drain → spec_misshapen s ≡ true
  unfolding spec_misshapen
  bad_kind h = rw (lt-leb s.drain 1 h) (go (lengths_agree s.marks s.runs s.views) (good_sources (lent_sources s.marks s.runs s.views)))
    where
      go : (a b : Bool) → not (a && false && b) ≡ true
      go true b = refl
      go false b = refl

  pub own-sources : (r : Bool) → s.drain ≤ 1 → r ≡ lengths_agree s.marks s.runs s.views && good_sources (lent_sources s.marks s.runs s.views) → spec_misshapen s ≡ not r
  unfolding spec_misshapen
  own-sources r h e = rw (le-leb s.drain 1 h, e) (go (lengths_agree s.marks s.runs s.views) (good_sources (lent_sources s.marks s.runs s.views)))
    where
      go : (a b : Bool) → not (a && true && b) ≡ not (a && b)
      go true b = refl
      go false b = refl

-- good sources agree in length
pub agree : (s : Sources) → true ≡ lengths_agree s.marks.now s.runs.now s.views.now && good_sources (sources_in s) → Agree s
agree s e =
    let a = eqb (length s.runs.now) (length s.marks.now) in
    let b = eqb (length s.views.now) (2 * length s.marks.now) in
    let both = and_left (a && b) (good_sources (sources_in s)) (sym e) in
    record { runs = eqb-true _ _ (and_left a b both); views = eqb-true _ _ (and_right a b both) }

-- ---- the answer by its number
pub by-number : {A : Type 0} (r : Result A Refusal) → validate_answer r ≡ validate_by (refused r)
by-number (Ok x) = refl
by-number (Err r) = go (number_of r) (numbered r)
  where
    go : (v : ℕ) → (v ≡ 0 → ⊥) → Refused v ≡ validate_by v
    go zero n = absurd (n refl)
    go (suc v) n = refl

-- so too by the refusals before it
pub accepted_drain : (t : LentTrees) (s : LentSpec) → trees_refusal t ≡ 0 → lengths_agree s.marks s.runs s.views && good_sources (lent_sources s.marks s.runs s.views) ≡ true → s.drain ≡ 1 → validate_call t s ≡ Accepted
accepted_drain t s a b d = sym (drain-accepted t s (trees-good t a) (own-sources s true (omega arith) (sym b)) d)
