-- What lies in a lent plan after a call is the plan: spec after spec, each with its own part of the source entries.
use Rattle.std.specs.Prelude.{ℕ, zero, suc, ◌+◌, ◌*◌, ◌≡◌, List, [], ◌∷◌, map, length, get_or, take, drop}
use Rattle.rules.specs.Lists.{concat_map}
use Rattle.rules.specs.Tables.{id_of}
use Rattle.rules.specs.Pick.{Spec}
use Rattle.rules.specs.Planning.{LentPlan, mark_of, run_of, view_words, spec_sources, lay_plan}
use Rattle.rules.specs.Validation.{LentSpec, lent_spec, lent_sources}

-- how many sources spec i of a lent plan has
abbrev pub sources_in : LentPlan → ℕ → ℕ
sources_in p i = get_or p.specs (3 * i + 2) 0

-- spec i, whose source entries begin at row s, as a tiered spec that is lent by itself: its parts of the plan's slices
abbrev pub spec_in : LentPlan → ℕ → ℕ → LentSpec
spec_in p i s =
    lent_spec 0 (get_or p.specs (3 * i) 0) (get_or p.specs (3 * i + 1) 0)
    (take (sources_in p i) (drop s p.marks))
    (take (sources_in p i) (drop s p.runs))
    (take (2 * sources_in p i) (drop (2 * s) p.views))

-- the n specs from spec i on
unfoldable pub specs_from : LentPlan → ℕ → ℕ → ℕ → List LentSpec
specs_from p i s zero = []
specs_from p i s (suc n) = spec_in p i s ∷ specs_from p (i + 1) (s + sources_in p i) n

-- the first n specs of a lent plan
abbrev pub specs_in : LentPlan → ℕ → List LentSpec
specs_in p n = specs_from p 0 0 n

-- what a lent spec says
abbrev pub spec_of : LentSpec → Spec
spec_of s = record {
  prefix = s.prefix;
  sources = map id_of (lent_sources s.marks s.runs s.views);
  destination = s.destination;
}

-- a spec as a call lays it: idle parts are zeros
abbrev pub spec_lent : Spec → LentSpec
spec_lent s = lent_spec 0 s.prefix s.destination (map mark_of s.sources) (map run_of s.sources) (concat_map view_words s.sources)

pub record ReadsBack (p : LentPlan) (ss : List Spec) : Type 0 where
  -- what was laid reads back
  pub specs : map spec_of (specs_in (lay_plan p ss) (length ss)) ≡ ss
  -- with zeros in its idle parts
  pub zeros : specs_in (lay_plan p ss) (length ss) ≡ map spec_lent ss
  -- "Places of the plan beyond the answer keep their bytes."
  pub beyond_specs : drop (3 * length ss) (lay_plan p ss).specs ≡ drop (3 * length ss) p.specs
  pub beyond_marks : drop (length (spec_sources ss)) (lay_plan p ss).marks ≡ drop (length (spec_sources ss)) p.marks
  pub beyond_runs : drop (length (spec_sources ss)) (lay_plan p ss).runs ≡ drop (length (spec_sources ss)) p.runs
  pub beyond_views : drop (2 * length (spec_sources ss)) (lay_plan p ss).views ≡ drop (2 * length (spec_sources ss)) p.views

-- where the plan has places enough, its slices keep their lengths
pub record KeepsLengths (p : LentPlan) (ss : List Spec) : Type 0 where
  pub specs : length (lay_plan p ss).specs ≡ length p.specs
  pub marks : length (lay_plan p ss).marks ≡ length p.marks
  pub runs : length (lay_plan p ss).runs ≡ length p.runs
  pub views : length (lay_plan p ss).views ≡ length p.views
