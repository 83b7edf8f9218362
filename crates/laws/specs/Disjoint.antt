-- What a plan proposes is free, and proposed once. Of every plan, on whatever tables and options.
use Rattle.std.specs.Prelude.{ℕ, ◌≡◌, List, Bool, true, ◌&&◌, not, eqb}
use Rattle.rules.specs.declared.Options.{Options}
use Rattle.rules.specs.Lists.{any, all, distinct}
use Rattle.rules.specs.Tables.{Tree, Job, among}
use Rattle.rules.specs.Windows.{used_ids}
use Rattle.rules.specs.Pick.{Spec, spec_uses}
use Rattle.rules.specs.Plan.{planned, own_list_of}

-- active jobs of its tree use none of its sources, and not its destination
abbrev pub is_free : List Job → Spec → Bool
is_free js s = all (λ x. not (among x (used_ids js s.prefix))) (spec_uses s)

-- two specs of one tree with an id that is a source or the destination of both
abbrev pub sharing : Spec → Spec → Bool
sharing a b = eqb a.prefix b.prefix && any (λ x. among x (spec_uses a)) (spec_uses b)

pub record Disjoint (lim : ℕ → ℕ) (o : Options) (ts : List Tree) (js : List Job) : Type 0 where
  -- a plan uses nothing that active jobs of the same tree use
  pub free : all (is_free js) (planned lim o ts js).specs ≡ true
  -- no two of its specs share a source or a destination of one tree
  pub once : distinct sharing (planned lim o ts js).specs ≡ true
  -- and so for an own list: it names no row twice
  pub own_free : (t : Tree) → all (is_free js) (own_list_of lim o ts js t) ≡ true
  pub own_once : (t : Tree) → distinct sharing (own_list_of lim o ts js t) ≡ true
