-- What lies in the lent plan after a call that is not refused.
use Rattle.std.specs.Prelude.{◌≡◌, length}
use mathlib.Core.List.{map, Memᴰ}
use Rattle.rules.specs.declared.Options.{Options}
use Rattle.rules.specs.Answers.ValidateAnswer.{Accepted}
use Rattle.rules.specs.Lent.{LentTrees, LentJobs}
use Rattle.rules.specs.Planning.{LentPlan}
use Rattle.rules.specs.Validation.{LentSpec}
use Rattle.rules.specs.Calls.{plan_call, validate_call}
use Rattle.laws.specs.ReadsBack.{specs_in, spec_of, KeepsLengths}
use Rattle.laws.specs.PlanCall.{plan_of}

pub record PlanLaid (o : Options) (t : LentTrees) (j : LentJobs) (p : LentPlan) : Type 0 where
  -- its first specs, as many as the answer says, are the plan
  pub reads_back : map spec_of (specs_in (plan_call o t j p).plan (length (plan_of o t j).specs)) ≡ (plan_of o t j).specs
  -- validation on the same tables accepts each as it lies there
  pub validated : (s : LentSpec) → Memᴰ s (specs_in (plan_call o t j p).plan (length (plan_of o t j).specs))
      → validate_call t s ≡ Accepted
  -- its slices keep their lengths
  pub lengths : KeepsLengths p (plan_of o t j).specs
