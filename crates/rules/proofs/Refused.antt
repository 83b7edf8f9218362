-- The numbers of refusals.
use mathlib.Core.Path.{refl, sym, ap, ◌∙◌}
use Rattle.std.proofs.Common.{◌≡◌, arith}
use Rattle.std.specs.Prelude.{ℕ, cond, ◌==◌}
use Rattle.rules.specs.declared.answers.Refusal.{Refusal}
use Rattle.rules.specs.declared.answers.Refusal.TheVariants.{OutOfBounds, Misshapen, BadOptions, SizesTooLarge, PlanTooSmall, UnknownPrefix, NoSources, NotConsecutive, WrongDestination, Clashes, NoSuchJob, WrongKind, RunsOutOfOrder, TableFull}
use Rattle.rules.specs.Answers.{number_of}

-- no refusal has the number that says that there is none
pub numbered : (r : Refusal) → number_of r ≡ 0 → ⊥
numbered OutOfBounds e = omega (arith, e)
numbered Misshapen e = omega (arith, e)
numbered BadOptions e = omega (arith, e)
numbered SizesTooLarge e = omega (arith, e)
numbered PlanTooSmall e = omega (arith, e)
numbered UnknownPrefix e = omega (arith, e)
numbered NoSources e = omega (arith, e)
numbered NotConsecutive e = omega (arith, e)
numbered WrongDestination e = omega (arith, e)
numbered Clashes e = omega (arith, e)
numbered NoSuchJob e = omega (arith, e)
numbered WrongKind e = omega (arith, e)
numbered RunsOutOfOrder e = omega (arith, e)
numbered TableFull e = omega (arith, e)

-- ---- each refusal has a number of its own: its name is found again by it

abbrev named : ℕ → Refusal
named n = cond (n == 1) OutOfBounds (cond (n == 2) Misshapen (cond (n == 3) BadOptions (cond (n == 4) SizesTooLarge (cond (n == 5) PlanTooSmall (cond (n == 6) UnknownPrefix (cond (n == 7) NoSources (cond (n == 8) NotConsecutive (cond (n == 9) WrongDestination (cond (n == 10) Clashes (cond (n == 11) NoSuchJob (cond (n == 12) WrongKind (cond (n == 13) RunsOutOfOrder TableFull))))))))))))

named-again : (r : Refusal) → named (number_of r) ≡ r
named-again OutOfBounds = refl
named-again Misshapen = refl
named-again BadOptions = refl
named-again SizesTooLarge = refl
named-again PlanTooSmall = refl
named-again UnknownPrefix = refl
named-again NoSources = refl
named-again NotConsecutive = refl
named-again WrongDestination = refl
named-again Clashes = refl
named-again NoSuchJob = refl
named-again WrongKind = refl
named-again RunsOutOfOrder = refl
named-again TableFull = refl

pub one-number : (r s : Refusal) → number_of r ≡ number_of s → r ≡ s
one-number r s e = sym (named-again r) ∙ ap named e ∙ named-again s
