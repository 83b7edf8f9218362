-- `fiervalun_validate` meets its contract: a case each.
use mathlib.Core.Path.{ap, ◌∙◌}
use Rattle.rules.specs.Calls.{validate_number}
use Rattle.fiervalun.proofs.validate.fiervalun_validate.Goals as goal

pub returns-in-Ok : goal.returns-in-Ok
unfolding validate_number
returns-in-Ok c = ap validate_number c.in-Ok.ensures

pub returns-in-Err : goal.returns-in-Err
unfolding validate_number
returns-in-Err c = c.number.ensures ∙ ap validate_number c.in-Err.ensures
