-- `limit` holds since its two calls are the two ends of `limit_of`, and the product is the language's own.
use Rattle.std.proofs.Common.{ap, ◌∙◌}
use lib.Ieee.{Float, binary32, mul, to_unsigned}
use Rattle.rules.specs.Limit.{limit_of}
use Rattle.size_limit.proofs.limit.Goals as goal

pub returns : goal.returns
unfolding limit_of
returns c = c.cut.ensures.is ∙ ap (λ (y : Float). to_unsigned 64 (mul binary32 y c.args.threshold)) c.nearest_single.ensures.is
