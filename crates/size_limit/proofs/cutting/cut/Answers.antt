-- `cut` holds since its two tests are those of document 01's sentence, and between them the whole part is taken.
use Rattle.std.proofs.Common.{◌≡◌, ℕ, ◌∙◌}
use lib.Ieee.{Float, to_unsigned}
use Rattle.rules.proofs.Cutting.{cut-value}
use Rattle.size_limit.specs.Ends.{CutOut}
use Rattle.size_limit.proofs.Tests.{from-top, from_one, under_top, under_one}
use Rattle.size_limit.proofs.cutting.cut.Goals as goal

-- what lib.Ieee cuts is cut over whole numbers
cut_out : (x : Float) (n : ℕ) → n ≡ to_unsigned 64 x → CutOut x n
cut_out x n e = record { is = e; whole = λ a c C v. e ∙ cut-value x a c C v }

pub returns-then-p : goal.returns-then-p
returns-then-p c = cut_out c.args.p 18446744073709551615 (from-top c.args.p c.if-p.true)

pub whole_part-requires : goal.whole_part-requires
whole_part-requires c =
    let x = c.args.p in
    (from_one x c.if-p-2.true, under_top x c.if-p-2.true c.if-p.false)

pub returns-then-p-2 : goal.returns-then-p-2
returns-then-p-2 c = cut_out c.args.p c.whole_part.result c.whole_part.ensures

pub returns : goal.returns
returns c = cut_out c.args.p 0 (under_one c.args.p c.if-p-2.false)
