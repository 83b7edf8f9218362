-- `threshold_of` is safe since the patterns of NaNs are those above infinity's, the sign apart.
use borrow.Author.Tests.{le-ltb}
use mathlib.Core.Bool.{Bool, not}
use mathlib.Core.Path.{sym, ap, ◌∙◌, subst}
use Prim.Native.Nat.{ℕ, ◌-◌, ◌*◌, ◌^◌}
use lib.Bits.{bit_and, and_mask}
use lib.Dec.{T, ltb}
use lib.Ieee.{binary32}
use lib.Ieee.Bits.{nan_bits_above}
use Rattle.hex_text.proofs.threshold_of.Goals as goal

pub float_from_bits-result : goal.float_from_bits-result
float_from_bits-result c =
    let b = c.args.bits in
    subst (λ (t : Bool). T (not t))
    (sym (nan_bits_above binary32 b ∙ ap (λ (x : ℕ). ltb (255 * 2 ^ 23) x) (sym (and_mask b 31)) ∙ le-ltb (255 * 2 ^ 23) (bit_and b (2 ^ 31 - 1)) c.if-bits-le2139095040.true))
    tt
