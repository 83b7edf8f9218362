-- `whole_part` holds since its argument's pattern is a field of 127 to 190 and 24 digits, whose shift is the whole part.
use Rattle.std.proofs.Common.{T, sym, subst, arith}
use lib.Ieee.{binary32, fits}
use Rattle.size_limit.proofs.Fields as fields
use Rattle.size_limit.proofs.cutting.whole_part.Goals as goal

pub float_to_bits-bits : goal.float_to_bits-bits
float_to_bits-bits c =
    let held : T (fits binary32 c.args.p) = subst T (sym c.well_formed.0.1) tt in
    fields.is_no_nan c.args.p held c.requires.0 c.requires.1

pub overflow_cast-digits : goal.overflow_cast-digits
overflow_cast-digits c =
    let held : T (fits binary32 c.args.p) = subst T (sym c.well_formed.0.1) tt in
    omega (arith, fields.digits c.args.p held c.requires.0 c.requires.1)

pub overflow_shr-result : goal.overflow_shr-result
overflow_shr-result c =
    let held : T (fits binary32 c.args.p) = subst T (sym c.well_formed.0.1) tt in
    omega (arith, fields.exponent c.args.p held c.requires.0 c.requires.1)

pub returns-then-exponent-le150 : goal.returns-then-exponent-le150
returns-then-exponent-le150 c =
    let held : T (fits binary32 c.args.p) = subst T (sym c.well_formed.0.1) tt in
    fields.cut_down c.args.p held c.requires.0 c.requires.1 c.if-exponent-le150.true

pub overflow_cast-result-2 : goal.overflow_cast-result-2
overflow_cast-result-2 c =
    let held : T (fits binary32 c.args.p) = subst T (sym c.well_formed.0.1) tt in
    omega (arith, fields.exponent c.args.p held c.requires.0 c.requires.1)

pub overflow_shl-result : goal.overflow_shl-result
overflow_shl-result c =
    let held : T (fits binary32 c.args.p) = subst T (sym c.well_formed.0.1) tt in
    omega (arith, fields.exponent c.args.p held c.requires.0 c.requires.1)

pub returns : goal.returns
returns c =
    let held : T (fits binary32 c.args.p) = subst T (sym c.well_formed.0.1) tt in
    fields.cut_up c.args.p held c.requires.0 c.requires.1 c.if-exponent-le150.false
