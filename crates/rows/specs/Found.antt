-- What a search answers: the row that it found, if any.
use Rattle.std.specs.Prelude.{ℕ}
use Rattle.std.specs.declared.option.Option.{Option}
use Rattle.std.specs.declared.option.Option.TheVariants.{None, Some}

-- how many of n rows stand before it: all of them where there is none
abbrev pub place_of : ℕ → Option ℕ → ℕ
place_of n None = n
place_of n (Some i) = i
