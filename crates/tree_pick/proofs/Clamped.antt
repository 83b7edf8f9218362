-- The last entries of a part, as a part.
use Prim.Native.Nat.{ℕ, ◌+◌, ◌-◌, ◌≤◌, min}
use mathlib.Core.Path.{◌≡◌, sym, ap, ◌∙◌}
use mathlib.Core.List.{List}
use native.Mathlib.Omega.{arith}
use lib.ListN.{length, take, drop, length-drop}
use lib.Seq.{length-take-le, take-add, drop_at, drop-drop}
use Rattle.rules.specs.Lists.{last_of}
use Rattle.tree_pick.specs.Window.{Lies}

-- a part of a part
part-of-part : (ids : List ℕ) (from d m : ℕ) → from + d ≤ length ids → take m (drop (from + d) ids) ≡ drop d (take (d + m) (drop from ids))
part-of-part ids from d m h =
    rw (← drop-drop d from ids, take-add) (sym (drop_at (take d (drop from ids)) (take m (drop d (drop from ids))) d (length-take-le d (drop from ids) (omega (arith, length-drop from ids)))))

module _ {ids : List ℕ} {from count : ℕ} {part : List ℕ} (l : Lies ids from count part) where
  -- as many as were counted
  counted : length part ≡ count
  counted = sym (ap length l.is) ∙ length-take-le count (drop from ids) (omega (arith, length-drop from ids))

  -- "Should k exceed max, the front is dropped."
  pub clamped : (most : ℕ) {m : ℕ} → m ≡ min count most → Lies ids (from + (count - m)) m (last_of most part)
  clamped most {m} e = record {
    within = omega (arith, l.within, e);
    is =
        let cut : count - most ≡ count - m = omega (arith, e) in
        let whole : count - m + m ≡ count = omega (arith, e) in
        rw (counted, cut, ← l.is) (rw whole at (part-of-part ids from (count - m) m (omega (arith, l.within))));
  }
