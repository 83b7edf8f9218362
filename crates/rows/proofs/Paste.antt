-- A loop that writes some numbers into a list, one after another: what its invariant says, and a law for each of its ends, for
-- every element type.
use mathlib.Core.Path.{◌≡◌, refl, sym, ap, ◌∙◌}
use Prim.Native.Nat.{ℕ, ◌+◌, ◌-◌, ◌≤◌, ◌<◌}
use native.Mathlib.Numerals.{add-one}
use native.Mathlib.Omega.{arith}
use mathlib.Core.List.{List}
use lib.ListN.{length, drop, set, get_or, replicate, length-set, length-replicate, get_or-replicate}
use lib.Seq.{paste, paste-zero, paste-suc, drop-paste, drop-drop}

module _ {A : Type 0} where
  -- behind what is written a list is as it was
  pub drop-behind : (d : List A) (at : ℕ) (s : List A) (n i : ℕ) → at ≤ length d → n ≤ length s → at + n ≤ i → drop i (paste d at s n) ≡ drop i d
  drop-behind d at s n i hd hs h =
      let e : at + n + (i - (at + n)) ≡ i = omega arith in
      let later : (r : List A) → drop i r ≡ drop (i - (at + n)) (drop (at + n) r) = λ r. rw (drop-drop, e) in
      later (paste d at s n) ∙ ap (drop (i - (at + n))) (drop-paste d at s n hd hs) ∙ sym (later d)

  -- k of the first n numbers of s are written into l, to number `at` on

  pub record Pasted (l : List A) (at : ℕ) (s : List A) (n : ℕ) (a : List A) (k : ℕ) : Type 0 where
    pub have : n ≤ length s
    pub room : at + n ≤ length l
    pub upto : k ≤ n
    pub len : length a ≡ length l
    pub is : a ≡ paste l at s k

  -- before the first turn
  pub pasted-none : {l : List A} {at : ℕ} {s : List A} {n : ℕ} → n ≤ length s → at + n ≤ length l → Pasted l at s n l 0
  pasted-none {l} {at} {s} have room = record { have = have; room = room; upto = omega arith; len = refl; is = paste-zero l at s }

  -- a turn that writes number k of s
  pub pasted-more : (z : A) {l : List A} {at : ℕ} {s : List A} {n : ℕ} {a : List A} {k : ℕ} {v : A} → Pasted l at s n a k → k < n → v ≡ get_or s k z → Pasted l at s n (set a (at + k) v) (k + 1)
  pasted-more z {l} {at} {s} {n} {a} {k} {v} I lt e = record {
    have = I.have;
    room = I.room;
    upto = omega arith;
    len = length-set a (at + k) v ∙ I.len;
    is = rw (e, I.is, add-one) (paste-suc l at s k z (omega arith) (omega arith));
  }

  -- after the last turn
  pub pasted-all : {l : List A} {at : ℕ} {s : List A} {n : ℕ} {a : List A} {k : ℕ} → Pasted l at s n a k → n ≤ k → a ≡ paste l at s n
  pasted-all {n = n} {k = k} I h =
      let e : k ≡ n = omega arith in
      rw e at I.is

  -- n times one number, before the first turn
  pub zeros-none : (z : A) {l : List A} {at n : ℕ} → at + n ≤ length l → Pasted l at (replicate n z) n l 0
  zeros-none z {n = n} room = pasted-none (omega (arith, length-replicate n z)) room

  -- a turn that writes it
  pub zeros-more : (z : A) {l : List A} {at n : ℕ} {a : List A} {k : ℕ} → Pasted l at (replicate n z) n a k → k < n → Pasted l at (replicate n z) n (set a (at + k) z) (k + 1)
  zeros-more z {n = n} {k = k} I lt = pasted-more z I lt (sym (get_or-replicate n k z z lt))
