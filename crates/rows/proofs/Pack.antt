-- Rows kept by their marks (`kept`): what the loop of keep_rows says, a law for each way through it, and the slice's length.
use mathlib.Core.Path.{◌≡◌, refl, sym, ap, ◌∙◌}
use Prim.Native.Nat.{ℕ, zero, suc, ◌+◌, ◌*◌, ◌-◌, ◌≤◌, ◌<◌}
use native.Mathlib.Nat.{mul-zero, mul-suc, mul-le-mul_left, add_comm}
use native.Mathlib.Numerals.{add-one}
use native.Mathlib.Omega.{arith}
use mathlib.Core.List.{List, [], ◌∷◌, ◌++◌, append_assoc, append-nil}
use lib.ListN.{length, take, drop, get_or, replicate, length-drop, length-append, take-append-drop}
use lib.Seq.{paste, take-paste, length-paste, drop-drop, take-suc, length-take-le}
use Rattle.rules.specs.Lent.{laid_with}
use Rattle.rules.proofs.Laid.{length-laid_with}
use Rattle.rows.specs.Movers.{kept}
use Rattle.rows.proofs.Paste.{drop-behind}
use Rattle.rows.proofs.Laying.{freed}

-- the first i + 1 marks
take_more : (ks : List ℕ) (i : ℕ) → i < length ks → take (i + 1) ks ≡ take i ks ++ (get_or ks i 0 ∷ [])
take_more ks i h = rw add-one (take-suc ks i 0 h)

-- a number that is not 0 is a successor
not-zero : (n : ℕ) → (n ≡ 0 → ⊥) → (m : ℕ) × (n ≡ suc m)
not-zero zero h = absurd (h refl)
not-zero (suc m) h = (m, refl)

-- where the next row begins
next : (w i : ℕ) {s : ℕ} → s ≡ w * i → s + w ≡ w * (i + 1)
next w i e = rw (e, add-one, mul-suc)

module _ {A : Type 0} where
  -- one mark more
  kept-snoc : (w : ℕ) (ks : List ℕ) (k : ℕ) (l : List A) → kept w (ks ++ (k ∷ [])) l ≡ kept w ks l ++ kept w (k ∷ []) (drop (w * length ks) l)
  unfolding kept
  kept-snoc w [] k l = rw mul-zero
  kept-snoc w (zero ∷ ks) k l = rw (kept-snoc w ks k (drop w l), drop-drop, mul-suc, add_comm)
  kept-snoc w (suc m ∷ ks) k l = rw (kept-snoc w ks k (drop w l), drop-drop, mul-suc, add_comm, append_assoc)

  -- a mark of 0 adds no row
  kept-skip : (w : ℕ) (ks : List ℕ) (l : List A) (i : ℕ) → i < length ks → get_or ks i 0 ≡ 0 → kept w (take (i + 1) ks) l ≡ kept w (take i ks) l
  unfolding kept
  kept-skip w ks l i h e = rw (take_more ks i h, kept-snoc, e, append-nil)

  -- any other mark adds its row
  kept_more : (w : ℕ) (ks : List ℕ) (l : List A) (i : ℕ) → i < length ks → (get_or ks i 0 ≡ 0 → ⊥) → kept w (take (i + 1) ks) l ≡ kept w (take i ks) l ++ take w (drop (w * i) l)
  unfolding kept
  kept_more w ks l i h e =
      let s : (m : ℕ) × (get_or ks i 0 ≡ suc m) = not-zero (get_or ks i 0) e in
      let len : length (take i ks) ≡ i = length-take-le i ks (omega arith) in
      rw (take_more ks i h, kept-snoc, s.1, len, append-nil)

  -- the numbers of the first i rows are passed and those kept of them stand at the front; the next row is read at s and
  -- written at d
  pub record Packed (w n : ℕ) (ks : List ℕ) (l col : List A) (i s d : ℕ) : Type 0 where
    pub rows : w * n ≤ length l
    pub marks : n ≤ length ks
    pub upto : i ≤ n
    pub low : d ≤ s
    pub row : s ≡ w * i
    pub end : s ≤ length l
    pub front : take d col ≡ kept w (take i ks) l
    pub rest : drop s col ≡ drop s l
    pub len : length col ≡ length l

  -- before the first turn
  pub pack-none : {w n : ℕ} {ks : List ℕ} {l : List A} → (n ≤ length ks) × (w * n ≤ length l) → Packed w n ks l l 0 0 0
  unfolding kept
  pack-none {w} h = record {
    rows = h.1;
    marks = h.0;
    upto = omega arith;
    low = omega arith;
    row = sym (mul-zero w);
    end = omega arith;
    front = refl;
    rest = refl;
    len = refl;
  }

  -- while a row is left, it is within the list
  pub pack-room : {w n : ℕ} {ks : List ℕ} {l col : List A} {i s d : ℕ} → Packed w n ks l col i s d → i < n → s + w ≤ length l
  pack-room {w} {i = i} I lt = omega (arith, mul-suc w i, mul-le-mul_left w lt)

  -- a turn whose mark is 0, as the branch's meeting hands it over
  pub pack-skip : {w n : ℕ} {ks : List ℕ} {l col col' : List A} {i s d d' : ℕ} → Packed w n ks l col i s d → i < n → get_or ks i 0 ≡ 0
      → col' ≡ col → d' ≡ d → Packed w n ks l col' (i + 1) (s + w) d'
  pack-skip {w} {n} {ks} {l} {col} {col'} {i} {s} {d} I lt e p q =
      let h : i < length ks = omega arith in
      rw (p, q)
      record {
        rows = I.rows;
        marks = I.marks;
        upto = omega arith;
        low = omega arith;
        row = next w i I.row;
        end = pack-room I lt;
        front = I.front ∙ sym (kept-skip w ks l i h e);
        rest = sym (drop-drop w s col) ∙ ap (drop w) I.rest ∙ drop-drop w s l;
        len = I.len;
      }

  -- a turn that copies its row down, likewise
  pub pack-more : {w n : ℕ} {ks : List ℕ} {l col col' col'' : List A} {i s d d' : ℕ} → Packed w n ks l col i s d → i < n → (get_or ks i 0 ≡ 0 → ⊥)
      → col'' ≡ paste col d (drop s col) w → col' ≡ col'' → d' ≡ d + w → Packed w n ks l col' (i + 1) (s + w) d'
  pack-more {w} {n} {ks} {l} {col} {col'} {col''} {i} {s} {d} I lt e m p q =
      let h : i < length ks = omega arith in
      let room : s + w ≤ length l = pack-room I lt in
      let rest-len : length (drop s col) ≡ length col - s = length-drop s col in
      rw (p, q)
      record {
        rows = I.rows;
        marks = I.marks;
        upto = omega arith;
        low = omega arith;
        row = next w i I.row;
        end = room;
        front = ap (take (d + w)) m ∙ take-paste col d (drop s col) w (omega arith) (omega arith)
            ∙ rw (I.front, I.rest, I.row) (sym (kept_more w ks l i h e));
        rest = ap (drop (s + w)) m ∙ drop-behind col d (drop s col) w (s + w) (omega arith) (omega arith) (omega arith)
            ∙ sym (drop-drop w s col) ∙ ap (drop w) I.rest ∙ drop-drop w s l;
        len = rw m (length-paste col d (drop s col) w (omega arith) (omega arith)) ∙ I.len;
      }

  -- after the last turn, with what is left cleared
  pub pack-all : (z : A) {w n : ℕ} {ks : List ℕ} {l col col' : List A} {i s d : ℕ} → Packed w n ks l col i s d → n ≤ i
      → col' ≡ paste col d (replicate (s - d) z) (s - d) → col' ≡ laid_with z (w * n) (kept w (take n ks) l) l
  pack-all z {w} {n} {l = l} {col = col} {i = i} I h p =
      let e : i ≡ n = omega arith in
      rw (I.row, e) at (freed z l col I.low (omega arith) I.front I.rest p)

  -- kept rows are no more than there were
  length-kept : (w : ℕ) (ks : List ℕ) (l : List A) → length (kept w ks l) ≤ length l
  unfolding kept
  length-kept w [] l = omega arith
  length-kept w (zero ∷ ks) l = omega (arith, length-kept w ks (drop w l), length-drop w l)
  length-kept w (suc m ∷ ks) l =
      omega (
        arith,
        length-kept w ks (drop w l),
        length-append (take w l) (kept w ks (drop w l)),
        simp length-append at (ap length (take-append-drop w l)),
      )

  -- keep_rows leaves the slice its length
  pub length-keep : (z : A) (w n : ℕ) (ks : List ℕ) (l : List A) → w * n ≤ length l → length (laid_with z (w * n) (kept w (take n ks) l) l) ≡ length l
  length-keep z w n ks l h = length-laid_with z (w * n) (kept w (take n ks) l) l h (length-kept w (take n ks) l)
