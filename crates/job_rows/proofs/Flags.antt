-- The loop that gives each source entry its job's flag, the count of flags, and what the entries' flags say.
use Prim.Native.Nat.{ℕ, zero, suc, ◌+◌, ◌*◌, ◌≤◌, ◌<◌}
use mathlib.Core.Path.{◌≡◌, refl, sym, ap, ◌∙◌}
use mathlib.Core.List.{List, [], ◌∷◌, ◌++◌, append-nil}
use mathlib.Core.Bool.{Bool, true, false, cond, not}
use native.Mathlib.Nat.{zero-add}
use native.Mathlib.Omega.{arith}
use lib.ListN.{length, get_or, take, replicate, length-replicate}
use Rattle.std.specs.List.{count_by}
use Rattle.std.proofs.lemmas.List.Recursion.{is_count_by}
use lib.Dec.{eqb}
use borrow.Author.Tests.{ne_eqb}
use lib.Seq.{paste, take-paste, length-paste, take_all}
use Rattle.rules.specs.Lists.{keep, concat_map, total}
use Rattle.rules.specs.Lent.{rows_from}
use Rattle.rules.proofs.Appended.{total-append}
use Rattle.rules.proofs.Rows.{rows_from-append, concat_map-append}
use Rattle.rows.specs.Movers.{marked}
use Rattle.rows.proofs.Sums.{part-within}
use Rattle.job_rows.specs.Slices.{entry_flags}

-- ---- the flags of the first i jobs' entries stand at the front, up to flag `at`

abbrev counts : List ℕ → ℕ → ℕ
counts specs i = get_or specs (3 * i + 2) 0

pub record Marking (specs staying : List ℕ) (n : ℕ) (flags₀ flags : List ℕ) (at i : ℕ) : Type 0 where
  pub room : total (rows_from (counts specs) 0 n) ≤ length flags₀
  pub up_to : i ≤ n
  pub place : at ≡ total (rows_from (counts specs) 0 i)
  pub front : take at flags ≡ entry_flags specs staying i
  pub kept : length flags ≡ length flags₀

-- one row more
rows_snoc : {A : Type 0} (f : ℕ → A) (i : ℕ) → rows_from f 0 (i + 1) ≡ rows_from f 0 i ++ (f i ∷ [])
unfolding rows_from
rows_snoc f i = rows_from-append f 0 i 1 ∙ ap (λ (k : ℕ). rows_from f 0 i ++ (f k ∷ [])) (zero-add i)

pub marking-starts : {specs staying : List ℕ} {n : ℕ} {flags : List ℕ} → total (rows_from (counts specs) 0 n) ≤ length flags → Marking specs staying n flags flags 0 0
unfolding entry_flags rows_from concat_map total
marking-starts room = record { room = room; up_to = omega arith; place = refl; front = refl; kept = refl }

module _ {specs staying : List ℕ} {n : ℕ} {flags₀ flags : List ℕ} {at i : ℕ} (m : Marking specs staying n flags₀ flags at i) where
  -- the next job's entries have their places
  pub marking-room : i < n → at + counts specs i ≤ length flags
  marking-room h = omega (arith, part-within (counts specs) i n h, m)

  pub marking-next : {flags' : List ℕ} {c : ℕ} → i < n → c ≡ counts specs i → flags' ≡ paste flags at (replicate c (get_or staying i 0)) c → Marking specs staying n flags₀ flags' (at + c) (i + 1)
  unfolding entry_flags concat_map total
  marking-next {flags'} {c} h e p =
      let x = get_or staying i 0 in
      let room : at + c ≤ length flags = omega (arith, marking-room h) in
      let long : length (replicate c x) ≡ c = length-replicate c x in
      let whole : take c (replicate c x) ≡ replicate c x = take_all c (replicate c x) (omega arith) in
      record {
        room = m.room;
        up_to = omega arith;
        place = omega (arith, m.place, ap total (rows_snoc (counts specs) i), total-append (rows_from (counts specs) 0 i) (counts specs i ∷ []));
        front = ap (take (at + c)) p
            ∙ take-paste flags at (replicate c x) c (omega arith) (omega arith)
            ∙ rw (whole, m.front, rows_snoc (λ (k : ℕ). k) i, concat_map-append, e, append-nil);
        kept = ap length p ∙ length-paste flags at (replicate c x) c room (omega arith) ∙ m.kept;
      }

  pub marking-ends : n ≤ i → (at ≡ total (rows_from (counts specs) 0 n)) × (take at flags ≡ entry_flags specs staying n)
  marking-ends h =
      let e : i ≡ n = omega (arith, m.up_to) in
      (rw e at m.place, rw e at m.front)

-- ---- counting

pub keep_append : {A : Type 0} (p : A → Bool) (xs ys : List A) → keep p (xs ++ ys) ≡ keep p xs ++ keep p ys
unfolding keep
keep_append p [] ys = refl
keep_append p (x ∷ xs) ys = go (p x) (keep_append p xs ys)
  where
    go : (b : Bool) → keep p (xs ++ ys) ≡ keep p xs ++ keep p ys → cond b (x ∷ keep p (xs ++ ys)) (keep p (xs ++ ys)) ≡ cond b (x ∷ keep p xs) (keep p xs) ++ keep p ys
    go true e = ap (λ l. x ∷ l) e
    go false e = e

-- as many flags are kept as are not 0
pub kept_length : (flags : List ℕ) → count_by (λ x. not (eqb x 0)) flags ≡ length (keep marked flags)
unfolding keep
kept_length flags = sym (is_count_by (λ (l : List ℕ). length (keep marked l)) (λ x. not (eqb x 0)) refl (λ x xs. step x xs) flags)
  where
    step : (x : ℕ) (xs : List ℕ) → length (keep marked (x ∷ xs)) ≡ cond (not (eqb x 0)) (1 + length (keep marked xs)) (length (keep marked xs))
    step zero xs = refl
    step (suc x) xs = rw (ne_eqb (suc x) 0 (λ e. omega arith)) (omega arith)
