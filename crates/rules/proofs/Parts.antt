-- A part of a list that is lent and comes back: the elements of the part by their places in the whole, and of the whole
-- after the part has come back. Assumes nothing.
use mathlib.Core.Path.{◌≡◌, ◌∙◌, sym, ap, subst}
use mathlib.Core.List.{List, ◌++◌}
use Prim.Native.Nat.{ℕ, ◌+◌, ◌-◌, ◌≤◌, ◌<◌}
use native.Mathlib.Omega.{arith}
use lib.ListN.{length, get_or, take, drop, length-drop, get_or-append}
use lib.Seq.{length-take-le, length_front, get_or-take, get_or-drop, get_or-append-add, drop-drop, drop_at}
use Rattle.rules.specs.Calls.{Beyond}
use borrow.Rule.Slice.PartMut.{put_mid, post_of, take_put}

-- the length of the part from a to e
pub part_length : {a e : ℕ} (s : List ℕ) → a ≤ e → e ≤ length s → length (take (e - a) (drop a s)) ≡ e - a
part_length {a} {e} s h l = length-take-le (e - a) (drop a s) (simp length-drop (omega arith))

-- its element i is element a + i of the whole
pub part_at : (a e : ℕ) (s : List ℕ) (i : ℕ) → i < e - a → get_or (take (e - a) (drop a s)) i 0 ≡ get_or s (a + i) 0
part_at a e s i h = get_or-take (e - a) (drop a s) i 0 h ∙ get_or-drop a s i 0

-- what stands before the part stays
pub put_before : {a : ℕ} (k : ℕ) (s ys : List ℕ) {j : ℕ} → a ≤ length s → j < a → get_or (put_mid a k s ys) j 0 ≡ get_or s j 0
put_before {a} k s ys {j} l h =
    sym (get_or-take a (put_mid a k s ys) j 0 h) ∙ ap (λ t. get_or t j 0) (take_put a k s ys l) ∙ get_or-take a s j 0 h

-- what comes back stands in the part's place
pub put_inside : {a : ℕ} (k : ℕ) (s ys : List ℕ) {i : ℕ} → a ≤ length s → i < length ys
    → get_or (put_mid a k s ys) (a + i) 0 ≡ get_or ys i 0
put_inside {a} k s ys {i} l h =
    ap (λ n. get_or (put_mid a k s ys) (n + i) 0) (sym (length-take-le a s l))
    ∙ get_or-append-add (take a s) (ys ++ post_of a k s) i 0 ∙ get_or-append ys (post_of a k s) 0 i h

-- a list whose first n words have come back is as it was beyond them
pub front_beyond : {n : ℕ} (l front : List ℕ) → n ≤ length l → length front ≡ n → Beyond n l (front ++ drop n l)
front_beyond {n} l front h e =
    record {
      as_long = length_front l front n (e ∙ sym (length-take-le n l h));
      untouched = drop_at front (drop n l) n e;
    }

-- what is untouched from place n on is untouched from any later place on
pub beyond_more : {n m : ℕ} {before after : List ℕ} → n ≤ m → Beyond n before after → Beyond m before after
beyond_more {n} {m} {before} {after} h B =
    let e : n + (m - n) ≡ m = omega arith in
    record {
      as_long = B.as_long;
      untouched =
          subst (λ k. drop k after ≡ drop k before) e
          (sym (drop-drop (m - n) n after) ∙ ap (drop (m - n)) B.untouched ∙ drop-drop (m - n) n before);
    }

-- and through two steps
pub beyond_both : {n : ℕ} {a b c : List ℕ} → Beyond n a b → Beyond n b c → Beyond n a c
beyond_both B C = record { as_long = C.as_long ∙ B.as_long; untouched = C.untouched ∙ B.untouched }
