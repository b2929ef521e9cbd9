-- "With a bore present, W + H may stand for an empty column's G": put in for every empty column of a row, it leaves the
-- row's word and site what they were. A column that is not marked counts as before. A marked one combines to more than
-- every column that is not (`stand_in`), since the bore of that column is less than W columns and less than H rows away;
-- so with a bore in the picture no marked column attains the least. Assumes nothing.
use mathlib.Core.Path.{◌≡◌, sym, ap, subst}
use mathlib.Core.Logic.{◌≢◌, ◌↔◌, by_cases}
use mathlib.Core.Bool.{Bool, cond}
use mathlib.Core.List.{List}
use Prim.Native.Nat.{ℕ, ◌+◌, ◌<◌}
use native.Mathlib.Decide.{ℕ_discrete}
use native.Mathlib.Omega.{arith}
use borrow.Author.Tests.{eq-eqb, ne_eqb}
use Rattle.rules.specs.Limits.{mark}
use Rattle.rules.specs.Board.{away, Bored}
use Rattle.rules.specs.Measures.{HasParts, measure}
use Rattle.rules.specs.Columns.{ColumnWord, RowWord, stood_in, FullRowWord}
use Rattle.rules.proofs.Board.{away_min}
use Rattle.rules.proofs.Measures.{stand_in}

-- two numbers below n are less than n away from each other
near : {n a b : ℕ} → a < n → b < n → away a b < n
near {n} {a} {b} l k = omega (arith, away_min a b)

-- A row y of a picture, its column words, and a cell x of it, for a kind that has parts.
module _ (kind w h : ℕ) (picture : List ℕ) (x y : ℕ) (words : ℕ → ℕ) (parts : HasParts kind) (x_in : x < w)
    (y_in : y < h) (columns : (i : ℕ) → i < w → ColumnWord h (Bored w picture i) (away y) (words i)) where
  -- what |x − i| makes of the value of column i
  abbrev combine : ℕ → ℕ → ℕ
  combine = (measure kind).combine

  -- the value of a column by its word, and with W + H where it is marked
  abbrev own : ℕ → ℕ
  own i = (measure kind).lift (away y (words i))

  abbrev full : ℕ → ℕ
  full i = (measure kind).lift (stood_in w h y (words i))

  -- a column that is not marked counts as before
  same : {i : ℕ} → words i ≢ mark → combine (away x i) (full i) ≡ combine (away x i) (own i)
  same {i} a =
      ap (λ (b : Bool). combine (away x i) ((measure kind).lift (cond b (w + h) (away y (words i)))))
      (ne_eqb (words i) mark a)

  -- a marked one combines to more than it
  more : {i i' : ℕ} → i < w → words i ≢ mark → words i' ≡ mark →
      combine (away x i) (own i) < combine (away x i') (full i')
  more {i} {i'} l a e =
      let dy : away y (words i) < h = near y_in ((columns i l).named a).row_in in
      subst
      (λ (b : Bool). combine (away x i) (own i) <
      combine (away x i') ((measure kind).lift (cond b (w + h) (away y (words i')))))
      (sym (eq-eqb (words i') mark e))
      (stand_in kind w h (away x i') (away x i) (away y (words i)) parts (near x_in l) dy)

  -- what a row makes of its unmarked columns it makes of all of them
  to_full : {d site : ℕ} → RowWord w combine words own x d site → FullRowWord w combine words full x d site
  to_full r =
      record {
        i = r.i;
        column_in = r.column_in;
        word_is = omega (arith, r.word_is, same r.unmarked);
        site_is = r.site_is;
        least = λ i l. by_cases (ℕ_discrete (words i) mark)
            (λ (e : words i ≡ mark). omega (arith, r.word_is, more r.column_in r.unmarked e))
            (λ (a : words i ≢ mark). omega (arith, r.least i l a, same a));
        least_column = λ i l t. by_cases (ℕ_discrete (words i) mark)
            (λ (e : words i ≡ mark). absurd (omega (arith, t, r.word_is, more r.column_in r.unmarked e)))
            (λ (a : words i ≢ mark). r.least_column i l a (omega (arith, t, same a)));
      }

  -- and back, where a column is not marked: the one that attains the least is then not marked either
  from_full : {d site i : ℕ} → i < w → words i ≢ mark → FullRowWord w combine words full x d site →
      RowWord w combine words own x d site
  from_full {i = i} l a r =
      let unmarked : words r.i ≢ mark = λ e. omega (arith, r.word_is, r.least i l, same a, more l a e) in
      record {
        i = r.i;
        column_in = r.column_in;
        unmarked = unmarked;
        word_is = omega (arith, r.word_is, same unmarked);
        site_is = r.site_is;
        least = λ i l b. omega (arith, r.least i l, same b);
        least_column = λ i l b t. r.least_column i l (omega (arith, t, same b));
      }

  -- With a bore in the picture, a row has the same word and the same site whether its empty columns are left out or
  -- W + H stands for their G.
  pub stand_in_row : (i j d site : ℕ) → i < w → j < h → Bored w picture i j →
      RowWord w combine words own x d site ↔ FullRowWord w combine words full x d site
  stand_in_row i j d site l k bore = (to_full, from_full l (λ e. (columns i l).empty e j k bore))
