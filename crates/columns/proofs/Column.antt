-- One column, word by word. Going down, the last bored row at or above a row is the row itself if it is bored, and
-- else that of the row above. Going up, the nearest bore of a row is the last one at or above it or the first one
-- below it. If the nearest bore of the row below lies below this row, it is that first one, and the two are compared.
-- If it lies at or above this row, every bore below is farther still, and the last one at or above is the nearest.
-- Assumes nothing.
use mathlib.Core.Path.{◌≡◌, refl, subst}
use mathlib.Core.Logic.{◌≢◌, by_cases}
use Prim.Native.Nat.{ℕ, ◌+◌, ◌-◌, ◌≤◌, ◌<◌}
use native.Mathlib.Nat.{le_refl}
use native.Mathlib.Decide.{dec_le, dec_lt, ℕ_discrete}
use native.Mathlib.Omega.{arith}
use Rattle.rules.specs.Limits.{mark}
use Rattle.rules.specs.Board.{away}
use Rattle.rules.specs.Columns.{Nearest, ColumnWord}
use Rattle.columns.specs.Words.{LastAbove, Above, Carried, Nearer}

module _ (byte : ℕ → ℕ) where
  -- the rows whose byte says that they are bored
  abbrev Bore : ℕ → Type 0
  Bore j = byte j ≡ 1

  -- a bored row is the last one at or above itself
  itself : {y : ℕ} → y < mark → Bore y → Above Bore y y
  itself {y} l f =
      record {
        named = λ _. record { at_or_above = le_refl y; feature = f; last = λ j k g. k };
        empty = λ e. absurd (omega arith);
      }

  -- the top row, with nothing above it
  pub top : {word : ℕ} → Carried (byte 0) 0 mark word → Above Bore 0 word
  top p =
      by_cases (ℕ_discrete (byte 0) 1)
      (λ (f : Bore 0). rw (p.bored f) (itself (omega arith) f))
      (λ (n : ¬ Bore 0). rw (p.sound n)
      (record {
        named = λ a. absurd (a refl);
        empty = λ _ j l f. let e : j ≡ 0 = omega arith in n (subst Bore e f);
      }))

  -- a step down, to row z from the row y above it
  pub step_down : {y z above word : ℕ} → z ≡ y + 1 → z < mark → Above Bore y above → Carried (byte z) z above word →
      Above Bore z word
  step_down {y} {z} {above} next l a p =
      by_cases (ℕ_discrete (byte z) 1)
      (λ (f : Bore z). rw (p.bored f) (itself l f))
      (λ (n : ¬ Bore z). rw (p.sound n) (on n))
    where
      still : ¬ Bore z → (j : ℕ) → j ≤ z → Bore j → j ≤ y
      still n j k f =
          by_cases (dec_le j y) (λ (i : j ≤ y). i)
          (λ (m : ¬ (j ≤ y)). let e : j ≡ z = omega arith in absurd (n (subst Bore e f)))

      on : ¬ Bore z → Above Bore z above
      on n =
          record {
            named = λ m. let q = a.named m in
                record {
                  at_or_above = omega arith;
                  feature = q.feature;
                  last = λ j k f. q.last j (still n j k f) f;
                };
            empty = λ e j k f. a.empty e j (still n j k f) f;
          }

module _ {Feature : ℕ → Type 0} {h y : ℕ} where
  -- the last row at or above y is the nearest, if no feature below y is nearer
  keeps : {j : ℕ} → y < h → LastAbove Feature y j →
      ((j' : ℕ) → y < j' → j' < h → Feature j' → y + y ≤ j + j') → Nearest h Feature (away y) j
  unfolding away
  keeps {j} l q far =
      record {
        row_in = omega arith;
        feature = q.feature;
        nearest = λ j' k f. by_cases (dec_le j' y) (λ (i : j' ≤ y). omega (arith, q.last j' i f))
            (λ (m : ¬ (j' ≤ y)). omega (arith, far j' (omega arith) k f));
        upper = λ j' k f e. omega arith;
      }

  -- the first row below y is the nearest, if it is strictly nearer than every feature at or above y
  takes : {j : ℕ} → y < j → j < h → Feature j →
      ((j' : ℕ) → y < j' → j' < h → Feature j' → j ≤ j') →
      ((j' : ℕ) → j' ≤ y → Feature j' → j + j' < y + y) → Nearest h Feature (away y) j
  unfolding away
  takes {j} l k f first far =
      record {
        row_in = k;
        feature = f;
        nearest = λ j' k' f'. by_cases (dec_le j' y) (λ (i : j' ≤ y). omega (arith, far j' i f'))
            (λ (m : ¬ (j' ≤ y)). omega (arith, first j' (omega arith) k' f'));
        upper = λ j' k' f' e. by_cases (dec_le j' y) (λ (i : j' ≤ y). absurd (omega (arith, far j' i f')))
            (λ (m : ¬ (j' ≤ y)). first j' (omega arith) k' f');
      }

-- in the last row the last feature at or above is the nearest
pub bottom : {Feature : ℕ → Type 0} {h y word : ℕ} → h ≡ y + 1 → Above Feature y word →
    ColumnWord h Feature (away y) word
bottom end a =
    record {
      named = λ m. keeps (omega arith) (a.named m) (λ j k k' f. absurd (omega arith));
      empty = λ e j k f. a.empty e j (omega arith) f;
    }

-- A step up, to row y from the row z below it.
module _ {Feature : ℕ → Type 0} {h y z above below : ℕ} (next : z ≡ y + 1) (row : z < h) (marked : h ≤ mark)
    (a : Above Feature y above) (b : ColumnWord h Feature (away z) below) where
  -- what a feature j below y knows of the row that `below` names: it comes first, or it lies nearer to z from above
  past : below ≢ mark → (j : ℕ) → y < j → j < h → Feature j → (y < below → below ≤ j) × (below ≤ y → y + y < below + j)
  unfolding away
  past n j l k f = let q = (b.named n).nearest j k f in (λ m. omega arith, λ m. omega arith)

  -- the word of the row below names no row below y: the word from above stays
  up_kept : below ≤ y → ColumnWord h Feature (away y) above
  up_kept m =
      let n : below ≢ mark = λ e. omega arith in
      let q = b.named n in
      record {
        named = λ i. let p = a.named i in
            keeps (omega arith) p (λ j l k f. omega (arith, (past n j l k f).1 m, p.last below m q.feature));
        empty = λ e. absurd (a.empty e below m q.feature);
      }

  -- nothing is at or above y: the word of the row below is taken
  up_alone : y < below → y < above → ColumnWord h Feature (away y) below
  up_alone m o =
      record {
        named = λ n. let q = b.named n in
            takes m q.row_in q.feature (λ j l k f. (past n j l k f).0 m) (λ j l f. absurd (none j l f));
        empty = b.empty;
      }
    where
      none : (j : ℕ) → j ≤ y → Feature j → ⊥
      none =
          by_cases (ℕ_discrete above mark) a.empty
          (λ (i : above ≢ mark). absurd (omega (arith, (a.named i).at_or_above)))

  -- Each of the two names a row, on its side of y.
  module _ (m : y < below) (o : above ≤ y) where
    -- the last feature at or above y
    over : LastAbove Feature y above
    over = a.named (λ e. omega arith)

    -- the nearest feature of the row below
    under : Nearest h Feature (away z) below
    under = b.named (λ e. b.empty e above (omega arith) over.feature)

    -- which is the first below y
    first : (j : ℕ) → y < j → j < h → Feature j → below ≤ j
    first j l k f = (past (λ e. omega (arith, under.row_in)) j l k f).0 m

    -- the one below is strictly nearer
    up_nearer : below - y < y - above → ColumnWord h Feature (away y) below
    up_nearer s =
        record {
          named = λ _. takes m under.row_in under.feature first
              (λ j l f. omega (arith, over.last j l f));
          empty = b.empty;
        }

    -- the one below is as far or farther
    up_farther : y - above ≤ below - y → ColumnWord h Feature (away y) above
    up_farther s =
        record {
          named = λ _. keeps (omega arith) over (λ j l k f. omega (arith, first j l k f));
          empty = λ e. absurd (omega arith);
        }

  -- in each case the step leaves the column's word
  pub step_up : {word : ℕ} → Nearer y above below word → ColumnWord h Feature (away y) word
  step_up {word} n = by_side (dec_le below y) (dec_lt y above) (dec_lt (below - y) (y - above))
    where
      by_side : Dec (below ≤ y) → Dec (y < above) → Dec (below - y < y - above) → ColumnWord h Feature (away y) word
      by_side (yes m) o s = rw (n.not_lower m) (up_kept m)
      by_side (no m) (yes o) s = rw (n.none_above (omega arith) o) (up_alone (omega arith) o)
      by_side (no m) (no o) (yes s) =
          rw (n.strictly (omega arith) (omega arith) s) (up_nearer (omega arith) (omega arith) s)
      by_side (no m) (no o) (no s) =
          rw (n.tie_or_farther (omega arith) (omega arith) (omega arith))
          (up_farther (omega arith) (omega arith) (omega arith))
