-- Words filled one by one along a row, and row by row. A store at a column changes that column's word and no other,
-- so a row grows by one column. Cells of different rows have different numbers, so rows grow by a row beside them and
-- keep what they had. Assumes nothing.
use mathlib.Core.Path.{◌≡◌, refl, ◌∙◌}
use mathlib.Core.Logic.{◌≢◌, by_cases}
use mathlib.Core.List.{List}
use Prim.Native.Nat.{ℕ, ◌+◌, ◌*◌, ◌≤◌, ◌<◌}
use native.Mathlib.Decide.{ℕ_discrete}
use native.Mathlib.Omega.{arith}
use borrow.Author.Count.{below_more}
use lib.ListN.{length, get_or, set, length-set}
use lib.Seq.{get_or-set_same, get_or-set_other}
use Rattle.rules.specs.Board.{cell}
use Rattle.rules.proofs.Board.{cell_inj}
use Rattle.columns.specs.Rows.{BandRow, BandRows}

module _ {start a x : ℕ} {Is : ℕ → ℕ → Type 0} {before words : List ℕ} (row : BandRow start a x Is before words) where
  -- a word that belongs to no column below x is as it was
  pub unfilled : (k : ℕ) → ((x' : ℕ) → x' < x → k ≢ start + x') → get_or words k 0 ≡ get_or before k 0
  unfilled k out = row.others k (λ x' l m e. out x' m e)

  -- column x is filled
  pub row_more : {i v : ℕ} → a ≤ x → i ≡ start + x → i < length words → Is x v →
      BandRow start a (x + 1) Is before (set words i v)
  row_more {i} {v} from at fits is =
      record {
        words = λ x' m n. below_more (λ k. a ≤ k → Is k (get_or (set words i v) (start + k) 0)) x
            (λ k p o. rw (get_or-set_other words i (start + k) v 0 (λ e. omega arith)) (row.words k o p))
            (λ o. rw (← at, get_or-set_same words i v 0 fits) is) x' n m;
        others = λ k out.
            get_or-set_other words i k v 0 (λ e. out x from (omega arith) (e ∙ at))
            ∙ row.others k (λ x' m n e. out x' m (omega arith) e);
        as_long = length-set words i v ∙ row.as_long;
      }

  -- every column up to b is filled
  pub row_end : {b : ℕ} → x ≤ b → b ≤ x → BandRow start a b Is before words
  row_end {b} l m = let e : x ≡ b = omega arith in rw e at row

-- no row
pub rows_none : {w a b c : ℕ} {Is : ℕ → ℕ → ℕ → Type 0} {words : List ℕ} → BandRows w a b c c Is words words
rows_none = record { words = λ x y l m o p. absurd (omega arith); others = λ k out. refl; as_long = refl }

-- the rows c' up to d' are the rows c up to d, and row y beside them
pub record Beside (c d y c' d' : ℕ) : Type 0 where
  pub rest : (y' : ℕ) → c' ≤ y' → y' < d' → y' ≢ y → (c ≤ y') × (y' < d)
  pub old : (y' : ℕ) → c ≤ y' → y' < d → (c' ≤ y') × (y' < d')
  pub new : (c' ≤ y) × (y < d')

-- rows and a row beside them
pub rows_more : {w a b c d y c' d' : ℕ} {Is : ℕ → ℕ → ℕ → Type 0} {One : ℕ → ℕ → Type 0}
    {before words after : List ℕ} → b ≤ w → Beside c d y c' d' → BandRows w a b c d Is before words →
    BandRow (y * w) a b One words after → ((x word : ℕ) → a ≤ x → x < b → One x word → Is x y word) →
    BandRows w a b c' d' Is before after
rows_more {w} {y = y} {after = after} inside beside rows row is =
    record {
      words = λ x y' l m o p. by_cases (ℕ_discrete y' y)
          (λ (e : y' ≡ y). rw e (is x (get_or after (cell w x y) 0) l m (row.words x l m)))
          (λ (n : y' ≢ y).
          let q = beside.rest y' o p n in
          rw (row.others (cell w x y') (λ x'' l'' m'' e. n (cell_inj y' y (omega arith) (omega arith) e).1))
          (rows.words x y' l m q.0 q.1));
      others = λ k out.
          row.others k (λ x l m e. out x y l m beside.new.0 beside.new.1 e)
          ∙ rows.others k (λ x y' l m o p e. let q = beside.old y' o p in out x y' l m q.0 q.1 e);
      as_long = row.as_long ∙ rows.as_long;
    }
