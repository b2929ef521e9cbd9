-- 002's scan 3, column by column. The places of the line fall into stretches, each with one holder: the column that
-- wins there among the columns taken so far. `t k` is the start of stretch k, `s k` its holder, `m` their number, `n` the
-- length of the line. Assumes nothing.
use Rattle.std.specs.Prelude.{◌≡◌, List, ℕ, ◌+◌, ◌≤◌, ◌<◌, length, get_or}
use Rattle.gauge.specs.Line.{Line, Wins}
use Rattle.gauge.specs.Places.{Place}

-- where the stretches are kept: the starts in the first n work words, the holders in the n after them
abbrev pub starts : List ℕ → ℕ → ℕ
starts work k = get_or work k 0

abbrev pub holders : ℕ → List ℕ → ℕ → ℕ
holders n work k = get_or work (n + k) 0

-- what the functions of scan 3 are given: a line, and work words with room for its stretches
pub record Given (values work : List ℕ) : Type 0 where
  pub line : Line values
  pub room : length work ≡ length values + length values

-- the place x lies in stretch k
pub record Within (n m : ℕ) (t : ℕ → ℕ) (k x : ℕ) : Type 0 where
  pub stretch_in : k < m
  pub from : t k ≤ x
  pub on_line : x < n
  pub before_next : k + 1 < m → x < t (k + 1)

-- the stretches of the columns below u
pub record Stretches (height : ℕ → ℕ → ℕ) (n u m : ℕ) (t s : ℕ → ℕ) : Type 0 where
  pub some : 1 ≤ m
  pub first : t 0 ≡ 0
  pub on_line : (k : ℕ) → k < m → t k < n
  pub rising : (k : ℕ) → k + 1 < m → t k < t (k + 1)
  pub order : (k : ℕ) → k + 1 < m → s k < s (k + 1)
  pub few : m ≤ u
  pub winner : (k x : ℕ) → Within n m t k x → Wins height u x (s k)

-- 002's inner loop takes stretches off from the right: `kept` are left when column u comes. u is strictly lower at the
-- start of each stretch taken off, and not at the start of the last one left.
pub record Kept (height : ℕ → ℕ → ℕ) (u m : ℕ) (t s : ℕ → ℕ) (kept : ℕ) : Type 0 where
  pub most : kept ≤ m
  pub taken : (k : ℕ) → kept ≤ k → k < m → height u (t k) < height (s k) (t k)
  pub stays : (k : ℕ) → k + 1 ≡ kept → height (s k) (t k) ≤ height u (t k)

-- the holder of the last stretch kept is a column before u, and holds the first place against it
pub record Against (height : ℕ → ℕ → ℕ) (u : ℕ) (s : ℕ → ℕ) (kept : ℕ) : Type 0 where
  pub before : (k : ℕ) → k + 1 ≡ kept → s k < u
  pub first : (k : ℕ) → k + 1 ≡ kept → height (s k) 0 ≤ height u 0

-- where column u begins: at the first place if no stretch is kept, else where the last one kept stops holding
pub record Begins (height : ℕ → ℕ → ℕ) (n u : ℕ) (s : ℕ → ℕ) (kept r : ℕ) : Type 0 where
  pub all_taken : kept ≡ 0 → r ≡ 0
  pub after_last : (k : ℕ) → k + 1 ≡ kept → Place height n (s k) u r

-- one turn of scan 3, with column u: what it leaves of the stretches t, s is t', s', m' many
pub record Turn (height : ℕ → ℕ → ℕ) (n u m : ℕ) (t s : ℕ → ℕ) (kept m' : ℕ) (t' s' : ℕ → ℕ) : Type 0 where
  pub kept_is : Kept height u m t s kept
  pub starts_stay : (k : ℕ) → k < kept → t' k ≡ t k
  pub holders_stay : (k : ℕ) → k < kept → s' k ≡ s k
  pub place : ℕ
  pub place_is : Begins height n u s kept place
  pub on_line : place < n → (m' ≡ kept + 1) × (t' kept ≡ place) × (s' kept ≡ u)
  pub past_line : n ≤ place → m' ≡ kept

-- stretches that scan 4 can spread over n places, whoever their holders are
pub record Spreads (work : List ℕ) (m n : ℕ) : Type 0 where
  pub words : length work ≡ n + n
  pub some : 1 ≤ m
  pub most : m ≤ n
  pub first : starts work 0 ≡ 0
  pub on_line : (k : ℕ) → k < m → starts work k < n
  pub rising : (k : ℕ) → k + 1 < m → starts work k < starts work (k + 1)

-- each of the n places has the holder of its stretch
pub record Spread (work : List ℕ) (m n : ℕ) (winners : List ℕ) : Type 0 where
  pub holder : (k x : ℕ) → Within n m (starts work) k x → get_or winners x 0 ≡ holders n work k
