-- What the steps of reading a bench file ask and answer: bytes that have passed the tests 10 and 11, the memory that the
-- map is made in, and the first of the greatest words. Assumes nothing.
use Rattle.std.specs.Prelude.{◌≡◌, false, List, ℕ, ◌*◌, ◌≤◌, ◌<◌, length, get_or, replicate}
use Rattle.rules.specs.Limits.{bench_side}
use Rattle.rules.specs.BenchFile.{off_board}
use Rattle.rules.specs.Refusals.{bad_length, scratch_words}

-- neither 10 nor 11 holds of the bytes
pub record Readable (bytes : List ℕ) : Type 0 where
  pub whole : bad_length (length bytes) ≡ false
  pub inside : off_board bytes ≡ false

-- a sound board, and buffers of just its size
pub record Ready (picture : List ℕ) (distances sites scratch : ℕ) : Type 0 where
  pub sound : picture ≡ replicate (bench_side * bench_side) 0
  pub distances_is : distances ≡ bench_side * bench_side
  pub sites_is : sites ≡ bench_side * bench_side
  pub scratch_is : scratch ≡ scratch_words bench_side bench_side

-- the place of the greatest of a list's first n words, the first if there are several
pub record Peak (words : List ℕ) (n place : ℕ) : Type 0 where
  pub within : place < n
  pub greatest : (k : ℕ) → k < n → get_or words k 0 ≤ get_or words place 0
  pub first : (k : ℕ) → k < place → get_or words k 0 < get_or words place 0
