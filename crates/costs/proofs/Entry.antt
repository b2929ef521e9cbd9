-- The cost entry: what the map leaves where none of the tests holds. The map is made in the front of each buffer, so what
-- lies beyond is as it was. The kinds that pass the tests are kinds of lines. Assumes nothing.
use mathlib.Core.Path.{◌≡◌, refl}
use mathlib.Core.Logic.{◌≢◌}
use mathlib.Core.List.{List, ◌++◌}
use Prim.Native.Nat.{ℕ, zero, suc, ◌*◌, ◌≤◌, ◌<◌}
use native.Mathlib.Omega.{arith}
use lib.ListN.{length, get_or, drop, get_or-append}
use Rattle.rules.specs.declared.kind.LineKind.{LineKind}
use Rattle.rules.specs.declared.kind.LineKind.TheVariants.{Euclid, Manhattan}
use Rattle.rules.specs.Limits.{cost_kind_limit}
use Rattle.rules.specs.Answers.{kind_number}
use Rattle.rules.specs.Refusals.{scratch_words}
use Rattle.rules.specs.Accepted.{CostAccepted}
use Rattle.rules.specs.Tie.{CostMapWord, CostMapSite}
use Rattle.rules.specs.Calls.{buffers, Beyond, MapAfter}
use Rattle.rules.proofs.Board.{cell_in}
use Rattle.rules.proofs.Parts.{front_beyond}
use Rattle.cost_lines.specs.After.{RowsAfter}

-- a kind of costs is a kind of lines
pub line_kind : (n : ℕ) → n ≤ cost_kind_limit → ((kind : LineKind) → kind_number kind ≢ n) → ⊥
line_kind zero l none = none Euclid refl
line_kind (suc zero) l none = none Manhattan refl
line_kind (suc (suc n)) l none = absurd (omega arith)

-- what stands in the front of a list that has come back
front_at : {n k : ℕ} (l front : List ℕ) → length front ≡ n → k < n → get_or (front ++ drop n l) k 0 ≡ get_or front k 0
front_at {n} {k} l front e h = get_or-append front (drop n l) 0 k (omega arith)

-- the map stands in the front of each buffer
pub map_after : {w h kind : ℕ} {costs distances sites scratch scratch' : List ℕ} (words names : List ℕ)
    → CostAccepted w h kind costs (length distances) (length sites) (length scratch)
    → length words ≡ w * h → length names ≡ w * h → RowsAfter kind w h costs words names h
    → ((k : ℕ) → k < scratch_words w h → get_or scratch' k 0 ≡ 0) → Beyond (scratch_words w h) scratch scratch'
    → MapAfter w h (CostMapWord kind w h costs) (CostMapSite kind w h costs) (buffers distances sites scratch)
    (buffers (words ++ drop (w * h) distances) (names ++ drop (w * h) sites) scratch')
map_after {w} {distances = distances} {sites} words names A words_long names-long R zeroed beyond =
    record {
      words = λ x y l m. rw (front_at distances words words_long (cell_in l m)) ((R y m).words x l);
      names = λ x y l m. rw (front_at sites names names-long (cell_in l m)) ((R y m).names x l);
      zeroed = zeroed;
      distances_beyond = front_beyond distances words A.lent.distances_from words_long;
      sites_beyond = front_beyond sites names A.lent.sites_from names-long;
      scratch_beyond = beyond;
    }
