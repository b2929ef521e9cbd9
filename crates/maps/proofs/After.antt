-- What the steps of a map leave, put together. The sweeps leave the column words, which the row lines believe; a bore makes
-- its column name a row in every row, so each row has a winner; the step from columns to rows, cited from the rules, makes
-- of a row's words the map words and sites. Whatever the scratch then holds is set to zero. Assumes nothing.
use mathlib.Core.Path.{◌≡◌, refl, subst}
use mathlib.Core.List.{List}
use Prim.Native.Nat.{ℕ, ◌+◌, ◌*◌, ◌<◌}
use native.Mathlib.Nat.{mul_comm}
use native.Mathlib.Omega.{arith}
use lib.ListN.{get_or}
use Rattle.rules.specs.Limits.{mark}
use Rattle.rules.specs.Board.{cell}
use Rattle.rules.specs.Measures.{chamfer_kind}
use Rattle.rules.specs.Answers.{kind_number}
use Rattle.rules.specs.declared.kind.LineKind.{LineKind}
use Rattle.rules.proofs.Measures.{has_parts}
use Rattle.rules.specs.Tie.{MapWord, MapSite}
use Rattle.rules.specs.Refusals.{scratch_words}
use Rattle.rules.specs.Accepted.{PictureAccepted}
use Rattle.rules.specs.Calls.{buffers, Beyond, PictureAfter}
use Rattle.rules.proofs.Columns.{picture_step}
use Rattle.rules.proofs.Board.{cell_in}
use Rattle.rules.proofs.Parts.{beyond_more, beyond_both}
use Rattle.chamfer.specs.Scans.{Scanned}
use Rattle.columns.specs.Bands.{Swept}
use Rattle.columns.proofs.Bands.{whole_width}
use Rattle.maps.specs.Rows.{word_of, Believable, RowsMade}

module _ {w h kind d1 d2 : ℕ} {picture : List ℕ} {ld ls lc : ℕ} (A : PictureAccepted w h kind d1 d2 picture ld ls lc)
    {before swept : List ℕ} (S : Swept w h 0 w picture before swept) where
  -- the column words can be believed
  pub believable : Believable w h swept
  believable =
      record {
        named = λ x y in_row in_column n. ((S.words x y (omega arith) in_row in_column).named n).row_in;
        i₀ = A.bored.0;
        i₀_in = A.bored.2;
        i₀_named =
            λ y in_column e. (S.words A.bored.0 y (omega arith) A.bored.2 in_column).empty e A.bored.1 A.bored.3 A.bored.4;
      }

-- what a map by rows leaves
pub rows_after : {w h : ℕ} {kind : LineKind} {picture before swept after zeros d d' s s' : List ℕ}
    → Swept w h 0 w picture before swept → RowsMade kind w h h swept after d d' s s'
    → ((k : ℕ) → k < scratch_words w h → get_or zeros k 0 ≡ 0) → Beyond (scratch_words w h) after zeros → (e1 e2 : ℕ)
    → PictureAfter w h (kind_number kind) e1 e2 picture (buffers d s before) (buffers d' s' zeros)
rows_after {w} {h} {kind} {picture} {swept = swept} {d = d} {d'} {s} {s'} S R zeroed beyond e1 e2 =
    let n : ℕ = kind_number kind in
    let step : (x y : ℕ) → x < w → y < h
    → MapWord n e1 e2 w h picture x y (get_or d' (cell w x y) 0) × MapSite n e1 e2 w h picture x y (get_or s' (cell w x y) 0) =
    λ x y in_row in_column.
    picture_step n e1 e2 w h picture x y (word_of w swept y) (has_parts kind)
    (λ i b. S.words i y (omega arith) b in_column) (R.rows x y in_row in_column) in
    let at_end : h * w ≡ w * h = mul_comm h w in
    record {
      words = λ x y in_row in_column. (step x y in_row in_column).0;
      names =
          λ x y in_row in_column.
          record { named = λ _. (step x y in_row in_column).1; unnamed = λ e. absurd ((has_parts kind).no_chamfer e) };
      zeroed = zeroed;
      distances_beyond = subst (λ n. Beyond n d d') at_end R.distances_beyond;
      sites_beyond = subst (λ n. Beyond n s s') at_end R.sites_beyond;
      scratch_beyond =
          beyond_both
          (beyond_both (beyond_more {n = w * h} (omega arith) (record { as_long = S.as_long; untouched = whole_width S }))
          (beyond_more {n = w * h + w + w} (omega arith) R.scratch_beyond))
          beyond;
    }

-- what a map of kind 3 leaves
pub scans_after : {w h d1 d2 : ℕ} {picture d d' before marks scratch zeros : List ℕ} → Scanned w h d1 d2 picture d d'
    → ((k : ℕ) → k < w * h → get_or marks k 0 ≡ mark) → Beyond (w * h) before marks
    → ((k : ℕ) → k < scratch_words w h → get_or zeros k 0 ≡ 0) → Beyond (scratch_words w h) scratch zeros
    → PictureAfter w h chamfer_kind d1 d2 picture (buffers d before scratch) (buffers d' marks zeros)
scans_after {w} S marked sites_beyond zeroed scratch_beyond =
    record {
      words = S.words;
      names =
          λ x y in_row in_column.
          record {
            named = λ other. absurd (other refl);
            unnamed = λ _. marked (cell w x y) (cell_in in_row in_column);
          };
      zeroed = zeroed;
      distances_beyond = record { as_long = S.as_long; untouched = S.untouched };
      sites_beyond = sites_beyond;
      scratch_beyond = scratch_beyond;
    }
