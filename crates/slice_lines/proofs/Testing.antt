-- Which lines can be done. A column of a band without a bad byte can; the first one with a bad byte, found by going from
-- column to column, stops with 5. A row's words are judged by one number, the most rows that one of them asks for: a word
-- asks for more rows than the board has exactly where it names none of them and is no mark, and all are marks exactly where
-- none is asked for. That number is the greatest of what the words ask for, as the test of bytes has it of bytes. What stops
-- a line has a number above 0. Assumes nothing.
use mathlib.Core.Path.{◌≡◌, refl, sym, ◌∙◌, subst}
use mathlib.Core.Logic.{◌≢◌, by_cases}
use mathlib.Core.Bool.{Bool, true, false}
use mathlib.Core.List.{List}
use Prim.Native.Nat.{ℕ, ◌+◌, ◌-◌, ◌*◌, ◌≤◌, ◌<◌, max}
use native.Mathlib.Nat.{le_refl}
use native.Mathlib.Decide.{ℕ_discrete}
use native.Mathlib.Omega.{arith}
use lib.ListN.{length, get_or, take, drop}
use borrow.Author.Tests.{eq-eqb, ne_eqb}
use Rattle.rules.specs.Limits.{mark}
use Rattle.rules.specs.Refusals.{answer}
use Rattle.rules.specs.Slices.{word_at, column_rows, row_rows}
use Rattle.rules.proofs.SliceRows.{column_0, column_5, row_0, row_6, row_13}
use Rattle.std.specs.List.{fold}
use Rattle.std.specs.Option.{MatchOption}
use Rattle.std.specs.declared.option.Option.{Option}
use Rattle.std.specs.declared.option.Option.TheVariants.{None, Some}
use Rattle.std.proofs.Common.{map}
use Rattle.std.proofs.lemmas.List.{length-map, take-map, drop-map, get_or-map}
use Rattle.columns.specs.Bands.{BadBand}
use Rattle.columns.specs.Rows.{Most}
use Rattle.columns.proofs.Testing.{most_is}
use Rattle.slice_lines.specs.Lines.{reached, FirstBad, rows_needed, MostNamed}

module _ {w h from : ℕ} {picture : List ℕ} where
  -- in a band without a bad byte no column stops
  pub whole_band : {to : ℕ} {r : Bool} → from ≤ to → BadBand w h from to picture r → r ≡ false → FirstBad w h from to picture to
  whole_band {to} l B is =
      record {
        from_in = l;
        to_in = le_refl to;
        none_stops = λ x m n. column_0 w h picture x (λ y o. B.passes is x y m n o);
        stops = λ m. absurd (omega arith);
      }

  -- the first column that the search finds is the first that stops, and none stops where it finds none
  pub first_found : {to : ℕ} (r : Option ℕ) → from ≤ to
      → MatchOption r ((x : ℕ) → from ≤ x → x < to → BadBand w h x (x + 1) picture false)
      (λ x. (from ≤ x) × (x < to) × BadBand w h x (x + 1) picture true × ((k : ℕ) → from ≤ k → k < x → BadBand w h k (k + 1) picture false))
      → FirstBad w h from to picture (reached to r)
  first_found {to} None l good =
      record {
        from_in = l;
        to_in = le_refl to;
        none_stops = λ x m n. column_0 w h picture x (λ y o. (good x m n).passes refl x y (le_refl x) (omega arith) o);
        stops = λ m. absurd (omega arith);
      }
  first_found (Some x) l (from_in, to_in, bad, good) =
      let (x', y, m, n, o, far) = bad.holds refl in
      let e : x' ≡ x = omega arith in
      record {
        from_in = from_in;
        to_in = omega arith;
        none_stops = λ k m n. column_0 w h picture k (λ y o. (good k m n).passes refl k y (le_refl k) (omega arith) o);
        stops = λ _. subst (λ (k : ℕ). answer (column_rows w h picture k) ≡ 5) e (column_5 w h picture x' y o far);
      }

-- the mark asks for no row, and a word that names one for one more than its number
needs_none : (word : ℕ) → word ≡ mark → rows_needed word ≡ 0
needs_none word e = rw (eq-eqb word mark e)

needs_more : (word : ℕ) → word ≢ mark → rows_needed word ≡ word + 1
needs_more word n = rw (ne_eqb word mark n)

-- a word that asks for none is the mark
needs_mark : (word : ℕ) → rows_needed word ≡ 0 → word ≡ mark
needs_mark word e = by_cases (ℕ_discrete word mark) (λ m. m) (λ n. absurd (omega (arith, needs_more word n)))

-- a word that asks for some is not
needs_row : (word : ℕ) → 0 < rows_needed word → word ≢ mark
needs_row word l e = omega (arith, needs_none word e)

-- the greatest of what the words ask for is the most that one of them asks for
pub most_named : {start w r : ℕ} {words : List ℕ} → start + w ≤ length words
    → r ≡ fold max 0 (map rows_needed (take (start + w - start) (drop start words))) → MostNamed start w words r
most_named {start} {w} {r} {words} fits folded =
    let at : start + 0 ≡ start = omega arith in
    let asked : List ℕ = map rows_needed words in
    let M : Most start 0 w asked r =
    most_is (rw length-map fits) (rw (at, drop-map, take-map) folded) in
    let needs : (i : ℕ) → i < w → get_or asked (start + i) 0 ≡ rows_needed (get_or words (start + i) 0) =
    λ i l. get_or-map rows_needed words (start + i) 0 0 (omega arith) in
    record {
      most = λ i l. omega (arith, M.greatest i (omega arith) l, needs i l);
      attained = λ some. let (i, from, l, is) = M.attained some in (i, l, sym (needs i l) ∙ is);
    }

module _ {w start : ℕ} {words : List ℕ} {most : ℕ} (M : MostNamed start w words most) (h y : ℕ) (at : start ≡ y * w) where
  -- more rows than there are: 13
  pub most_13 : h < most → answer (row_rows w h words y) ≡ 13
  most_13 far =
      let (i, l, e) = rw at at (M.attained (omega arith)) in
      let n = needs_row (word_at w words i y) (omega arith) in
      row_13 w h words y i l (omega (arith, needs_more (word_at w words i y) n)) n

  -- none: 6
  pub most_6 : most ≡ 0 → answer (row_rows w h words y) ≡ 6
  most_6 none = row_6 w h words y (λ x l. needs_mark (word_at w words x y) (omega (arith, rw at at (M.most x l))))

  -- else 0
  pub most_0 : most ≤ h → most ≢ 0 → answer (row_rows w h words y) ≡ 0
  most_0 near some =
      let (i, l, e) = rw at at (M.attained (omega arith)) in
      row_0 w h words y (λ x m n. omega (arith, rw at at (M.most x m), needs_more (word_at w words x y) n))
      (i, l, needs_row (word_at w words i y) (omega arith))
