-- `rows::site_word` meets its contract: a row and a column below the side limit make a small number. Assumes nothing.
use Prim.Native.Nat.{◌*◌, ◌≤◌}
use native.Mathlib.Nat.{mul-le-mul}
use native.Mathlib.Omega.{arith}
use Rattle.rules.specs.Limits.{side_limit}
use Rattle.rows.proofs.site_word.Goals.{Start}
use Rattle.rows.proofs.site_word.Goals as goal

-- the row times the width is small
small : (c : Start) → c.args.word * c.args.w ≤ side_limit * side_limit
small c =
    let low : c.args.word ≤ side_limit = omega arith in
    mul-le-mul low c.requires.0

pub overflow_mul-result : goal.overflow_mul-result
overflow_mul-result c = omega (arith, small c)

pub overflow_add-result : goal.overflow_add-result
overflow_add-result c = omega (arith, small c)

pub overflow_cast-result : goal.overflow_cast-result
overflow_cast-result c = omega (arith, small c)
