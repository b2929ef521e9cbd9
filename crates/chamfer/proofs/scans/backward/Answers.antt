-- One row more, which ends where the settled rows begin; at the end they begin with the first cell. Assumes nothing.
use mathlib.Core.Path.{◌≡◌, ap}
use Prim.Native.Nat.{ℕ, ◌+◌, ◌-◌, ◌*◌}
use native.Mathlib.Nat.{mul-le-mul_right}
use native.Mathlib.Omega.{arith}
use Rattle.rules.specs.Board.{cell}
use Rattle.chamfer.proofs.Settling.{backward_on}
use Rattle.chamfer.proofs.scans.backward.Goals as goal

pub loop-y-preserved : goal.loop-y-preserved
loop-y-preserved c =
    let w : ℕ = c.args.chamfer.board.w in
    let next : c.loop-y.y - 1 + 1 ≡ c.loop-y.y = omega arith in
    let row = ap (λ n. n * w) next in
    let rows = mul-le-mul_right w c.loop-y.auto.y in
    backward_on (omega arith) (omega arith) c.loop-y.invariant (rw next at c.backward_row.ensures)

pub returns : goal.returns
returns c =
    let w : ℕ = c.args.chamfer.board.w in
    let last : c.loop-y.y ≡ 0 = omega arith in
    let first : cell w 0 c.loop-y.y ≡ 0 = rw last (omega arith) in
    rw first at c.loop-y.invariant
