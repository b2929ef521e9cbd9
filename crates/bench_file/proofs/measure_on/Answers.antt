-- `bench_file::measure_on` meets its contract: the file's picture is bored; where it has no bore the answer is 6, and
-- otherwise the map is made, and the first of its greatest words is the farthest. Assumes nothing.
use mathlib.Core.Path.{◌≡◌, ◌∙◌, sym, subst}
use mathlib.Core.Bool.{false}
use Prim.Native.Nat.{◌*◌}
use lib.ListN.{length}
use Rattle.rules.specs.Limits.{bench_side}
use Rattle.rules.specs.BenchFile.{bored_by}
use Rattle.rules.specs.Refusals.{no_bore}
use Rattle.bench_file.specs.Reading.{Peak}
use Rattle.bench_file.proofs.Answering.{six, read_call, picture_of, count_of, map_accepted, farthest_of}
use Rattle.bench_file.proofs.measure_on.Goals.{After-bore-bores, Else-no_bore}
use Rattle.bench_file.proofs.measure_on.Goals as goal

-- what is bored is the file's picture
picture_is : (c : After-bore-bores) → c.bore-bores.new.picture ≡ bored_by c.args.file.now
picture_is c = picture_of c.args.file.now c.requires.1.sound c.bore-bores.ensures

-- past the test of 6 it has a bore
has_bore : (c : Else-no_bore) → no_bore c.bore-bores.new.picture ≡ false
has_bore c = sym c.no_bore.ensures ∙ c.if-no_bore.false

pub returns-then-no_bore : goal.returns-then-no_bore
returns-then-no_bore c = six c.args.file.now c.requires.0 (picture_is (goal.at.returns-then-no_bore c).After-bore-bores) (sym c.no_bore.ensures ∙ c.if-no_bore.true)

pub row_map-requires : goal.row_map-requires
row_map-requires c =
    let r = c.requires.1 in
    map_accepted c.args.file.now (picture_is (goal.at.row_map-requires c).After-bore-bores) (has_bore (goal.at.row_map-requires c).Else-no_bore)
    r.distances_is r.sites_is r.scratch_is

pub returns : goal.returns
returns c =
    let M = c.row_map.ensures 0 0 in
    let words = c.row_map.new.distances in
    let long : length words ≡ bench_side * bench_side = M.distances_beyond.as_long ∙ c.requires.1.distances_is in
    read_call c.args.file.now c.requires.0 (picture_is (goal.at.returns c).After-bore-bores) (has_bore (goal.at.returns c).Else-no_bore)
    (count_of c.requires.1.sound c.bore-bores.ensures)
    (farthest_of M.words (subst (λ n. Peak words n c.peak-number.result) long c.peak-number.ensures))
