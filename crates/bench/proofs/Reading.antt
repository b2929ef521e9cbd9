-- A room that is filled from its start on, piece by piece. Assumes nothing.
use Rattle.std.proofs.Common.{◌≡◌, ℕ, ◌+◌, ◌≤◌, List, ◌++◌, length, take, ap, ap₂, ◌∙◌, le_refl, drop_at, length-take-le}
use Rattle.std.proofs.lemmas.Slice.{take-put_mid_below}
use borrow.Rule.Slice.PartMut.{put_mid, post_of}
use lib.Seq.{take-add, take-append-le}

-- n bytes that a call put at the start of the part from a on come after the first a
pub piece_behind : (a k n : ℕ) (room part : List ℕ) → a ≤ length room → n ≤ length part
    → take (a + n) (put_mid a k room part) ≡ take a room ++ take n part
piece_behind a k n room part within fits =
    let behind = ap (take n) (drop_at (take a room) (part ++ post_of a k room) a (length-take-le a room within)) in
    take-add a n (put_mid a k room part)
    ∙ ap₂ ◌++◌ (take-put_mid_below a k room part a (le_refl _) within) (behind ∙ take-append-le n part (post_of a k room) fits)
