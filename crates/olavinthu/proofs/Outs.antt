-- Each C function which answers through pointers leaves one value there. Assumes nothing.
use mathlib.Core.Path.{◌≡◌, sym, ◌∙◌}
use mathlib.Core.Logic.{by_cases}
use Prim.Native.Nat.{ℕ}
use native.Mathlib.Decide.{ℕ_discrete}
use mathlib.Core.Bool.{true}
use mathlib.Core.List.{List}
use lib.IntN.{ℤ}
use lib.Ieee.{Float, binary64, fits}
use Rattle.rules.specs.declared.Setting.{Setting}
use Rattle.rules.specs.Calls.{Buffers, ChangeoverCall, OpeningCall, LaneCall}
use Rattle.rules.specs.Millimetres.{FigureOf, TextOf}
use Rattle.rules.proofs.FloatWord.{one_value}
use Rattle.rules.proofs.Pinned.{changeover_pinned, opening_pinned, lane_pinned, figure_pinned, text_pinned}
use Rattle.rules.proofs.Slices.{slice_pinned}
use Rattle.olavinthu.specs.Out.{Out, SliceTold}

-- what a call leaves in an out-word is one value: the entry's call has one where the number is 0, and else it is as it was
out_pinned : {A : Type 0} {n n' : ℕ} {before after after' : A} → n ≡ n' → (n ≡ 0 → after ≡ after')
    → Out n before after → Out n' before after' → after ≡ after'
out_pinned {n = n} same answered o o' =
    by_cases (ℕ_discrete n 0) answered (λ some. o.kept some ∙ sym (o'.kept (λ z. some (same ∙ z))))

-- the changeover's C function answers one number and leaves one place
pub changeover_out_pinned : {i u a b n n' : ℕ} {p q q' : ℤ} → ChangeoverCall i u a b n q × Out n p q
    → ChangeoverCall i u a b n' q' × Out n' p q' → (n ≡ n') × (q ≡ q')
changeover_out_pinned (c, o) (c', o') =
    let (same, at) = changeover_pinned c c' in
    (same, out_pinned same at o o')

-- the opening's answers one number and leaves two
pub opening_out_pinned : {s : Setting} {n n' a b a₁ b₁ a₂ b₂ : ℕ} → OpeningCall s n a₁ b₁ × Out n a a₁ × Out n b b₁
    → OpeningCall s n' a₂ b₂ × Out n' a a₂ × Out n' b b₂ → (n ≡ n') × (a₁ ≡ a₂) × (b₁ ≡ b₂)
opening_out_pinned (c, o, p) (c', o', p') =
    let (same, both) = opening_pinned c c' in
    (same, out_pinned same (λ z. (both z).0) o o', out_pinned same (λ z. (both z).1) p p')

-- the lane's answers one number and leaves the buffers, the path, the width and the count in one way
pub lane_out_pinned : {w h : ℕ} {picture : List ℕ} {from to : ℕ} {before after after' : Buffers}
    {path exit exit' : List ℕ} {n n' broad cells broad₁ cells₁ broad₂ cells₂ : ℕ}
    → LaneCall w h picture from to before path n broad₁ cells₁ after exit × Out n broad broad₁ × Out n cells cells₁
    → LaneCall w h picture from to before path n' broad₂ cells₂ after' exit' × Out n' broad broad₂ × Out n' cells cells₂
    → (n ≡ n') × (after ≡ after') × (exit ≡ exit') × (broad₁ ≡ broad₂) × (cells₁ ≡ cells₂)
lane_out_pinned (c, o, p) (c', o', p') =
    let (same, left, path, both) = lane_pinned c c' in
    (same, left, path, out_pinned same (λ z. (both z).0) o o', out_pinned same (λ z. (both z).1) p p')

-- the figure's answers one number and leaves one f64
pub figure_out_pinned : {under : ℕ → ℕ} {pitch v v₁ v₂ : Float} {n n' : ℕ}
    → fits binary64 v₁ ≡ true → fits binary64 v₂ ≡ true → FigureOf under pitch n v₁ × Out n v v₁
    → FigureOf under pitch n' v₂ × Out n' v v₂ → (n ≡ n') × (v₁ ≡ v₂)
figure_out_pinned {v₁ = v₁} {v₂} f g (c, o) (c', o') =
    let (same, word) = figure_pinned c c' in
    (same, out_pinned same (λ z. one_value binary64 v₁ v₂ f g (word z)) o o')

-- the text's answers one number and leaves the bytes and the length in one way
pub text_out_pinned : {under : ℕ → ℕ} {pitch : Float} {before after after' : List ℕ} {n n' count count₁ count₂ : ℕ}
    → TextOf under pitch before n count₁ after × Out n count count₁
    → TextOf under pitch before n' count₂ after' × Out n' count count₂ → (n ≡ n') × (after ≡ after') × (count₁ ≡ count₂)
text_out_pinned (c, o) (c', o') =
    let (same, left, long) = text_pinned c c' in
    (same, left, out_pinned same long o o')

-- the slice's answers one number and leaves the buffers, the lines finished and the next line in one way
pub slice_out_pinned : {w h kind line budget : ℕ} {picture : List ℕ} {before after after' : Buffers}
    {finished next n n' finished₁ next₁ finished₂ next₂ : ℕ}
    → SliceTold w h kind line budget picture before finished next n finished₁ next₁ after
    → SliceTold w h kind line budget picture before finished next n' finished₂ next₂ after'
    → (n ≡ n') × (after ≡ after') × (finished₁ ≡ finished₂) × (next₁ ≡ next₂)
slice_out_pinned t t' =
    let (same, number, left, both) = slice_pinned t.call t'.call in (
      number,
      left,
      out_pinned same (λ z. (both z).0) t.finished_out t'.finished_out,
      out_pinned same (λ z. (both z).1) t.next_out t'.next_out,
    )
