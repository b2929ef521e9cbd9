-- The walk down the labels, event by event. From a cell the sides are tried in their order: one of them leads one label
-- down, and since the cells on the sides have rising numbers the first that does is the least. The walk writes each cell
-- that it comes to, and its label and the number of cells written make one more than the first label. Assumes nothing.
use mathlib.Core.Path.{◌≡◌, refl, ◌∙◌, sym, ap, subst₂}
use mathlib.Core.Logic.{by_cases}
use mathlib.Core.Bool.{true}
use mathlib.Core.List.{List}
use Prim.Native.Nat.{ℕ, zero, suc, ◌+◌, ◌-◌, ◌≤◌, ◌<◌}
use native.Mathlib.Decide.{dec_lt, dec_le}
use native.Mathlib.Omega.{arith}
use lib.ListN.{length, set, length-set}
use lib.Seq.{get_or-set_same, get_or-set_other}
use Rattle.std.proofs.Common.{Option, None, Some, Bor, slice_index_or}
use Rattle.std.specs.Option.{IfSome, IsSomeAnd, MatchOption, option_map}
use Rattle.std.specs.Fn.{Called, Mut}
use Rattle.std.specs.Iterator.Runs.{Run, SomeRun, CallKeepsClosure, AllItemsGive, IsFirstToGive, ItemsMapTo}
use Rattle.std.proofs.lemmas.Option.{none-some, same_Some}
use Rattle.rules.specs.Lane.{Neighbours}
use Rattle.lane_flood.specs.declared.sides.Side.{Side}
use Rattle.lane_flood.specs.declared.sides.Side.TheVariants.{Above}
use Rattle.lane_flood.specs.declared.sides.TheConstants.{SIDES}
use Rattle.lane_flood.specs.Around.{side_number, Lies}
use Rattle.lane_flood.specs.Labelling.{at, Descending}
use Rattle.lane_search.specs.Course.{Down}
use Rattle.lane_flood.proofs.Around.{around, lies_near, lies_rising}

-- the answer is the cell on side k of c where it leads to the label l, and none where it does not
pub record Leads (w n : ℕ) (label : ℕ → ℕ) (c l k : ℕ) (answer : Option ℕ) : Type 0 where
  pub lies : IfSome answer (λ p. (p < n) × Lies w c k p × (label p ≡ l))
  pub only : (q : ℕ) → q < n → Lies w c k q → label q ≡ l → answer ≡ Some q

-- each call of the closure at a side answers so, for the label one below that of c
abbrev pub Tells : {F : Type 0} → Mut F (Bor Side × Unit {0}) (Option ℕ) → F → ℕ → ℕ → (ℕ → ℕ) → ℕ → Type 0
Tells g f w n label c = (x : Bor Side) (o : Option ℕ) → Called g f (x, tt) o f
    → Leads w n label c (label c - 1) (side_number x.now) o

-- the item at a place is the side at that place of the list
item_is : (P : Bor Side → Type 0) (o : Option (Bor Side)) (side : Side) → option_map (λ y. y.now) o ≡ Some side
    → IfSome o P → (x : Bor Side) × (x.now ≡ side) × P x
item_is P None side e h = absurd (none-some side e)
item_is P (Some x) side e h = (x, same_Some x.now side e, h)

-- what holds of an item that is there holds of it if it is
item_there : (P : Bor Side → Type 0) (o : Option (Bor Side)) → IsSomeAnd o P → IfSome o P
item_there P None h = absurd h
item_there P (Some x) h = h

-- the side at place k of the list has the number k
side_place : (k : ℕ) → k < 4 → side_number (slice_index_or SIDES k Above) ≡ k
side_place zero h = refl
side_place (suc zero) h = refl
side_place (suc (suc zero)) h = refl
side_place (suc (suc (suc zero))) h = refl
side_place (suc (suc (suc (suc k)))) h = absurd (omega arith)

module _ {w n : ℕ} {label : ℕ → ℕ} {c : ℕ} {S F : Type 0} {steps : S → Option (Bor Side) → S → Type 0}
    {g : Mut F (Bor Side × Unit {0}) (Option ℕ)} {f : F} (pos : 0 < w) (inside : c < n) (more : 1 < label c)
    (D : Descending w n label)
  where
    module _ (keeps : CallKeepsClosure g f) (told : Tells g f w n label c) (p : Run steps)
        (items : ItemsMapTo p (λ y. y.now) SIDES) where
      -- what the call at place k answered
      told_at : (o : Option ℕ) (k : ℕ) → k < p.len → IfSome (p.at k) (λ x. Called g f (x, tt) o f)
          → Leads w n label c (label c - 1) k o
      told_at o k h call =
          let (x, is, done) = item_is (λ x. Called g f (x, tt) o f) (p.at k) _ (items.2 k Above h) call in
          let there = told x o done in
          rw (is, side_place k (omega (arith, items.0))) at there

      -- some side leads one label down
      some_leads : p.whole ≡ true → AllItemsGive p g f None → ⊥
      some_leads whole none =
          let (q, q_in, near, is) = D.lesser c inside more in
          let (k, k_in, lies) = around w c q pos near in
          let there = told_at None k (omega (arith, items.1 whole)) (none keeps k) in
          none-some q (there.only q q_in lies (omega arith))

      -- the first that does leads to the least
      first_leads : (y i : ℕ) → i < p.len → IsFirstToGive p g f (Some y) None i → Down w n label c y
      first_leads y i h first =
          let here = told_at (Some y) i h (item_there (λ x. Called g f (x, tt) (Some y) f) (p.at i) (first keeps).0) in
          record {
            inside = here.lies.0;
            near = lies_near w c y i pos here.lies.1;
            lesser = omega (arith, here.lies.2, more);
            least = least here.lies.1;
          }
        where
          before : (j : ℕ) → j < i → Leads w n label c (label c - 1) j None
          before j b =
              told_at None j (omega arith) (item_there (λ x. Called g f (x, tt) None f) (p.at j) ((first keeps).1 j b))

          least : Lies w c i y → (r : ℕ) → r < n → Neighbours w c r → label r + 1 ≡ label c → y ≤ r
          least lies r r_in near e =
              let (j, j_in, beside) = around w c r pos near in
              by_cases (dec_le i j) (λ b. lies_rising w c y r i j pos b lies beside)
              (λ o. absurd (none-some r ((before j (omega arith)).only r r_in beside (omega arith))))

    -- so a search of the four finds the cell to go to
    pub side_found : {s : S} (o : Option ℕ)
        → SomeRun steps s (λ p. MatchOption o ((p.whole ≡ true) × AllItemsGive p g f None)
        (λ y. (i : ℕ) × (i < p.len) × (p.len ≡ i + 1) × IsFirstToGive p g f (Some y) None i))
        → ((p : Run steps) → p.from ≡ s → ItemsMapTo p (λ y. y.now) SIDES) → CallKeepsClosure g f
        → Tells g f w n label c → IsSomeAnd o (Down w n label c)
    side_found None (p, from, none) items keeps told = absurd (some_leads keeps told p (items p from) none.0 none.1)
    side_found (Some y) (p, from, some) items keeps told =
        first_leads keeps told p (items p from) y some.0 some.1 some.3

-- the first i path words are written, and the last of them is c
pub record Walking (w n : ℕ) (label : ℕ → ℕ) (from cells : ℕ) (path : List ℕ) (c i : ℕ) : Type 0 where
  pub long : length path ≡ n
  pub some : 1 ≤ i
  pub most : i ≤ cells
  pub inside : c < n
  pub first : at path 0 ≡ from
  pub here : (j : ℕ) → j + 1 ≡ i → at path j ≡ c
  pub left : label c + i ≡ cells + 1
  pub steps : (j : ℕ) → j + 1 < i → Down w n label (at path j) (at path (j + 1))

module _ {w n : ℕ} {label : ℕ → ℕ} {from cells : ℕ} {path : List ℕ} {c i : ℕ} (W : Walking w n label from cells path c i)
  where
    -- the walk goes on to q
    pub walk_goes : {q : ℕ} → cells ≤ n → i < cells → Down w n label c q
        → Walking w n label from cells (set path i q) q (i + 1)
    walk_goes {q} few more D =
        record {
          long = length-set path i q ∙ W.long;
          some = omega arith;
          most = omega arith;
          inside = D.inside;
          first = stay 0 (omega (arith, W.some)) ∙ W.first;
          here = λ j e. let z : j ≡ i = omega arith in rw z new;
          left = omega (arith, W.left, D.lesser);
          steps = steps;
        }
      where
        new : at (set path i q) i ≡ q
        new = get_or-set_same path i q 0 (omega (arith, W.long))

        stay : (j : ℕ) → j < i → at (set path i q) j ≡ at path j
        stay j h = get_or-set_other path i j q 0 (omega arith)

        steps : (j : ℕ) → j + 1 < i + 1 → Down w n label (at (set path i q) j) (at (set path i q) (j + 1))
        steps j h =
            by_cases (dec_lt (j + 1) i)
            (λ b. subst₂ (Down w n label) (sym (stay j (omega arith))) (sym (stay (j + 1) b)) (W.steps j b))
            (λ o.
            let last : j + 1 ≡ i = omega arith in
            let from_c : at (set path i q) j ≡ c = stay j (omega arith) ∙ W.here j last in
            let to_q : at (set path i q) (j + 1) ≡ q = ap (at (set path i q)) last ∙ new in
            subst₂ (Down w n label) (sym from_c) (sym to_q) D)
