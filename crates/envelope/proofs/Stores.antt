-- The stretches in their work words: the starts in the first n, the holders in the n after them. A start stored at place
-- `kept` and a holder stored at n + `kept` change no stretch before that. Assumes nothing.
use mathlib.Core.Path.{◌≡◌, refl, ◌∙◌, ap, subst}
use mathlib.Core.List.{List}
use Prim.Native.Nat.{ℕ, ◌+◌, ◌-◌, ◌≤◌, ◌<◌}
use native.Mathlib.Omega.{arith}
use lib.ListN.{length, get_or, set, length-set}
use lib.Seq.{get_or-set_same, get_or-set_other}
use Rattle.rules.specs.Answers.{kind_number}
use Rattle.rules.proofs.Measures.{lawful, has_parts}
use Rattle.rules.specs.declared.kind.LineKind.{LineKind}
use Rattle.gauge.specs.Line.{height_at}
use Rattle.gauge.specs.Places.{Place}
use Rattle.envelope.specs.Stretches.{starts, holders, Kept, Begins, Turn}

-- the places where a column holds are an initial stretch
pub initial : (kind : LineKind) (values : List ℕ) (u i x x' : ℕ) → i < u → x' ≤ x
    → height_at kind values i x ≤ height_at kind values u x → height_at kind values i x' ≤ height_at kind values u x'
unfolding height_at
initial kind values u i x x' l h t =
    (lawful (kind_number kind) (has_parts kind)).stretch i u (get_or values i 0) (get_or values u 0) x x' l h t

module _ {height : ℕ → ℕ → ℕ} {n u m kept place : ℕ} (work : List ℕ) (K : Kept height u m (starts work) (holders n work) kept)
    (B : Begins height n u (holders n work) kept place) where
  -- u begins past the line: nothing is stored
  pub turn_past : n ≤ place → Turn height n u m (starts work) (holders n work) kept kept (starts work) (holders n work)
  turn_past h =
      record {
        kept_is = K;
        starts_stay = λ k l. refl;
        holders_stay = λ k l. refl;
        place = place;
        place_is = B;
        on_line = λ l. absurd (omega arith);
        past_line = λ l. refl;
      }

  -- u begins on the line: its start and its number are stored
  pub turn_begun : length work ≡ n + n → kept < n → place < n → let after = set (set work kept place) (n + kept) u in
      Turn height n u m (starts work) (holders n work) kept (kept + 1) (starts after) (holders n after)
  turn_begun room low h =
      record {
        kept_is = K;
        starts_stay =
            λ k l. get_or-set_other first (n + kept) k u 0 (omega arith) ∙ get_or-set_other work kept k place 0 (omega arith);
        holders_stay =
            λ k l.
            get_or-set_other first (n + kept) (n + k) u 0 (omega arith) ∙ get_or-set_other work kept (n + k) place 0 (omega arith);
        place = place;
        place_is = B;
        on_line =
            λ l. (
              refl,
              get_or-set_other first (n + kept) kept u 0 (omega arith) ∙ get_or-set_same work kept place 0 (omega arith),
              get_or-set_same first (n + kept) u 0 (omega (arith, length-set work kept place)),
            );
        past_line = λ l. absurd (omega arith);
      }
    where
      first : List ℕ
      first = set work kept place

-- where the last stretch kept stops holding, there u begins
pub begins_after : {height : ℕ → ℕ → ℕ} {n u kept r i : ℕ} (work : List ℕ) → (kept ≡ 0 → ⊥) → i ≡ holders n work (kept - 1)
    → Place height n i u r → Begins height n u (holders n work) kept r
begins_after {height} {n} {u} {kept} {r} work some is P =
    record {
      all_taken = λ z. absurd (some z);
      after_last =
          λ k e. let last : kept - 1 ≡ k = omega arith in subst (λ j. Place height n j u r) (is ∙ ap (holders n work) last) P;
    }
