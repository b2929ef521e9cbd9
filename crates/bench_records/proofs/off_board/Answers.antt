-- `bench_records::off_board` meets its contract: `any` asks the records in turn, and each that is asked settles 11 or
-- leaves it to the bytes after it. Assumes nothing.
use mathlib.Core.Path.{◌∙◌, sym, ap}
use lib.Dec.{leb}
use Rattle.std.proofs.Common.{rules, ◌≡◌, ℕ, Bool, true, false, ◌||◌, List, [], ◌∷◌, Bor, Option, None, Some, MatchOption}
use Rattle.std.specs.Fn.{Called, Mut}
use Rattle.std.specs.Iterator.{YieldsThen}
use Rattle.std.specs.List.{FoldsTo}
use Rattle.std.specs.Slice.Iter.{chunks_exact_rest, chunks_exact_size, chunks_exact_steps}
use Rattle.rules.specs.Limits.{bench_side}
use Rattle.rules.specs.BenchFile.{off_board}
use Rattle.bench_records.proofs.FileRecords.{column_of, row_of, off_board_record}
use Rattle.bench_records.proofs.off_board.Goals as goal

module _ {F : Type 0} (g : Mut F (Bor (List ℕ) × Unit {0}) Bool) (r : Bool)
    (asked : (f h : F) (x : Bor (List ℕ)) (b : Bool) → Called g f (x, tt) b h
    → b ≡ (leb bench_side (column_of x.now) || leb bench_side (row_of x.now))) where
  -- 11 holds by the record that is asked, or of what is left
  one : (s t : _) (f h : F) (x : Bor (List ℕ)) (b : Bool) → chunks_exact_size s ≡ 4 → chunks_exact_steps s (Some x) t
      → Called g f (x, tt) b h → (b || off_board (chunks_exact_rest t)) ≡ off_board (chunks_exact_rest s)
  one s t f h x b size step called =
      rw (asked f h x b called, step.1.0) (sym (off_board_record x.now (chunks_exact_rest t) (step.1.1 ∙ size)))

  -- no record passes, or the last that is asked does
  told : (s u : _) (f f' : F) (xs : List (Bor (List ℕ))) (o : Option (Bor (List ℕ))) → chunks_exact_size s ≡ 4
      → YieldsThen chunks_exact_steps s xs o u → FoldsTo (λ p x q. Called g p (x, tt) false q) f xs f'
      → MatchOption o (r ≡ false) (λ x. (r ≡ true) × ((h : F) × Called g f' (x, tt) true h))
      → r ≡ off_board (chunks_exact_rest s)
  told s u f f' [] None size (t, same, step) calls end = end ∙ sym (rw same (search rules))
  told s u f f' [] (Some x) size (t, same, step) calls (end, (h, called)) =
      end ∙ one s u f' h x true size (rw same step) called
  told s u f f' (x ∷ xs) o size (t, (j, step, more), last) (q, called, calls) end =
      told j u q f' xs o (step.0 ∙ size) (t, more, last) calls end ∙ one s j f q x false size step called

pub returns : goal.returns
returns c =
    let (xs, o, f', yields, calls, end) = c.any.ensures.ran in
    told _ c.any.result (λ f h x b called. search rules) _ _ _ f' xs o c.chunks_exact.ensures.size yields calls end
    ∙ ap off_board c.chunks_exact.ensures.rest
