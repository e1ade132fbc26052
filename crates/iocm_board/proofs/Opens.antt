-- A board is opened.
use Rattle.std.proofs.Common.{◌≡◌, ◌+◌, ℕ, zero, suc, [], ◌∷◌, length, true, inl, refl, sym, ap, ◌∙◌, subst, arith}
use Rattle.std.proofs.lemmas.List.{append-nil}
use mathlib.Core.Option.{some}
use lib.ListN.{get_elem?}
use Rattle.iocm_core.specs.Seen as seen
use Rattle.iocm_board.specs.declared.view.View.{View}
use Rattle.iocm_board.specs.Rule.{Fits, Kept}
use mathlib.Core.Option.{some-injective, some-ne-none}
use Rattle.iocm_board.specs.Names.{Name, bears, fresh, BearsAt}
use Rattle.iocm_board.specs.Views.{first_view}
use Rattle.iocm_board.proofs.SameNames.{fresh_bears}

first_fits : (run : seen.Core) → Fits run 0 [] 0 (first_view run)
first_fits run =
    record {
      origin = λ _. refl;
      below = omega arith;
      list = λ _. (refl, sym (append-nil run.entries));
      receipts = refl;
      seen = tt;
    }

each_first : (run : seen.Core) (at : ℕ) (v : View) → get_elem? (first_view run ∷ []) at ≡ some v → Fits run 0 [] at v
each_first run zero v e = subst (Fits run 0 [] 0) (some-injective (first_view run) v e) (first_fits run)
each_first run (suc at) v e = absurd (some-ne-none v (sym e))

one_seat : (i : ℕ) (n : Name) → BearsAt (fresh [] ∷ []) i n → (i ≡ 0) × (n ≡ [])
one_seat zero n at = (
  refl,
  sym (fresh_bears [] n (subst (λ bs. bears bs n ≡ true) (sym (some-injective (fresh []) at.0 at.1)) at.2)),
)
one_seat (suc i) n at = absurd (some-ne-none at.0 (sym at.1))

no_name : (k : ℕ) (n : Name) → get_elem? {A = Name} [] k ≡ some n → ⊥
no_name k n e = some-ne-none n (sym e)

pub opens : (run : seen.Core) → Kept run (length run.entries ∷ []) (first_view run ∷ [])
opens run =
    record {
      keeper = 0;
      since = [];
      word = ap (λ n. n ∷ []) (let h : length run.entries ≡ length run.entries + 0 = omega arith in h);
      fits = each_first run;
      names = record {
        apart = λ i j n a b. (one_seat i n a).0 ∙ sym (one_seat j n b).0;
        grown = λ i n a. inl (one_seat i n a).1;
        borne = λ k n e. absurd (no_name k n e);
      };
    }
