-- A seat looks.
use Rattle.std.proofs.Common.{◌≡◌, ◌≤◌, ◌+◌, ℕ, List, [], ◌∷◌, length, set, refl, sym, ap, ◌∙◌, subst, arith}
use Rattle.iocm_core.specs.Seen as seen
use Rattle.iocm_core.specs.declared.trace.Entry.{Entry}
use Rattle.iocm_board.specs.declared.view.View.{View}
use Rattle.iocm_board.specs.Rule.{Kept, Holds}
use Rattle.std.specs.Prelude.{slice_index, slice_set}
use Rattle.atomic_table.specs.Table.{keeps, Allows, Me}
use Rattle.iocm_board.specs.Steps.{Alone, Looks}
use Rattle.iocm_board.specs.Views.{sees}
use Rattle.iocm_board.proofs.Keeping.{kept_set, list_length}
use Rattle.iocm_board.proofs.Receipts.{below_more}

-- the word as it stands, written again
pub word_again : (words : List ℕ) (n : ℕ) → words ≡ n ∷ [] → slice_set words 0 (slice_index words 0) ≡ words
word_again words n is = ap (λ (ws : List ℕ). slice_set ws 0 (slice_index ws 0)) is ∙ sym is

pub looks : (run : seen.Core) (slots id : ℕ) (me : Me Entry View)
    → Allows (Holds run) slots id me 0 (λ n. n) (Alone Looks me)
looks run slots id me s kept homes here bound =
    let v = me.0 in
    let fits = kept.fits id v here in
    let n = slice_index s.words 0 in
    let found : n ≡ length run.entries + length kept.since = ap (λ ws. slice_index ws 0) kept.word in
    let below : v.seen ≤ n = subst (λ m. v.seen ≤ m) (sym found) fits.below in
    let still = kept_set run s.words s.views id v (sees v n) kept here refl (record {
      origin = fits.origin;
      below = subst (λ m. n ≤ m) found (omega arith);
      list = fits.list;
      receipts = fits.receipts;
      seen = below_more v.seen n below v.receipts fits.seen;
    }) in (
      sees v n,
      keeps,
      tt,
      subst (λ ws. Kept run ws (set s.views id (sees v n)))
          (sym (word_again s.words (length run.entries + length kept.since) kept.word)) still,
      ((below, refl, λ k. found ∙ sym (list_length run kept.since v.list (fits.list k).1)), refl),
    )
