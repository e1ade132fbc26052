-- A seat compares its receipts with all entries.
use Rattle.std.proofs.Common.{◌≡◌, ◌+◌, ℕ, List, length, set, true, refl, sym, ◌∙◌, subst}
use mathlib.Core.Option.{some}
use lib.ListN.{get_elem?}
use Rattle.iocm_core.specs.Seen as seen
use Rattle.iocm_core.specs.declared.trace.Entry.{Entry}
use Rattle.iocm_board.specs.declared.view.View.{View}
use Rattle.iocm_board.specs.Rule.{all_names, Kept, Holds}
use Rattle.atomic_table.proofs.Lists.{set_again}
use Rattle.atomic_table.specs.Table.{keeps, Allows, Me}
use Rattle.iocm_board.specs.Names.{Name, bears}
use Rattle.iocm_board.specs.Receipts.{entries_of, names_of}
use Rattle.iocm_board.specs.Steps.{Alone, Compares, HasAll, TellAll}
use Rattle.iocm_board.proofs.Keeping.{names_there}
use Rattle.iocm_board.proofs.Looks.{word_again}
use Rattle.iocm_board.proofs.Receipts.{made_all}
use Rattle.iocm_board.proofs.Whole.{whole_all}

has_all : (run : seen.Core) (words : List ℕ) (views : List View) (id : ℕ) (v : View) (k : Kept run words views)
    → get_elem? views id ≡ some v → v.live ≡ true → v.keeps ≡ true → HasAll v
has_all run words views id v k here live keeps_list whole =
    let fits = k.fits id v here in
    let base = length run.entries in
    let all : (i : ℕ) (n : Name) → get_elem? (names_of k.since) i ≡ some n → bears v.names n ≡ true =
    λ i n e. let at = k.names.borne i n e in
    whole_all (all_names views) (names_of k.since) id v.names k.names (names_there views id v here) whole n at.0
    at.1 in
    subst (λ (o : seen.Core). TellAll o v.receipts v.list) (sym (fits.origin live))
    (entries_of k.since, (fits.list keeps_list).1, fits.receipts ∙ made_all v.names base k.since all)

pub compares : (run : seen.Core) (slots id : ℕ) (me : Me Entry View) → me.0.live ≡ true → me.0.keeps ≡ true
    → Allows (Holds run) slots id me 0 (λ n. n) (Alone Compares me)
compares run slots id me live keeps_list s kept homes here bound =
    let v = me.0 in
    let same = subst (λ (vs : List View). Kept run s.words vs) (sym (set_again s.views id v here)) kept in (
      v,
      keeps,
      tt,
      subst (λ ws. Kept run ws (set s.views id v))
          (sym (word_again s.words (length run.entries + length kept.since) kept.word)) same,
      ((refl, has_all run s.words s.views id v kept here live keeps_list), refl),
    )
