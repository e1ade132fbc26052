-- A step of which the names of all seats stay.
use Rattle.std.proofs.Common.{◌≡◌, ◌+◌, ℕ, List, ◌++◌, length, set, true, false, true≢false, sym, ap, ◌∙◌, subst}
use Rattle.std.proofs.lemmas.List.{length-append, length-map}
use mathlib.Core.Option.{some}
use lib.ListN.{get_elem?}
use Rattle.iocm_core.specs.Seen as seen
use Rattle.iocm_core.specs.declared.trace.Entry.{Entry}
use Rattle.iocm_board.specs.declared.view.View.{View}
use Rattle.iocm_board.specs.Rule.{all_names, Fits, Kept}
use Rattle.atomic_table.proofs.Lists.{at_map, set_again}
use Rattle.iocm_board.specs.Names.{Name, bears, BearsAt, NamesKept}
use Rattle.iocm_board.specs.Receipts.{entries_of, names_of}
use Rattle.iocm_board.proofs.Lists.{each_set, map_set}

pub off : false ≡ true → ⊥
off e = true≢false (sym e)

-- the names of all seats, where one knows something else
pub names_set : (views : List View) (id : ℕ) (w : View) → all_names (set views id w) ≡ set (all_names views) id w.names
names_set views id w = map_set (λ (v : View). v.names) views id w

pub names_there : (views : List View) (id : ℕ) (v : View) → get_elem? views id ≡ some v
    → get_elem? (all_names views) id ≡ some v.names
names_there views id v here = at_map (λ (x : View). x.names) views id v here

pub names_still : (views : List View) (id : ℕ) (v w : View) → get_elem? views id ≡ some v → w.names ≡ v.names
    → all_names (set views id w) ≡ all_names views
names_still views id v w here is =
    names_set views id w ∙ ap (set (all_names views) id) is
    ∙ set_again (all_names views) id v.names (names_there views id v here)

pub bears_there : (views : List View) (id : ℕ) (v : View) (n : Name) → get_elem? views id ≡ some v
    → bears v.names n ≡ true → BearsAt (all_names views) id n
bears_there views id v n here has = (v.names, names_there views id v here, has)

-- the list of all entries is as long as the word says
pub list_length : (run : seen.Core) (since : List (Entry × Name)) (list : List Entry)
    → list ≡ run.entries ++ entries_of since → length list ≡ length run.entries + length since
list_length run since list is =
    ap length is ∙ length-append run.entries (entries_of since)
    ∙ ap (λ n. length run.entries + n) (length-map since (λ s. s.0))

-- the rule is kept where one seat knows something else, under the same names
pub kept_set : (run : seen.Core) (words : List ℕ) (views : List View) (id : ℕ) (v w : View) (k : Kept run words views)
    → get_elem? views id ≡ some v → w.names ≡ v.names
    → Fits run k.keeper k.since id w → Kept run words (set views id w)
kept_set run words views id v w k here is fits =
    record {
      keeper = k.keeper;
      since = k.since;
      word = k.word;
      fits = each_set (Fits run k.keeper k.since) views id w (λ j u ne e. k.fits j u e) fits;
      names = subst (λ ns. NamesKept ns (names_of k.since)) (sym (names_still views id v w here is)) k.names;
    }
