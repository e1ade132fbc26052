-- A seat is split: a name is lent, or the list is set back.
use Rattle.std.proofs.Common.{◌≡◌, ℕ, List, [], ◌∷◌, ◌++◌, length, set, true, false, refl, sym, ap, ◌∙◌, subst}
use Rattle.std.proofs.lemmas.List.{map-append}
use mathlib.Core.Option.{some}
use lib.ListN.{get_elem?}
use Rattle.iocm_core.specs.Seen as seen
use Rattle.iocm_board.specs.declared.view.View.{View}
use Rattle.iocm_board.specs.Rule.{all_names, Fits, Holds}
use Rattle.std.proofs.lemmas.Bool.{false_from_ne_true}
use Rattle.atomic_table.specs.Table.{Splits}
use Rattle.iocm_board.specs.Names.{Name, bears, child, fresh, lend, next_of, BearsSome, NamesKept}
use Rattle.iocm_board.specs.Receipts.{names_of, made_by}
use Rattle.iocm_board.specs.Views.{lends, borrows, caller_of, keeper_of}
use Rattle.iocm_board.proofs.Keeping.{names_set, names_still, names_there, off}
use Rattle.iocm_board.proofs.Lists.{each_set, each_end}
use Rattle.iocm_board.proofs.Names.{names_idle}
use Rattle.iocm_board.proofs.NamesSplit.{names_split, new_is_unused}
use Rattle.iocm_board.proofs.Receipts.{made_lend, made_none, made_nothing}
use Rattle.iocm_board.proofs.SameNames.{fresh_bears}

names_end : (views : List View) (w : View) → all_names (views ++ w ∷ []) ≡ all_names views ++ w.names ∷ []
names_end views w = map-append (λ (v : View). v.names) views (w ∷ [])

pub splits : (run : seen.Core) (id : ℕ) (v : View) → BearsSome v.names → Splits (Holds run) id v (lends v) (borrows v)
splits run id v named s kept here =
    let base = length run.entries in
    let fits = kept.fits id v here in
    let b = named.0 in
    let bs = named.1 in
    let there : get_elem? (all_names s.views) id ≡ some (b ∷ bs) = names_there s.views id v here ∙ ap some named.2 in
    let next : next_of v.names ≡ child b.name b.lent = ap next_of named.2 in
    let unused : (i : ℕ) (n : Name) → get_elem? (names_of kept.since) i ≡ some n
    → bears (fresh (child b.name b.lent)) n ≡ false =
    λ i n e. false_from_ne_true (bears (fresh (child b.name b.lent)) n)
    (λ h. new_is_unused (all_names s.views) (names_of kept.since) id b bs kept.names there i n e
    (fresh_bears (child b.name b.lent) n h)) in
    let nothing : [] ≡ made_by (fresh (next_of v.names)) base kept.since =
    sym (made_nothing (fresh (child b.name b.lent)) base kept.since unused)
    ∙ ap (λ n. made_by (fresh n) base kept.since) (sym next) in
    let all : all_names (set s.views id (lends v) ++ borrows v ∷ []) ≡ set (all_names s.views) id (lend (b ∷ bs))
    ++ fresh (child b.name b.lent) ∷ [] =
    names_end (set s.views id (lends v)) (borrows v)
    ∙ (λ i. names_set s.views id (lends v) i ++ fresh (next i) ∷ [])
    ∙ ap (λ x. set (all_names s.views) id (lend x) ++ fresh (child b.name b.lent) ∷ []) named.2 in
    record {
      keeper = kept.keeper;
      since = kept.since;
      word = kept.word;
      fits = each_end (Fits run kept.keeper kept.since) (set s.views id (lends v)) (borrows v)
          (each_set (Fits run kept.keeper kept.since) s.views id (lends v) (λ j u ne e. kept.fits j u e) (record {
            origin = fits.origin;
            below = fits.below;
            list = fits.list;
            receipts = fits.receipts ∙ sym (made_lend v.names base kept.since);
            seen = fits.seen;
          }))
          (record {
            origin = fits.origin;
            below = fits.below;
            list = λ h. absurd (off h);
            receipts = nothing;
            seen = tt;
          });
      names = subst (λ ns. NamesKept ns (names_of kept.since)) (sym all)
          (names_split (all_names s.views) (names_of kept.since) id b bs kept.names there);
    }

pub sets_back : (run : seen.Core) (id : ℕ) (v : View) → v.keeps ≡ true
    → Splits (Holds run) id v (caller_of v) (keeper_of v)
sets_back run id v mine s kept here =
    let base = length run.entries in
    let fits = kept.fits id v here in
    let keeper = length (set s.views id (caller_of v)) in
    let all : all_names (set s.views id (caller_of v) ++ keeper_of v ∷ []) ≡ all_names s.views ++ [] ∷ [] =
    names_end (set s.views id (caller_of v)) (keeper_of v)
    ∙ ap (λ ns. ns ++ [] ∷ []) (names_still s.views id v (caller_of v) here refl) in
    record {
      keeper = keeper;
      since = kept.since;
      word = kept.word;
      fits = each_end (Fits run keeper kept.since) (set s.views id (caller_of v)) (keeper_of v)
          (each_set (Fits run keeper kept.since) s.views id (caller_of v)
          (λ j u ne e. let f = kept.fits j u e in record {
            origin = f.origin;
            below = f.below;
            list = λ h. absurd (ne ((f.list h).0 ∙ sym (fits.list mine).0));
            receipts = f.receipts;
            seen = f.seen;
          })
          (record {
            origin = fits.origin;
            below = fits.below;
            list = λ h. absurd (off h);
            receipts = fits.receipts;
            seen = fits.seen;
          }))
          (record {
            origin = fits.origin;
            below = fits.below;
            list = λ _. (refl, (fits.list mine).1);
            receipts = sym (made_none base kept.since);
            seen = tt;
          });
      names = subst (λ ns. NamesKept ns (names_of kept.since)) (sym all)
          (names_idle (all_names s.views) (names_of kept.since) kept.names);
    }
