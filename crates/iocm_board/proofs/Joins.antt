-- Two seats become one: callers are joined, or a caller takes up the list.
use Rattle.std.proofs.Common.{◌≡◌, ◌≢◌, ℕ, max, List, [], ◌++◌, length, set, Bool, true, false, cond, ◌||◌, refl, sym}
use Rattle.std.proofs.Common.{ap, ◌∙◌, subst, ⊎_elim, arith}
use mathlib.Core.Option.{some}
use lib.ListN.{get_elem?}
use Rattle.iocm_core.specs.Seen as seen
use Rattle.iocm_core.specs.declared.trace.Entry.{Entry}
use Rattle.iocm_board.specs.declared.view.View.{View}
use Rattle.iocm_board.specs.Rule.{all_names, Fits, Holds}
use Rattle.std.proofs.Math.Nat.{le-max_left, le-max_right, max-le}
use Rattle.atomic_table.specs.Table.{Joins}
use Rattle.atomic_table.proofs.Lists.{at_set}
use Rattle.iocm_board.specs.Names.{NamesKept}
use Rattle.iocm_board.specs.Receipts.{entries_of, names_of, merged}
use Rattle.iocm_board.specs.Spent.{spent}
use Rattle.iocm_board.specs.Views.{both, takes}
use Rattle.iocm_board.proofs.Keeping.{names_set, names_still, names_there, off}
use Rattle.iocm_board.proofs.Lists.{each_set}
use Rattle.iocm_board.proofs.NamesJoin.{names_join, names_apart}
use Rattle.iocm_board.proofs.Receipts.{below_merged, below_more, made_both, made_none}

-- the other seat, before the first knows what both do
other_there : (views : List View) (id other : ℕ) (x w : View) → ¬ (other ≡ id)
    → get_elem? (set views id x) other ≡ some w → get_elem? views other ≡ some w
other_there views id other x w apart there =
    ⊎_elim (λ (t : (other ≡ id) × (x ≡ w)). absurd (apart t.0))
    (λ (t : (other ≢ id) × (get_elem? views other ≡ some w)). t.1) (at_set views id other x w there)

spent_fits : (run : seen.Core) (keeper : ℕ) (since : List (Entry × List ℕ)) (at : ℕ) → Fits run keeper since at spent
spent_fits run keeper since at =
    record {
      origin = λ h. absurd (off h);
      below = omega arith;
      list = λ h. absurd (off h);
      receipts = sym (made_none (length run.entries) since);
      seen = tt;
    }

pub takes_up : (run : seen.Core) (id other : ℕ) (v w : View) → w.keeps ≡ true → w.names ≡ []
    → Joins (Holds run) id v other w (takes v w) spent
takes_up run id other v w keeper nameless s kept here apart there =
    let yonder = other_there s.views id other (takes v w) w apart there in
    let fits = kept.fits id v here in
    let theirs = kept.fits other w yonder in
    let all : all_names (set (set s.views id (takes v w)) other spent) ≡ all_names s.views =
    names_still (set s.views id (takes v w)) other w spent there (sym nameless)
    ∙ names_still s.views id v (takes v w) here refl in
    record {
      keeper = id;
      since = kept.since;
      word = kept.word;
      fits = each_set (Fits run id kept.since) (set s.views id (takes v w)) other spent
          (λ j u ne e. each_set (λ i x. i ≢ other → Fits run id kept.since i x) s.views id (takes v w)
          (λ i x _ at not_other. let f = kept.fits i x at in record {
            origin = f.origin;
            below = f.below;
            list = λ h. absurd (not_other ((f.list h).0 ∙ sym (theirs.list keeper).0));
            receipts = f.receipts;
            seen = f.seen;
          })
          (λ _. record {
            origin = fits.origin;
            below = max-le fits.below theirs.below;
            list = λ _. (refl, (theirs.list keeper).1);
            receipts = fits.receipts;
            seen = below_more v.seen (max v.seen w.seen) (le-max_left v.seen w.seen) v.receipts fits.seen;
          })
          j u e ne)
          (spent_fits run id kept.since other);
      names = subst (λ ns. NamesKept ns (names_of kept.since)) (sym all) kept.names;
    }

-- who keeps the list once the views are joined
keeps_on : (t : Bool) (i id other keeper : ℕ) → (t ≡ true → other ≡ keeper) → i ≡ keeper → i ≢ other
    → i ≡ cond t id keeper
keeps_on true i id other keeper theirs mine ne = absurd (ne (mine ∙ sym (theirs refl)))
keeps_on false i id other keeper theirs mine ne = mine

both_keep : (a b : Bool) (id other keeper : ℕ) (xs ys all : List Entry) → (a ≡ true → (id ≡ keeper) × (xs ≡ all))
    → (b ≡ true → (other ≡ keeper) × (ys ≡ all)) → (a || b) ≡ true
    → (id ≡ cond b id keeper) × (cond a xs ys ≡ all)
both_keep true true id other keeper xs ys all mine theirs h = (refl, (mine refl).1)
both_keep true false id other keeper xs ys all mine theirs h = mine refl
both_keep false true id other keeper xs ys all mine theirs h = (refl, (theirs refl).1)
both_keep false false id other keeper xs ys all mine theirs h = absurd (off h)

pub joins : (run : seen.Core) (id other : ℕ) (v w : View) → Joins (Holds run) id v other w (both v w) spent
joins run id other v w s kept here apart there =
    let base = length run.entries in
    let yonder = other_there s.views id other (both v w) w apart there in
    let fits = kept.fits id v here in
    let theirs = kept.fits other w yonder in
    let keeper = cond w.keeps id kept.keeper in
    let seen_by = max v.seen w.seen in
    let old = names_there s.views id v here in
    let old' = names_there s.views other w yonder in
    let all : all_names (set (set s.views id (both v w)) other spent)
    ≡ set (set (all_names s.views) id (v.names ++ w.names)) other [] =
    names_set (set s.views id (both v w)) other spent ∙ ap (λ ns. set ns other []) (names_set s.views id (both v w)) in
    record {
      keeper = keeper;
      since = kept.since;
      word = kept.word;
      fits = each_set (Fits run keeper kept.since) (set s.views id (both v w)) other spent
          (λ j u ne e. each_set (λ i x. i ≢ other → Fits run keeper kept.since i x) s.views id (both v w)
          (λ i x _ at not_other. let f = kept.fits i x at in record {
            origin = f.origin;
            below = f.below;
            list = λ h. (
              keeps_on w.keeps i id other kept.keeper (λ t. (theirs.list t).0) (f.list h).0 not_other,
              (f.list h).1,
            );
            receipts = f.receipts;
            seen = f.seen;
          })
          (λ _. record {
            origin = fits.origin;
            below = max-le fits.below theirs.below;
            list = both_keep v.keeps w.keeps id other kept.keeper v.list w.list (run.entries ++ entries_of kept.since)
                fits.list theirs.list;
            receipts = (λ i. merged (theirs.receipts i) (fits.receipts i))
                ∙ sym (made_both v.names w.names base kept.since
                (names_apart (all_names s.views) (names_of kept.since) id other v.names w.names kept.names old old'
                apart));
            seen = below_merged seen_by w.receipts v.receipts
                (below_more w.seen seen_by (le-max_right v.seen w.seen) w.receipts theirs.seen)
                (below_more v.seen seen_by (le-max_left v.seen w.seen) v.receipts fits.seen);
          })
          j u e ne)
          (spent_fits run keeper kept.since other);
      names = subst (λ ns. NamesKept ns (names_of kept.since)) (sym all)
          (names_join (all_names s.views) (names_of kept.since) id other v.names w.names kept.names old old' apart);
    }
