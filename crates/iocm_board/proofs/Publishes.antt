-- A seat publishes an entry.
use Rattle.std.proofs.Common.{◌≡◌, ◌≢◌, ◌≤◌, ◌+◌, ◌==◌, ℕ, suc, List, [], ◌∷◌, ◌++◌, length, set, true, refl, sym, ap}
use Rattle.std.proofs.Common.{◌∙◌, subst, arith}
use Rattle.std.proofs.lemmas.List.{length-append, map-append, append_assoc}
use mathlib.Core.Option.{some}
use lib.ListN.{get_elem?}
use Rattle.iocm_core.specs.Seen as seen
use Rattle.iocm_core.specs.declared.trace.Entry.{Entry}
use Rattle.iocm_board.specs.declared.view.View.{View}
use Rattle.iocm_board.specs.Rule.{all_names, Fits, Kept, Holds}
use Rattle.std.proofs.lemmas.Bool.{eq-eqb, false_from_ne_true}
use Rattle.std.specs.Prelude.{slice_index, slice_set}
use prog.Atomic.{either}
use Rattle.atomic_table.specs.Table.{keeps, Allows, Me, step}
use Rattle.iocm_board.specs.Names.{Name, bears, BearsSome, NamesKept}
use Rattle.iocm_board.specs.Receipts.{entries_of, names_of, made}
use Rattle.iocm_board.specs.Steps.{Alone, Publishes}
use Rattle.iocm_board.specs.Views.{adds}
use Rattle.iocm_board.proofs.Keeping.{bears_there, list_length, names_still}
use Rattle.iocm_board.proofs.Lists.{each_set}
use Rattle.iocm_board.proofs.Names.{names_publish}
use Rattle.iocm_board.proofs.Receipts.{below_last, below_more, made_hit, made_miss}
use Rattle.iocm_board.proofs.SameNames.{bears_first}

module _
    (run : seen.Core) (words : List ℕ) (views : List View) (id : ℕ) (v : View) (e : Entry) (k : Kept run words views)
    (here : get_elem? views id ≡ some v)
    (mine : v.keeps ≡ true) (named : BearsSome v.names)
  where
    abbrev name : Name
    name = named.0.name

    abbrev then : List (Entry × Name)
    then = k.since ++ (e, name) ∷ []

    has : bears v.names name ≡ true
    has = subst (λ bs. bears bs name ≡ true) (sym named.2) (bears_first named.0 named.1)

    longer : length then ≡ length k.since + 1
    longer = length-append k.since ((e, name) ∷ [])

    listed : length v.list ≡ length run.entries + length k.since
    listed = list_length run k.since v.list ((k.fits id v here).list mine).1

    other_fits : (j : ℕ) (u : View) → j ≢ id → get_elem? views j ≡ some u → Fits run k.keeper then j u
    other_fits j u ne at =
        let fits = k.fits j u at in
        let below = fits.below in
        let keeper = ((k.fits id v here).list mine).0 in
        record {
          origin = fits.origin;
          below = omega (arith, below, longer);
          list = λ h. absurd (ne ((fits.list h).0 ∙ sym keeper));
          receipts = fits.receipts
              ∙ sym (made_miss u.names (length run.entries) k.since e name
              (false_from_ne_true (bears u.names name)
              (λ b. ne (k.names.apart j id name (bears_there views j u name at b)
              (bears_there views id v name here has)))));
          seen = fits.seen;
        }

    own_fits : Fits run k.keeper then id (adds v e)
    own_fits =
        let fits = k.fits id v here in
        let below = fits.below in
        record {
          origin = fits.origin;
          below = omega (arith, longer, listed);
          list = λ _. (
            (fits.list mine).0,
            ap (λ l. l ++ e ∷ []) (fits.list mine).1 ∙ append_assoc run.entries (entries_of k.since) (e ∷ [])
                ∙ ap (λ l. run.entries ++ l) (sym (map-append (λ (s : Entry × Name). s.0) k.since ((e, name) ∷ []))),
          );
          receipts = (λ i. fits.receipts i ++ made (listed i) e ∷ [])
              ∙ sym (made_hit v.names (length run.entries) k.since e name has);
          seen = below_last (suc (length v.list)) v.receipts (made (length v.list) e)
              (below_more v.seen (suc (length v.list)) (omega (arith, below, listed)) v.receipts fits.seen)
              (omega arith);
        }

    names_then : NamesKept (all_names (set views id (adds v e))) (names_of then)
    names_then =
        let more : names_of then ≡ names_of k.since ++ name ∷ [] =
        map-append (λ (s : Entry × Name). s.1) k.since ((e, name) ∷ []) in
        let old = names_publish (all_names views) (names_of k.since) id name k.names
        (bears_there views id v name here has) in
        subst (λ ns. NamesKept ns (names_of then)) (sym (names_still views id v (adds v e) here refl))
        (subst (NamesKept (all_names views)) (sym more) old)

    pub published : (ws : List ℕ) → ws ≡ suc (length v.list) ∷ [] → Kept run ws (set views id (adds v e))
    published ws is =
        record {
          keeper = k.keeper;
          since = then;
          word = is ∙ ap (λ n. n ∷ [])
              (let h : suc (length v.list) ≡ length run.entries + length then = omega (arith, longer, listed) in h);
          fits = each_set (Fits run k.keeper then) views id (adds v e) other_fits own_fits;
          names = names_then;
        }

-- the word becomes one more, where it is as expected
counted : (words : List ℕ) (n count : ℕ) → words ≡ n ∷ [] → n ≡ count
    → slice_set words 0 (either (slice_index words 0 == count) (count + 1) (slice_index words 0)) ≡ suc count ∷ []
counted words n count is same =
    ap (λ (ws : List ℕ). slice_set ws 0 (either (slice_index ws 0 == count) (count + 1) (slice_index ws 0))) is
    ∙ ap (λ t. either t (count + 1) n ∷ []) (eq-eqb n count same)
    ∙ ap (λ m. m ∷ []) (let h : count + 1 ≡ suc count = omega arith in h)

pub publishes : (run : seen.Core) (slots id count : ℕ) (me : Me Entry View) (e : Entry) → me.0.keeps ≡ true
    → BearsSome me.0.names → count ≡ length me.0.list
    → Allows (Holds run) slots id me 0 (λ n. either (n == count) (count + 1) n)
    (Alone (Publishes (step slots 0 count (count + 1) (some e))) me)
publishes run slots id count me e mine named is s kept homes here bound =
    let v = me.0 in
    let fits = kept.fits id v here in
    let listed = list_length run kept.since v.list (fits.list mine).1 in
    let found : slice_index s.words 0 ≡ count = ap (λ ws. slice_index ws 0) kept.word ∙ sym listed ∙ sym is in
    let word = counted s.words (length run.entries + length kept.since) count kept.word (sym listed ∙ sym is)
    ∙ ap (λ n. suc n ∷ []) is in (
      adds v e,
      keeps,
      tt,
      published run s.words s.views id v e kept here mine named
          (slice_set s.words 0 (either (slice_index s.words 0 == count) (count + 1) (slice_index s.words 0))) word,
      ((found, subst (λ m. v.seen ≤ m) (sym (ap (λ ws. slice_index ws 0) kept.word)) fits.below, refl), refl),
    )
