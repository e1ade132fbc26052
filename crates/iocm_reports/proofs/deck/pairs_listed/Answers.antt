use Rattle.std.proofs.Common.{List, map, ap, sym, ◌∙◌}
use Rattle.std.specs.FinMap.{empty}
use Rattle.std.proofs.lemmas.Map.Iter.{rest_more, rest_all}
use Rattle.iocm_types.specs.declared.key.Key.{Key}
use Rattle.iocm_types.specs.Key.{key_cmp}
use Rattle.iocm_table.specs.Slots.{rows}
use Rattle.iocm_model.specs.Machine.Record.{Rec}
use Rattle.iocm_reports.specs.Deck.{pairs_listed}
use Rattle.iocm_reports.specs.Gathered.{Pairs, with_pairs}
use Rattle.iocm_reports.proofs.ListedPairs.{one_more_record}
use Rattle.iocm_reports.proofs.deck.pairs_listed.Goals as goal

-- some pairs with those of some rows
abbrev with_rows : Pairs → List (Key × Rec) → Pairs
with_rows m es = with_pairs m (pairs_listed (map (λ row. row.1) es))

pub loop-entry-init : goal.loop-entry-init
loop-entry-init c =
    ap (λ (m : Pairs). with_rows m c.into_iter-entry-iterator.result) c.new-listed.ensures.rows
    ∙ ap (with_rows empty) (c.into_iter-entry-iterator.ensures.into_iter_gives ∙ c.walk-entry-items.ensures.entries)

pub loop-entry-preserved : goal.loop-entry-preserved
loop-entry-preserved c =
    let rest = map (λ (row : Key × Rec). row.1) c.next.new.self in
    ap (λ (m : Pairs). with_pairs m (pairs_listed rest)) c.in_ok-list_pairs.ensures
    ∙ one_more_record (rows key_cmp c.loop-entry.listed) c.in-Some.entry.now rest
    ∙ ap (with_rows (rows key_cmp c.loop-entry.listed))
    (sym (rest_more _ _ _ _ (c.in-Some.field-0-0, c.in-Some.entry) c.in-Some.is c.next.ensures.steps))
    ∙ c.loop-entry.invariant

pub returns : goal.returns
returns c =
    ap (with_rows (rows key_cmp c.loop-entry.listed)) (sym (rest_all _ _ _ _ c.in-None.is c.next.ensures.steps))
    ∙ c.loop-entry.invariant
