use Rattle.std.proofs.Common.{[], ◌∷◌, ◌++◌, List, map, ap, sym, ◌∙◌, append_assoc}
use Rattle.std.proofs.lemmas.List.{append-nil}
use Rattle.iocm_types.specs.declared.key.Key.{Key}
use Rattle.iocm_model.specs.Machine.Record.{Rec}
use Rattle.iocm_sight.specs.Seen.{sights_in}
use Rattle.iocm_sight.proofs.Sights.{sights-append}
use Rattle.iocm_sight.proofs.sight.sights_asked.Goals as goal

pub loop-entry-init : goal.loop-entry-init
loop-entry-init c =
    let w = c.args.filters.now in
    let m = c.args.config.now.records in
    let rs : List (Key × Rec) → List Rec = map (λ e. e.1) in
    ap (λ xs. xs ++ sights_in w m (rs c.into_iter-entry-iterator.result)) c.new-sights.ensures.items
    ∙ ap (λ (es : List (Key × Rec)). sights_in w m (rs es))
    (c.into_iter-entry-iterator.ensures.into_iter_gives ∙ c.walk-entry-items.ensures.entries)

pub loop-entry-preserved : goal.loop-entry-preserved
loop-entry-preserved c =
    let w = c.args.filters.now in
    let m = c.args.config.now.records in
    let rs : List (Key × Rec) → List Rec = map (λ e. e.1) in
    let rest = rs c.next.new.self in
    let before = c.loop-entry.sights.items in
    ap (λ xs. xs ++ sights_in w m rest) c.in_ok-put_sight.ensures
    ∙ append_assoc before (sights_in w m (c.in-Some.entry.now ∷ [])) (sights_in w m rest)
    ∙ ap (λ xs. before ++ xs) (sym (sights-append w m (c.in-Some.entry.now ∷ []) rest))
    ∙ ap (λ (es : List (Key × Rec)). before ++ sights_in w m (rs es)) (sym c.in-Some.ensures.steps)
    ∙ c.loop-entry.invariant

pub returns : goal.returns
returns c =
    let w = c.args.filters.now in
    let m = c.args.config.now.records in
    let rs : List (Key × Rec) → List Rec = map (λ e. e.1) in
    let before = c.loop-entry.sights.items in
    sym (append-nil before)
    ∙ ap (λ (es : List (Key × Rec)). before ++ sights_in w m (rs es)) (sym c.in-None.ensures.steps.0)
    ∙ c.loop-entry.invariant
