use Rattle.std.proofs.Common.{◌≡◌, ◌++◌, ◌||◌, Result, Ok, Err, IfOk, sym, ap, is_some, ◌∙◌}
use Rattle.std.specs.FinMap.{contains_key, contains_key-keys, empty, get-empty, keys}
use Rattle.iocm_types.specs.Key.{key_cmp}
use Rattle.iocm_table.specs.Slots.{rows}
use Rattle.iocm_model.specs.Machine.Configuration.{records_of}
use Rattle.iocm_reports.specs.Deck.{pairs_listed}
use Rattle.iocm_reports.specs.Gathered.{Pairs}
use Rattle.iocm_reports.proofs.ListedPairs.{among, in_with, offline, unlisted, untold_are}
use Rattle.iocm_reports.proofs.deck.pairs_untold.Goals as goal

-- what follows of two facts on the value, if there is one
of_both : {A E : Type 0} (r : Result A E) (P Q S : A → Type 0) → ((x : A) → P x → Q x → S x) → IfOk r P → IfOk r Q
    → IfOk r S
of_both (Ok x) P Q S follows p q = follows x p q
of_both (Err e) P Q S follows p q = tt

pub returns : goal.returns
returns c =
    let records = c.args.config.now.records in
    let listed = rows key_cmp c.in_ok-listed.listed in
    let all : c.add_unlisted.new.untold.items ≡ offline records (keys listed) ++ unlisted records (contains_key listed) =
    c.in_ok-add_unlisted.ensures
    ∙ ap (λ ks. ks ++ unlisted records (contains_key listed))
    (c.in_ok-add_offline.ensures ∙ ap (λ ks. ks ++ offline records (keys listed)) c.new-untold.ensures.items) in
    of_both c.sorted_once.result _ _ _
    (λ untold rise same. untold_are records (keys listed) (contains_key listed)
    (λ k. ap (λ (m : Pairs). contains_key m k) c.in_ok-listed.ensures ∙ in_with empty (pairs_listed (records_of records)) k
    ∙ ap (λ o. is_some o || among k (pairs_listed (records_of records))) (get-empty key_cmp k))
    (λ k. sym (contains_key-keys listed k)) untold.items rise (λ k. same k ∙ ap (among k) all))
    c.sorted_once.ensures.order c.sorted_once.ensures.same
