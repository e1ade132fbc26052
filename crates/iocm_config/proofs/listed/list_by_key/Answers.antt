-- A record goes to its part, and at the end the parts are all records.
use Rattle.std.proofs.Common.{◌≡◌, true, false, not, filter, List, [], ◌∷◌, ◌++◌, ◌∙◌, sym, ap, subst}
use Rattle.std.proofs.lemmas.Iterator.Adapters.{YieldsList-from_vec}
use Rattle.std.proofs.lemmas.Iterator.Consumers.{YieldsList-end}
use Rattle.std.proofs.lemmas.List.{map-id}
use Rattle.iocm_types.specs.declared.key.Key.{Key}
use Rattle.iocm_model.specs.Machine.Record.{Rec, key_of}
use Rattle.iocm_model.specs.Machine.Configuration.{with_keys}
use Rattle.iocm_config.specs.OnlineLast.{is_online, online_last}
use Rattle.iocm_config.proofs.OnlineLast.{online_more, online_same, others_more, others_same}
use Rattle.iocm_config.proofs.listed.list_by_key.Goals as goal

pub loop-entry-preserved-in_ok-push : goal.loop-entry-preserved-in_ok-push
loop-entry-preserved-in_ok-push g c =
    let is : is_online (key_of c.in-Some.entry) ≡ true =
    subst (λ k. is_online k ≡ true) c.key-key.ensures (sym c.is_online.ensures ∙ c.if-is_online.true) in
    record {
      others = c.loop-entry.invariant.others ∙ sym (others_same c.loop-entry.yielded c.in-Some.entry is);
      onlines = c.in_ok-push.ensures.items
          ∙ ap (λ (k : Key). c.loop-entry.onlines.items ++ (k, c.in-Some.entry) ∷ []) c.key-key.ensures
          ∙ ap (λ (es : List (Key × Rec)). es ++ (key_of c.in-Some.entry, c.in-Some.entry) ∷ [])
          c.loop-entry.invariant.onlines
          ∙ sym (online_more c.loop-entry.yielded c.in-Some.entry is);
    }

pub loop-entry-preserved : goal.loop-entry-preserved
loop-entry-preserved g c =
    let is : is_online (key_of c.in-Some.entry) ≡ false =
    subst (λ k. is_online k ≡ false) c.key-key.ensures (sym c.is_online.ensures ∙ c.if-is_online.false) in
    record {
      others = c.in_ok-push-2.ensures.items
          ∙ ap (λ (k : Key). c.loop-entry.listed.items ++ (k, c.in-Some.entry) ∷ []) c.key-key.ensures
          ∙ ap (λ (es : List (Key × Rec)). es ++ (key_of c.in-Some.entry, c.in-Some.entry) ∷ [])
          c.loop-entry.invariant.others
          ∙ sym (others_more c.loop-entry.yielded c.in-Some.entry is);
      onlines = c.loop-entry.invariant.onlines ∙ sym (online_same c.loop-entry.yielded c.in-Some.entry is);
    }

pub returns : goal.returns
returns g c =
    let given = c.into_iter-entry-iterator.ensures.into_iter_gives in
    let road = YieldsList-from_vec {s = c.into_iter-entry-iterator.result} c.args.records.items given.0
    (given.1 ∙ c.args.records.ok.0) in
    let all = YieldsList-end road c.loop-entry.yielded c.loop-entry.entry-iterator c.loop-entry.yielded_by c.next.result
    c.next.new.self c.in-None.is c.next.ensures.steps in
    c.in_ok-append.ensures.items
    ∙ ap (λ (es : List (Key × Rec)). es ++ c.loop-entry.onlines.items) c.loop-entry.invariant.others
    ∙ ap (λ (es : List (Key × Rec)). filter (λ e. not (is_online e.0)) (with_keys c.loop-entry.yielded) ++ es)
    c.loop-entry.invariant.onlines
    ∙ ap (λ (rs : List Rec). online_last (with_keys rs)) (sym (map-id c.loop-entry.yielded) ∙ all.0)
