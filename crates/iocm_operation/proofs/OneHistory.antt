-- A legal history in which memory was there is known by its calls.
use Rattle.std.proofs.Common.{◌≡◌, ◌≢◌, List, [], ◌∷◌, ◌++◌, inl, inr, refl, sym, ap, ◌∙◌}
use Rattle.std.specs.Prelude.{map, reverse}
use Rattle.std.specs.List.{flat_map}
use Rattle.std.proofs.lemmas.List.{map-append, reverse-append, reverse-reverse}
use Rattle.iocm_activate.specs.declared.effect.Effect.{Effect}
use Rattle.iocm_core.specs.Calls.{call_in}
use Rattle.iocm_core.specs.Seen as seen
use Rattle.iocm_core.specs.Told.{entry_in, history_in}
use Rattle.iocm_core.specs.declared.trace.Entry as trace
use Rattle.iocm_history.specs.Account.{state_at}
use Rattle.iocm_history.specs.Entry.{Call, Entry, History}
use Rattle.iocm_history.specs.Legal.{IsLegal, IsRight, entry_of}
use Rattle.iocm_model.specs.Change.Refusal.{refusal_at}
use Rattle.iocm_model.specs.Change.Tree.{ChangeTree}
use Rattle.iocm_model.specs.Operation.State.{State}
use Rattle.iocm_script.specs.declared.line.Line.{Line}
use Rattle.iocm_system.specs.Traces.{history_of}
use Rattle.iocm_types.specs.declared.answer.Answer.TheVariants.{Refused}
use Rattle.iocm_types.specs.declared.refused.At.TheVariants.{Nothing}
use Rattle.iocm_types.specs.declared.rule.Rule.TheVariants.{M1}
use Rattle.iocm_operation.specs.declared.operated.Operated.{Operated}
use Rattle.iocm_operation.specs.Running.{IsOperation}
use Rattle.iocm_operation.specs.OneActor.{AreOfOne, AreTheSame, HadMemory, calls_of_entries}
use Rattle.iocm_operation.specs.Segments.{in_order}
use Rattle.iocm_operation.proofs.OneAnswer.{replies_of, same_answers}
use Rattle.iocm_operation.proofs.OneOrder.{one_order}

abbrev calls_in : History → List Call
calls_in h = map (λ (e : Entry). e.call) h

-- an entry with memory is the one that its call makes
is_made : (s : State) (h : History) (e : Entry) → IsRight s h e → e.answer ≢ Refused (refusal_at M1 Nothing)
    → e ≡ entry_of s h e.call
is_made s h e (inl is) had = is
is_made s h e (inr lacks) had = absurd (had (ap (λ (x : Entry). x.answer) lacks.1))

known : (s : State) (h k : History) → calls_in h ≡ calls_in k → IsLegal s h → IsLegal s k → HadMemory h → HadMemory k
    → h ≡ k
known s [] [] same one two had_one had_two = refl
known s [] (f ∷ k) same one two had_one had_two = cc
known s (e ∷ h) [] same one two had_one had_two = cc
known s (e ∷ h) (f ∷ k) same one two had_one had_two =
    let call : e.call ≡ f.call = cc in
    let calls : calls_in h ≡ calls_in k = cc in
    let rest = known s h k calls one.1 two.1 had_one.1 had_two.1 in
    let entry : e ≡ f = is_made s h e one.0 had_one.0 ∙ ap (entry_of s h) call
    ∙ ap (λ (j : History). entry_of s j f.call) rest ∙ sym (is_made s k f two.0 had_two.0) in
    ap (λ x. x ∷ h) entry ∙ ap (λ j. f ∷ j) rest

map_reverse : {A B : Type 0} (f : A → B) (xs : List A) → map f (reverse xs) ≡ reverse (map f xs)
map_reverse f [] = refl
map_reverse f (x ∷ xs) =
    ap (map f) (reverse-append (x ∷ []) xs) ∙ map-append f (reverse xs) (reverse (x ∷ []))
    ∙ ap (λ ys. ys ++ map f (reverse (x ∷ []))) (map_reverse f xs) ∙ sym (reverse-append (f x ∷ []) (map f xs))

-- the calls of a history that entries tell
calls_mapped : (fs : List Effect) (es : List trace.Entry) → calls_in (map (entry_in fs) es) ≡ calls_of_entries es
calls_mapped fs [] = refl
calls_mapped fs (e ∷ es) = ap (λ cs. call_in e.call ∷ cs) (calls_mapped fs es)

calls_told : (fs : List Effect) (es : List trace.Entry) → calls_in (history_in fs es) ≡ reverse (calls_of_entries es)
calls_told fs es = map_reverse (λ (e : Entry). e.call) (map (entry_in fs) es) ∙ ap reverse (calls_mapped fs es)

replies_mapped : (fs : List Effect) (es : List trace.Entry)
    → map (λ (e : Entry). e.answer) (map (entry_in fs) es) ≡ replies_of es
replies_mapped fs [] = refl
replies_mapped fs (e ∷ es) = ap (λ xs. e.answer ∷ xs) (replies_mapped fs es)

replies_told : (fs : List Effect) (es : List trace.Entry)
    → reverse (map (λ (e : Entry). e.answer) (history_in fs es)) ≡ replies_of es
replies_told fs es =
    ap reverse (map_reverse (λ (e : Entry). e.answer) (map (entry_in fs) es))
    ∙ reverse-reverse (map (λ (e : Entry). e.answer) (map (entry_in fs) es)) ∙ replies_mapped fs es

-- on a new machine the entries are those of the rounds
replies_new : (core : seen.Core) (ts : List ChangeTree) (rounds : List (List Line)) (o : Operated) → core.entries ≡ []
    → (op : IsOperation core ts rounds o)
    → replies_of o.closed.trace.entries.items ≡ replies_of (flat_map in_order op.segments)
replies_new core ts rounds o new op =
    ap replies_of op.trace ∙ ap (λ es. replies_of (es ++ flat_map in_order op.segments)) new

pub one_history : (core : seen.Core) (ts : List ChangeTree) (rounds : List (List Line)) (o p : Operated)
    → core.entries ≡ [] → AreOfOne rounds
    → IsOperation core ts rounds o → IsOperation core ts rounds p → HadMemory (history_of o.closed)
    → HadMemory (history_of p.closed) → AreTheSame o p
one_history core ts rounds o p new ones one two had_one had_two =
    let same : calls_of_entries o.closed.trace.entries.items ≡ calls_of_entries p.closed.trace.entries.items =
    one_order core ts rounds o ones one ∙ sym (one_order core ts rounds p ones two) in
    let calls : calls_in (history_of o.closed) ≡ calls_in (history_of p.closed) =
    calls_told o.closed.trace.changes.items o.closed.trace.entries.items ∙ ap reverse same
    ∙ sym (calls_told p.closed.trace.changes.items p.closed.trace.entries.items) in
    let histories = known core.opening (history_of o.closed) (history_of p.closed) calls one.legal two.legal had_one
    had_two in
    let replies : replies_of (flat_map in_order one.segments) ≡ replies_of (flat_map in_order two.segments) =
    sym (replies_new core ts rounds o new one)
    ∙ sym (replies_told o.closed.trace.changes.items o.closed.trace.entries.items)
    ∙ ap (λ (h : History). reverse (map (λ (e : Entry). e.answer) h)) histories
    ∙ replies_told p.closed.trace.changes.items p.closed.trace.entries.items
    ∙ replies_new core ts rounds p new two in
    record {
      answers = one.answers ∙ same_answers ts rounds one.segments two.segments ones one.each two.each replies
          ∙ sym two.answers;
      histories = histories;
      states = one.state ∙ ap (state_at core.opening) histories ∙ sym two.state;
    }
