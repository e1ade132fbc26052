-- What is printed of texts, from what came of them.
use Rattle.std.proofs.Common.{◌≡◌, ◌⊎◌, ℕ, List, [], ◌∷◌, Option, None, Some, Result, Ok, Err}
use Rattle.std.proofs.Common.{IfErr, IfSome, IfOk, IsErr, inl, inr, refl, sym, ap, subst, ◌∙◌}
use Rattle.std.specs.List.{All}
use Rattle.std.specs.Result.{IsErrAnd}
use Rattle.iocm_columns.specs.Device.{reader_of, IsWhole}
use Rattle.iocm_columns.specs.declared.device.Device.{Device}
use Rattle.iocm_model.specs.Machine.Configuration.{Configuration}
use Rattle.iocm_model.specs.Operation.State.{opening_state, State}
use Rattle.iocm_command.specs.declared.table.Command.{Command}
use Rattle.iocm_console.specs.declared.error.ConsoleError.{ConsoleError}
use Rattle.iocm_console.specs.declared.output.Output.{Output}
use Rattle.iocm_console.specs.declared.refusal.Refusal.{Refusal}
use Rattle.iocm_console.specs.declared.status.Status.{Status}
use Rattle.iocm_console.specs.declared.status.Status.TheVariants.{Done}
use Rattle.iocm_console.specs.Output.{Says}
use Rattle.iocm_console.specs.Refusal.{no_memory, ◌>>-◌}
use Rattle.iocm_console.specs.Shown.{Shown}
use Rattle.iocm_answer.specs.declared.answer.Answer.{Answer}
use Rattle.iocm_answer.specs.declared.whole.Unanswered.{Unanswered}
use Rattle.iocm_answer.specs.declared.whole.Unanswered.TheVariants.{Refused, Unread}
use Rattle.iocm_answer.specs.declared.manner.Manner.{Manner}
use Rattle.iocm_answer.specs.Manner.{refused, shown_or_refused}
use Rattle.iocm_answer.specs.Answer.{shown}
use Rattle.iocm_answer.specs.Commands.{IsMeant}
use Rattle.iocm_answer.specs.Commands.Run.{IsOfMachine, IsOfOpened, ShowsOne}
use Rattle.iocm_answer.specs.Whole.{given_of, Answers, AreReadWithin, AreTextsOf, Ends, GoesOn, IsReadWithin}
use Rattle.iocm_answer.specs.Whole.{IsTextOf, IsUnreadFor, OfText, OfTexts, SaysGiven, SaysOne, StopsAt, StopsFor, Tells}

-- ---- texts

module _ {R : Type 0} (remaining : R → Option (List ℕ)) where
  -- what is left to read of a device, whether it is known or not
  pub text_left : (d : Device R) → (text : List ℕ) × IsTextOf remaining d text
  text_left d = go (remaining (reader_of d))
    where
      go : (known : Option (List ℕ)) → (text : List ℕ) × IfSome known (λ k. text ≡ k)
      go None = ([], tt)
      go (Some k) = (k, refl)

  -- the same of several devices
  pub texts_left : (ds : List (Device R)) → (texts : List (List ℕ)) × AreTextsOf remaining ds texts
  texts_left [] = ([], tt)
  texts_left (d ∷ ds) = let one = text_left d in let rest = texts_left ds in (one.0 ∷ rest.0, (one.1, rest.1))

-- a command goes on from a deck, if its bytes are known
pub goes_on : (command : Command) (text : List ℕ) (known : Option (List ℕ)) → IfSome known (λ k. text ≡ k)
    → GoesOn command text → IfSome known (GoesOn command)
goes_on command text None is on = tt
goes_on command text (Some k) is on = subst (GoesOn command) is on

-- ---- what a command gives

-- the error that was handed on
pub handed_on : {A E : Type 0} (given : Result A E) (why : E) → IsErr given × IsErrAnd given (λ e. e ≡ why)
    → given ≡ Err why
handed_on (Ok x) why is = absurd is.1
handed_on (Err e) why is = ap Err is.1

-- what holds of an error holds of it when it is handed on
pub handed : {A : Type 0} (given : Result A Refusal) (why : Refusal) (P : Refusal → Type 0) → P why
    → IsErr given × IsErrAnd given (λ e. e ≡ why) → IfErr given P
handed given why P is same = subst (λ r. IfErr r P) (sym (handed_on given why same)) is

module _ (m : Manner) (Is : Shown → Type 0) (given : Result Answer Unanswered) where
  -- a text isn't read
  pub tells_stop : (why : Unanswered) (Short : Type 0) → IsErr given × IsErrAnd given (λ e. e ≡ why)
      → StopsFor ⊥ Short why → Tells m given Is
  tells_stop why Short is stops = subst (λ r. Tells m r Is) (sym (handed_on given why is)) (go why stops)
    where
      go : (w : Unanswered) → StopsFor ⊥ Short w → Tells m (Err w) Is
      go (Refused why) (inl none) = absurd none
      go (Refused why) (inr memory) = inr memory
      go Unread stops = tt

  -- a deck is refused
  pub tells_refusal : (why : Refusal) → IsErr given × IsErrAnd given (λ e. e ≡ Refused why)
      → Is (refused m why) ⊎ (why ≡ no_memory) → Tells m given Is
  tells_refusal why is told = subst (λ r. Tells m r Is) (sym (handed_on given (Refused why) is)) told

  -- what is said is given
  pub tells_said : (P : Shown → Type 0) (said : Result Answer Refusal) → given ≡ given_of said
      → ((what : Shown) → P what → Is what) → ShowsOne m said P → Tells m given Is
  tells_said P said is so shows = subst (λ r. Tells m r Is) (sym is) (go said shows)
    where
      go : (s : Result Answer Refusal) → ShowsOne m s P → Tells m (given_of s) Is
      go (Ok answer) (inl told) = so (shown m answer) told
      go (Ok answer) (inr memory) = cc
      go (Err why) (inl told) = inl (so (refused m why) told)
      go (Err why) (inr memory) = inr (let same : why ≡ no_memory = cc in same)

-- ---- what is due of a deck and of texts after it

-- what is shown of what is there is shown of what is due
pub shown_due : {A : Type 0} (m : Manner) (show : A → Shown) (due : Result A Refusal) (x : A) (what : Shown)
    → due ≡ Ok x → what ≡ show x → what ≡ shown_or_refused m show due
shown_due m show due x what is shows = shows ∙ sym (ap (shown_or_refused m show) is)

-- the machine of a script isn't opened
pub unopened_due : (m : Manner) (due : Result Configuration Refusal) (changes : List (List ℕ)) (script : List ℕ)
    (why : Refusal) → (due >>- λ c. Ok (opening_state c)) ≡ Err why → IsOfOpened m due changes script (refused m why)
unopened_due m (Ok c) changes script why is = cc
unopened_due m (Err w) changes script why is = let same : why ≡ w = cc in ap (refused m) same

-- what comes of a machine comes of the deck of which it was opened
pub run_due : (m : Manner) (due : Result Configuration Refusal) (s : State) (changes : List (List ℕ)) (script : List ℕ)
    (shown : Shown) → (due >>- λ c. Ok (opening_state c)) ≡ Ok s → IsOfMachine m s.config changes script shown
    → IsOfOpened m due changes script shown
run_due m (Err why) s changes script shown is one = cc
run_due m (Ok c) s changes script shown is one =
    let same : opening_state c ≡ s = cc in
    subst (λ k. IsOfMachine m k changes script shown) (sym (ap (λ x. x.config) same)) one

-- ---- what is printed

module _ {W : Type 0} (m : Manner) (contents : W → Option (List ℕ)) (output output' : Output W) where
  -- something of which this holds, or only that memory is missing
  says_one : (given : Result Answer Unanswered) (result : Result Status ConsoleError) (Is : Shown → Type 0)
      → Tells m given Is → IfOk result (SaysGiven m contents output output' given)
      → IfOk result (SaysOne m contents output output' Is)
  says_one given (Err e) Is tells says = tt
  says_one (Ok answer) (Ok status) Is tells says = inl (shown m answer, tells, says)
  says_one (Err (Refused why)) (Ok status) Is (inl is) says = inl (refused m why, is, says)
  says_one (Err (Refused why)) (Ok status) Is (inr memory) says =
      inr (subst (λ w. Says contents output output' (refused m w) status) memory says)
  says_one (Err Unread) (Ok status) Is tells says = absurd says

  -- a text was read to its end, or only that memory is missing was printed
  whole : (given : Result Answer Unanswered) (result : Result Status ConsoleError) (First Short : Type 0)
      → IfOk given (λ answer. First) → IfErr given (StopsFor First Short)
      → IfOk result (SaysGiven m contents output output' given)
      → IfOk result (λ status. First ⊎ Says contents output output' (refused m no_memory) status)
  whole given (Err e) First Short read stops says = tt
  whole (Ok answer) (Ok status) First Short read stops says = inl read
  whole (Err (Refused why)) (Ok status) First Short read (inl first) says = inl first
  whole (Err (Refused why)) (Ok status) First Short read (inr memory) says =
      inr (subst (λ w. Says contents output output' (refused m w) status) memory says)
  whole (Err Unread) (Ok status) First Short read stops says = absurd says

  -- the texts after it were read to their ends, if the command did what it was asked to do
  whole_if_done : (given : Result Answer Unanswered) (result : Result Status ConsoleError) (Whole : Type 0)
      → IfOk given (λ answer. Whole) → IfOk result (SaysGiven m contents output output' given)
      → IfOk result (λ status. status ≡ Done → Whole)
  whole_if_done given (Err e) Whole read says = tt
  whole_if_done (Ok answer) (Ok status) Whole read says = λ is. read
  whole_if_done (Err (Refused why)) (Ok status) Whole read says = λ is. cc (sym says.1 ∙ is)
  whole_if_done (Err Unread) (Ok status) Whole read says = absurd says

-- a command ended that gave this
pub answers : {R W : Type 0} {remaining : R → Option (List ℕ)} {contents : W → Option (List ℕ)} {limit : ℕ}
    {m : Manner} {command : Command} {deck deck' : Device R} {others others' : List (Device R)} {output output' : Output W}
    {result : Result Status ConsoleError} (given : Result Answer Unanswered)
    → OfText remaining deck (λ bytes. Tells m given
    (λ shown. OfTexts remaining others (λ texts. IsMeant m command bytes texts shown)))
    → IfOk given (λ answer. IsWhole deck') → IfOk given (λ answer. All IsWhole others')
    → IsReadWithin limit deck deck' → AreReadWithin limit others others'
    → IfErr given (StopsFor (IsWhole deck') (StopsAt remaining limit command deck deck' others others'))
    → IfOk result (SaysGiven m contents output output' given) → IsUnreadFor output output' result (given ≡ Err Unread)
    → Ends output' result
    → Answers remaining contents limit m command deck deck' others others' output output' result
answers {remaining = remaining} {contents = contents} {limit = limit} {m = m} {command = command} {deck = deck} {deck' = deck'}
    {others = others} {others' = others'} {output = output} {output' = output'} {result = result}
    given text read read_others reads reads_others stops says unread ends =
    let Short = StopsAt remaining limit command deck deck' others others' in record {
      text = (
        text.0,
        text.1,
        says_one m contents output output' given result
            (λ shown. OfTexts remaining others (λ texts. IsMeant m command text.0 texts shown)) text.2 says,
      );
      whole = whole m contents output output' given result (IsWhole deck') Short read stops says;
      whole_others = whole_if_done m contents output output' given result (All IsWhole others') read_others says;
      reads = reads;
      reads_others = reads_others;
      unreadable = λ is. let none = unread is in
          (subst (λ r. IfErr r (StopsFor (IsWhole deck') Short)) none.0 stops, none.1);
      ends = ends;
    }
