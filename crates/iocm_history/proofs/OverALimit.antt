-- A change tree over a limit is refused for that, and not for lack of memory.
use Rattle.std.proofs.Common.{◌≡◌, ◌⊎◌, inl, inr, ◌+◌, nat_lt, Bool, true, false, cond, not, ◌&&◌, is_none, Option}
use Rattle.std.proofs.Common.{Some, None, Err, refl, sym, ap, ◌∙◌}
use Rattle.std.proofs.lemmas.Bool.{and_parts}
use Rattle.iocm_types.specs.declared.answer.Answer.TheVariants as answers
use Rattle.iocm_types.specs.declared.refused.At.TheVariants.{Nothing}
use Rattle.iocm_types.specs.declared.rule.Rule.TheVariants.{O1, C1, C2, M1}
use Rattle.iocm_types.specs.declared.rule.Rule.{Rule}
use Rattle.iocm_types.specs.declared.refused.Refused.{Refused}
use Rattle.iocm_types.specs.declared.answer.Answer.{Answer}
use Rattle.iocm_model.specs.Operation.State.{State}
use Rattle.iocm_model.specs.Change.Refusal.{refusal_at}
use Rattle.iocm_model.specs.Change.Tree.{ChangeTree, depth_of, leaves_of, most_depth, most_leaves}
use Rattle.iocm_model.specs.Change.Meaning.{Outcome, meaning}
use Rattle.iocm_history.specs.Entry.{activate, begin, Entry, History}
use Rattle.iocm_history.specs.Account.{Account, account, state_at}
use Rattle.iocm_history.specs.Journal.{journal_of}
use Rattle.iocm_history.specs.Legal.{unless_staged, activated, begun, entry_of, is_within_limits, may_lack_memory_after}
use Rattle.iocm_history.specs.Legal.{IsRight}
use Rattle.iocm_history.specs.Stage.{Stage}
use Rattle.iocm_history.specs.HistoryLaws.{TreesOverALimitWantNoMemory}

-- what is refused for a limit
abbrev IsOver : Outcome → Type 0
IsOver o = (o ≡ Err (refusal_at C1 Nothing)) ⊎ (o ≡ Err (refusal_at C2 Nothing))

over : (p : ChangeTree) (s : State) → is_within_limits p ≡ false → IsOver (meaning p s)
over p s is = by (nat_lt most_depth (depth_of p)) (nat_lt most_leaves (leaves_of p)) _ is
  where
    by : (deep wide : Bool) (o : Outcome) → (not deep && not wide) ≡ false
        → IsOver (cond deep (Err (refusal_at C1 Nothing)) (cond wide (Err (refusal_at C2 Nothing)) o))
    by true wide o is = inl refl
    by false true o is = inr refl
    by false false o is = cc

-- the rule that an answer names; M1, where it names none
abbrev rule_in : Answer → Rule
rule_in (answers.Refused why) = why.rule
rule_in _ = M1

module _ (opening : State) (h : History) (p : ChangeTree) (e : Entry) (is_over : is_within_limits p ≡ false)
    (lacks : e.answer ≡ answers.Refused (refusal_at M1 Nothing)) where
  abbrev a : Account
  a = account opening h

  abbrev s : State
  s = state_at opening h

  -- such an answer names another rule
  apart : (why : Refused) → (M1 ≡ why.rule → ⊥) → e.answer ≡ answers.Refused why → ⊥
  apart why other answer = other (ap rule_in (sym lacks ∙ answer))

  no_activation : (g : Option Stage) (o : Outcome) → IsOver o
      → e.answer ≡ (unless_staged g (activate p) (activated p ((journal_of h).count + 1) s o)).answer → ⊥
  no_activation (Some g) o of answer = apart (refusal_at O1 Nothing) (λ same. cc) answer
  no_activation None o (inl is) answer =
      apart (refusal_at C1 Nothing) (λ same. cc)
      (answer ∙ ap (λ z. (activated p ((journal_of h).count + 1) s z).answer) is)
  no_activation None o (inr is) answer =
      apart (refusal_at C2 Nothing) (λ same. cc)
      (answer ∙ ap (λ z. (activated p ((journal_of h).count + 1) s z).answer) is)

  no_begin : (g : Option Stage) (o : Outcome) → IsOver o → e.answer ≡ (unless_staged g (begin p) (begun p o)).answer → ⊥
  no_begin (Some g) o of answer = apart (refusal_at O1 Nothing) (λ same. cc) answer
  no_begin None o (inl is) answer =
      apart (refusal_at C1 Nothing) (λ same. cc) (answer ∙ ap (λ z. (begun p z).answer) is)
  no_begin None o (inr is) answer =
      apart (refusal_at C2 Nothing) (λ same. cc) (answer ∙ ap (λ z. (begun p z).answer) is)

  within : (is_none a.stage && is_within_limits p) ≡ true → ⊥
  within may = let no : false ≡ true = sym is_over ∙ (and_parts (is_none a.stage) (is_within_limits p) may).1 in cc

  never : IsRight opening h e → (e.call ≡ activate p) ⊎ (e.call ≡ begin p) → ⊥
  never (inl same) (inl call) =
      no_activation a.stage (meaning p s) (over p s is_over)
      (ap (λ (z : Entry). z.answer) same ∙ ap (λ c. (entry_of opening h c).answer) call)
  never (inl same) (inr call) =
      no_begin a.stage (meaning p s) (over p s is_over)
      (ap (λ (z : Entry). z.answer) same ∙ ap (λ c. (entry_of opening h c).answer) call)
  never (inr lack) (inl call) = within (sym (ap (may_lack_memory_after opening h) call) ∙ lack.0)
  never (inr lack) (inr call) = within (sym (ap (may_lack_memory_after opening h) call) ∙ lack.0)

pub trees_over_a_limit_want_no_memory : TreesOverALimitWantNoMemory
trees_over_a_limit_want_no_memory opening h p e legal call is_over lacks =
    never opening h p e is_over lacks legal.0 call
