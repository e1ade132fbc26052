-- Where changes are found in a legal history.
use Rattle.std.proofs.Common.{◌≡◌, ℕ, ◌+◌, ◌≤◌, false, cond, eqb, Some, is_some, refl, sym, ap, ◌∙◌, arith}
use Rattle.std.proofs.lemmas.Bool.{ne_eqb}
use Rattle.iocm_types.proofs.Tests.{present}
use Rattle.iocm_model.specs.Change.Meaning.{meaning}
use Rattle.iocm_history.specs.Account.{committed, Account, account, account_after, marked_entries, state_at}
use Rattle.iocm_history.specs.Change.{change_of}
use Rattle.iocm_history.specs.Entry.{Entry}
use Rattle.iocm_history.specs.Journal.{Journal, journal_of}
use Rattle.iocm_history.specs.MarkedEntry.{altered_by_change, change_or, change_at}
use Rattle.iocm_history.specs.Store.{Store, store_of}
use Rattle.iocm_history.proofs.Along.{IsEvent, idles, steps, changes, undoes, redoes, is_event, settled}
use Rattle.iocm_history.proofs.Passing.{change_here}
use Rattle.iocm_history.proofs.Remarked.{change_strike, change_restore}
use Rattle.iocm_history.proofs.Settled.{state_now}
use Rattle.iocm_history.specs.JournalLaws.{EachChangeIsThere, OnlyTheseAreThere, ChangesStayThere, ActivationsAreThere}
use Rattle.iocm_history.specs.JournalLaws.{CommitsAreThere}
use Rattle.iocm_history.proofs.Numbered.{numbers_in, there_by_number, within, among, numbered}

pub each_change_is_there : EachChangeIsThere
each_change_is_there opening h n used legal low high =
    let ls = marked_entries opening h in let o = numbered opening h used legal in
    present (change_at n ls)
    (there_by_number n ls ∙ among n (numbers_in ls) o.down low (let long = o.long in omega arith))

pub only_these_are_there : OnlyTheseAreThere
only_these_are_there opening h n c used legal at =
    let ls = marked_entries opening h in let o = numbered opening h used legal in
    let both = within n (numbers_in ls) o.down (sym (there_by_number n ls) ∙ ap is_some at) in
    (both.0, let high = both.1 in let long = o.long in omega arith)

-- ---- an entry more

module _ (m : Store) (b : Journal) (a : Account) (n : ℕ) (low : n ≤ b.count) where
  entries_as : (d c : Account) → d ≡ c → change_at n c.entries ≡ change_at n a.entries
      → change_at n d.entries ≡ change_at n a.entries
  entries_as d c is same = ap (λ (z : Account). change_at n z.entries) is ∙ same

  stays : (e : Entry) → IsEvent m b a e
      → change_at n (account_after e.call e.answer (state_now m a) a).entries ≡ change_at n a.entries
  stays e (idles g staged account_is journal_is) = entries_as _ _ account_is refl
  stays e (steps x done off account_is journal_is) = entries_as _ _ account_is refl
  stays e (changes c g ready idle account_is journal_is) =
      let other : eqb n (b.count + 1) ≡ false = ne_eqb n (b.count + 1) (λ same. omega arith) in
      entries_as _ _ account_is (ap (λ z. cond z (Some c) (change_at n a.entries)) other)
  stays e (undoes k here none idle answer account_is journal_is) =
      entries_as _ _ account_is (change_strike (altered_by_change k a.entries) k n a.entries)
  stays e (redoes k us undone idle answer account_is journal_is) =
      entries_as _ _ account_is (change_restore (altered_by_change k a.entries) k n a.entries)

pub changes_stay_there : ChangesStayThere
unfolding account
changes_stay_there opening h e n used legal low =
    let m = store_of opening in let b = journal_of h in let a = account opening h in
    stays m b a n low e (is_event m b a (settled opening h used legal.1) e legal.0)

-- ---- the change that is new

pub activations_are_there : ActivationsAreThere
unfolding account
activations_are_there opening h p f used legal =
    let n = (journal_of h).count + 1 in let s = state_at opening h in
    change_here n (change_of (meaning p s) s) (marked_entries opening h)

pub commits_are_there : CommitsAreThere
unfolding account
commits_are_there opening h g f used legal staged =
    let n = (journal_of h).count + 1 in
    ap (λ o. change_or n (committed n o) (change_at n (marked_entries opening h))) staged
    ∙ change_here n g.change (marked_entries opening h)
