use Rattle.std.proofs.Common.{◌≡◌, ◌<◌, ◌≤◌, List, [], ◌∷◌, length, get_or, sym, ap, subst, ◌∙◌, arith}
use Rattle.iocm_activate.specs.Done.{AreToldBy}
use Rattle.iocm_activate.specs.Told.{told_of_all}
use Rattle.iocm_reports.proofs.AlteredRows.{one_is_counted, seen_are_counted}
use Rattle.iocm_reports.proofs.altered.count_altered.Goals as goal

-- a list of one item is that item
one_item : {A : Type 0} (xs : List A) (x : A) → 1 ≤ length xs → length xs < 2 → x ≡ get_or xs 0 x → xs ≡ x ∷ []
one_item [] x some few is = absurd (omega (arith, some))
one_item (y ∷ []) x some few is = ap (λ z. z ∷ []) (sym is)
one_item (y ∷ z ∷ xs) x some few is = absurd (omega (arith, few))

pub returns-in-len1 : goal.returns-in-len1
returns-in-len1 c = λ es s told.
    let touched = c.touched-item.result in
    let one = one_item c.args.performed.now touched c.in-len1.len_at_least c.in-len1.len_below c.touched-item.is in
    c.len.ensures ∙ touched.subchannels.ok.0
    ∙ one_is_counted touched es s (subst (λ ds. AreToldBy ds (told_of_all es s)) one told)

pub returns : goal.returns
returns c = λ es s told.
    c.len-2.ensures ∙ c.in_ok-first.first.ok.0
    ∙ seen_are_counted c.args.performed.now c.in_ok-first.first.items c.in_ok-first.ensures.order
    c.in_ok-first.ensures.first es s told
