-- Namings that were put apart and sorted by what is named are the same.
use Rattle.std.proofs.Common.{true, false, refl, sym, subst, ap, ◌∙◌, ◌++◌, ◌≡◌, filter, IfOk}
use Rattle.std.specs.List.{list_any}
use Rattle.std.specs.Ordering.{eq_by_cmp}
use Rattle.std.proofs.lemmas.List.Sorted.{list_any-IsPermutation, IsPermutation-filter_both}
use Rattle.std.proofs.lemmas.Result.{IfOk-weaker}
use Rattle.iocm_types.specs.Naming.{naming_cmp}
use Rattle.iocm_index.specs.Grouped.{is_in_group}
use Rattle.iocm_index.proofs.build.sort_apart.Goals as goal

pub returns-clause-same : goal.returns-clause-same
returns-clause-same g c =
    let all = c.args.namings.items in
    let grouped = filter (is_in_group true) all ++ filter (is_in_group false) all in
    let listed : c.in_ok-apart.apart.items ≡ grouped =
    subst (λ r. IfOk r (λ apart. apart.items ≡ grouped)) c.in_ok-apart.was c.records_first.ensures in
    IfOk-weaker c.sorted_once.result _ _
    (λ once same n. same n
    ∙ sym (list_any-IsPermutation (eq_by_cmp naming_cmp n) c.in_ok-apart.apart.items c.sort_by.new.self.items
    c.sort_by.ensures.permutation)
    ∙ ap (list_any (eq_by_cmp naming_cmp n)) listed
    ∙ sym (list_any-IsPermutation (eq_by_cmp naming_cmp n) all grouped
    (IsPermutation-filter_both (is_in_group true) (is_in_group false) (λ x. refl) all)))
    c.sorted_once.ensures.same
