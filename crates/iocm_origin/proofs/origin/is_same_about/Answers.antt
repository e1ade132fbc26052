-- Keys are one exactly if the order doesn't tell them apart.
use Rattle.std.proofs.Common.{◌≡◌, ◌∙◌, sym, ap, rules}
use Rattle.std.specs.Ordering.{eq_by_cmp}
use Rattle.iocm_types.specs.Key.{key_cmp}
use Rattle.iocm_types.specs.KeyOrder.{keys_exact, keys_total}
use Rattle.iocm_types.proofs.Found.{same_key, ties_itself}
use Rattle.iocm_console.specs.declared.refusal.About.TheVariants as about
use Rattle.iocm_origin.proofs.origin.is_same_about.Goals as goal

pub returns-in-Key-Key : goal.returns-in-Key-Key
returns-in-Key-Key c =
    let keys = c.in-Key-Key in
    let test : c.is_eq.result ≡ eq_by_cmp key_cmp keys.one keys.other = search rules in (
      λ is. keys.is-0 ∙ ap about.Key (same_key key_cmp keys_exact keys.one keys.other (sym test ∙ is)) ∙ sym keys.is-1,
      λ same. let one : keys.one ≡ keys.other = cc in
          test ∙ ap (eq_by_cmp key_cmp keys.one) (sym one) ∙ ties_itself key_cmp keys_total keys.one,
    )
