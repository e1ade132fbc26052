-- A path with which its list is wrong.
use Rattle.std.proofs.Common.{◌≡◌, ◌<◌, [], ◌∷◌, ◌++◌, length, get_or, refl, sym, ap, ◌∙◌, arith}
use Rattle.std.proofs.lemmas.List.{get_or_default}
use Rattle.iocm_device_rules.specs.Joining.{is_wrong_list}
use Rattle.iocm_device_rules.proofs.JoinedPaths.{wrong_with_path}
use Rattle.iocm_device_rules.proofs.joined.join_path.Goals as goal

pub returns-in-None-clause-wrong : goal.returns-in-None-clause-wrong
returns-in-None-clause-wrong c _ =
    let within : c.from-place.result < length c.args.lists.now = omega arith in
    let at : c.from-place.result ≡ c.args.path.css = omega arith in
    wrong_with_path c.args.lists.now c.args.path (omega arith)
    (ap (λ ps. is_wrong_list (ps ++ c.args.path.path ∷ []))
    (ap (λ n. get_or c.args.lists.now n []) (sym at)
    ∙ get_or_default c.args.lists.now c.from-place.result [] c.index-lists-place.result within)
    ∙ c.in-None.ensures.wrong refl)
