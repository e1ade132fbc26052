-- What each line of the table finds.
use Rattle.std.proofs.Common.{[], ◌∷◌, refl, ◌∙◌}
use Rattle.iocm_types.specs.declared.rule.Rule.TheVariants.{V9, V10, V11, V12, V13, V14}
use Rattle.iocm_model.specs.Machine.Configuration.{records_of}
use Rattle.iocm_rules.specs.Check.{from_v9}
use Rattle.iocm_rules.proofs.FirstBreaches.{found_is}
use Rattle.iocm_rules.proofs.first_breach.first_from_v9.Goals as goal

pub returns : goal.returns
returns g c n is = c.first_of.ensures ∙ found_is
    ((V9, c.first_wanted_by_named.result) ∷ (V10, c.args.searched.now.twice) ∷ (V11, c.args.devices.now.path_list)
    ∷ (V12, c.args.devices.now.candidates)
    ∷ (V13, c.args.searched.now.past) ∷ (V14, c.args.searched.now.shared) ∷ [])
    (from_v9 c.args.config.now.records n) (records_of c.args.config.now.records) (
      refl,
      (
        c.first_wanted_by_named.ensures,
        (
          refl,
          (
            c.requires.twice,
            (
              refl,
              (
                c.requires.path_list,
                (refl, (c.requires.candidates, (refl, (is, (refl, (c.requires.shared, tt)))))),
              ),
            ),
          ),
        ),
      ),
    )
