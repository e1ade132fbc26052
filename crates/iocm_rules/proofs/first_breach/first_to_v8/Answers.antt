-- What each line of the table finds.
use Rattle.std.proofs.Common.{[], ◌∷◌, refl, ◌∙◌}
use Rattle.iocm_types.specs.declared.rule.Rule.TheVariants.{V1, V2, V3, V4, V5, V6, V7, V8}
use Rattle.iocm_model.specs.Machine.Configuration.{records_of}
use Rattle.iocm_rules.specs.Check.{to_v8}
use Rattle.iocm_rules.proofs.FirstBreaches.{found_is}
use Rattle.iocm_rules.proofs.first_breach.first_to_v8.Goals as goal

pub returns : goal.returns
returns g c = c.first_of.ensures ∙ found_is
    ((V1, c.first_wanted.result) ∷ (V2, c.first_wanted-2.result) ∷ (V3, c.first_wanted-3.result)
    ∷ (V4, c.first_wanted_by_named.result)
    ∷ (V5, c.first_wanted-4.result) ∷ (V6, c.first_wanted-5.result) ∷ (V7, c.first_wanted-6.result)
    ∷ (V8, c.args.devices.now.units) ∷ [])
    (to_v8 c.args.config.now.records) (records_of c.args.config.now.records) (
      refl,
      (
        c.first_wanted.ensures,
        (
          refl,
          (
            c.first_wanted-2.ensures,
            (
              refl,
              (
                c.first_wanted-3.ensures,
                (
                  refl,
                  (
                    c.first_wanted_by_named.ensures,
                    (
                      refl,
                      (
                        c.first_wanted-4.ensures,
                        (
                          refl,
                          (
                            c.first_wanted-5.ensures,
                            (refl, (c.first_wanted-6.ensures, (refl, (c.requires, tt)))),
                          ),
                        ),
                      ),
                    ),
                  ),
                ),
              ),
            ),
          ),
        ),
      ),
    )
