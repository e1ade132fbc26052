-- Entries and words as they are worked by hand.
use Rattle.std.specs.Prelude.{◌≡◌, ◌++◌, [], ◌∷◌, Err, Ok, codes}
use Rattle.iocm_types.specs.declared.rule.Rule.TheVariants.{E2, O3}
use Rattle.iocm_explain.specs.Explain.{explained, told}
use Rattle.iocm_explain.specs.Printed.{entry_lines, heading_line, whole}

pub record AsWorked : Type 0 where
  pub entry : whole (codes "S10") (codes "no verb") (codes "Explanation.\nResponse.")
      ≡ codes "S10: no verb\n\nExplanation.\nResponse."
  pub listed : heading_line E2 ≡ codes "E2: what is to be deleted or modified isn't there\n"
  pub capital : explained (codes "O3" ∷ []) ≡ Ok (O3 ∷ [])
  pub small : explained (codes "o3" ∷ []) ≡ Ok (O3 ∷ [])
  pub two : explained (codes "o3" ∷ codes "E2" ∷ []) ≡ Ok (O3 ∷ E2 ∷ [])
  pub twice : explained (codes "E2" ∷ codes "E2" ∷ []) ≡ Ok (E2 ∷ E2 ∷ [])
  pub no_word : explained [] ≡ Ok []
  pub unknown : explained (codes "E2" ∷ codes "X9" ∷ codes "o4" ∷ []) ≡ Err (codes "X9")
  pub zero_before : explained (codes "E02" ∷ []) ≡ Err (codes "E02")
  pub letter_alone : explained (codes "E" ∷ []) ≡ Err (codes "E")
  pub blank_after : explained (codes "E2 " ∷ []) ≡ Err (codes "E2 ")
  pub nothing : explained ([] ∷ []) ≡ Err []
  pub told_of_two : told (O3 ∷ E2 ∷ []) ≡ entry_lines O3 ++ (codes "\n" ++ entry_lines E2)
