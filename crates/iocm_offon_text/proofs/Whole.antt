-- The section is that of the lines, and what these are made of.
use Rattle.std.proofs.Common.{◌≡◌, ℕ, ◌==◌, false, List, [], ◌∷◌, ◌++◌, length, refl, sym, ap, ◌∙◌}
use Rattle.std.proofs.lemmas.Bool.{false≢true}
use Rattle.std.proofs.lemmas.List.{append_assoc}
use Rattle.std.specs.List.{flat_map}
use Rattle.iocm_objects.specs.Runs as objects
use Rattle.iocm_objects.specs.declared.object.Object.{Object}
use Rattle.iocm_plan.specs.declared.runs.DeviceRun.{DeviceRun}
use Rattle.iocm_impact.specs.Impact.{Change, images_of, runs_of}
use Rattle.iocm_impact.specs.declared.named_image.NamedImage.{NamedImage}
use Rattle.iocm_offon.specs.Rerouted.{reasons, reasons_on_runs}
use Rattle.iocm_offon.specs.declared.reason.Reason.{Reason}
use Rattle.iocm_offon_text.specs.Lines.{Line, lines_from}
use Rattle.iocm_offon_text.specs.Texts.{heading, line_text, lines_of, offon_text, section}

pub some_lines : (is : List NamedImage) (ds : List DeviceRun) (ls : List Line) → (length ls == 0) ≡ false
    → section is ds ls ≡ heading ++ flat_map (line_text is ds) ls
some_lines is ds [] some = absurd (false≢true (sym some))
some_lines is ds (l ∷ ls) some = refl

-- two texts behind one are both behind it
pub behind : (text one other : List ℕ) {now end : List ℕ} → now ≡ text ++ one → end ≡ now ++ other
    → end ≡ text ++ (one ++ other)
behind text one other begun ended = ended ∙ ap (λ now. now ++ other) begun ∙ append_assoc text one other

-- of a change
module _ (x : Change) (os : List Object) where
  pub reasons_made : (is : List NamedImage) (ds : List DeviceRun) → is ≡ images_of x → ds ≡ runs_of x
      → flat_map (reasons_on_runs x ds) is ≡ reasons x
  reasons_made is ds images asked =
      ap (λ ds. flat_map (reasons_on_runs x ds) is) asked ∙ ap (flat_map (reasons_on_runs x (runs_of x))) images

  pub lines_made : (is : List NamedImage) (ds : List DeviceRun) (rs : List Reason) (runs : List objects.Run)
      → is ≡ images_of x → ds ≡ runs_of x → rs ≡ reasons x → runs ≡ objects.runs os
      → lines_from is ds rs [] runs ≡ lines_of x os
  lines_made is ds rs runs images asked found told =
      ap (lines_from is ds rs []) told
      ∙ ap (λ rs. lines_from is ds rs [] (objects.runs os)) found
      ∙ ap (λ is. lines_from is ds (reasons x) [] (objects.runs os)) images
      ∙ ap (λ ds. lines_from (images_of x) ds (reasons x) [] (objects.runs os)) asked

  pub made : (is : List NamedImage) (ds : List DeviceRun) (ls : List Line) → is ≡ images_of x → ds ≡ runs_of x
      → ls ≡ lines_of x os → section is ds ls ≡ offon_text x os
  made is ds ls images asked lines =
      ap (section is ds) lines ∙ ap (λ ds. section is ds (lines_of x os)) asked
      ∙ ap (λ is. section is (runs_of x) (lines_of x os)) images
