-- What the lines promise.
use Rattle.std.specs.Prelude.{◌≡◌, Bool, List, []}
use Rattle.std.specs.List.{flat_map, list_any}
use Rattle.iocm_objects.specs.Runs as objects
use Rattle.iocm_plan.specs.declared.runs.DeviceRun.{DeviceRun}
use Rattle.iocm_impact.specs.declared.named_image.NamedImage.{NamedImage}
use Rattle.iocm_offon.specs.declared.reason.Reason.{Reason}
use Rattle.iocm_offon_text.specs.Lines.{Line, lines_from, own_reasons}

-- the lines have just the reasons of the objects: a reason that is told of one is in a line, and no line has another
abbrev pub told_reasons : List Line → List Reason
told_reasons ls = flat_map (λ (l : Line). l.reasons) ls

abbrev pub EachReasonIsToldInALine : Type 0
EachReasonIsToldInALine = (is : List NamedImage) (ds : List DeviceRun) (rs : List Reason) (os : List objects.Run)
    (is_it : Reason → Bool)
    → list_any is_it (told_reasons (lines_from is ds rs [] os)) ≡ list_any is_it (flat_map (own_reasons ds rs) os)
