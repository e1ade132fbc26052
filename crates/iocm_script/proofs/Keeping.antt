-- The rounds of a script have all lines of actors, and there is one more than lines sync.
use Rattle.std.proofs.Common.{◌≡◌, List, [], ◌∷◌, map, refl, ap, ◌∙◌}
use Rattle.std.specs.List.{filter_map, flat_map, onto_first, slice_split}
use Rattle.std.proofs.lemmas.List.{length-map}
use Rattle.std.proofs.lemmas.List.Splits.{length-slice_split}
use Rattle.iocm_script.specs.declared.line.Line as code
use Rattle.iocm_script.specs.declared.line.Spoken.{Spoken}
use Rattle.iocm_script.specs.declared.line.Spoken.TheVariants.{Nothing, Sync, Line}
use Rattle.iocm_script.specs.Lines.{is_sync}
use Rattle.iocm_script.specs.Scripts.{HaveOneRoundMore, KeepLines, line_said}

abbrev flat : List (List Spoken) → List code.Line
flat pieces = flat_map (λ round. round) (map (filter_map line_said) pieces)

nothing_kept : (pieces : List (List Spoken)) → flat (onto_first Nothing pieces) ≡ flat pieces
nothing_kept [] = refl
nothing_kept (p ∷ ps) = refl

line_kept : (l : code.Line) (pieces : List (List Spoken)) → flat (onto_first (Line l) pieces) ≡ l ∷ flat pieces
line_kept l [] = refl
line_kept l (p ∷ ps) = refl

pub lines_kept : KeepLines
lines_kept [] = refl
lines_kept (Nothing ∷ xs) = nothing_kept (slice_split is_sync xs) ∙ lines_kept xs
lines_kept (Sync ∷ xs) = lines_kept xs
lines_kept (Line l ∷ xs) = line_kept l (slice_split is_sync xs) ∙ ap (λ ls. l ∷ ls) (lines_kept xs)

pub one_round_more : HaveOneRoundMore
one_round_more lines = length-map (slice_split is_sync lines) (filter_map line_said) ∙ length-slice_split is_sync lines
