-- Words that name `run`, a deck, a script, change decks and an option plainly.
use Rattle.std.proofs.Common.{◌≡◌, ◌++◌, ℕ, List, [], ◌∷◌, Option, Some, None, IfSome, append_assoc, codes, map, refl}
use Rattle.std.proofs.Common.{ap, subst}
use Rattle.std.specs.List.{AllByRecursion as ByRecursion}
use Rattle.std.proofs.lemmas.List.Elements.{recursion_from_All}
use Rattle.clap.specs.Kinds.{Kinds, or_else}
use Rattle.clap.specs.Simple.{Shape, built_leaf}
use Rattle.clap.specs.Walk.{Walk, nothing_held, positional, walk_from}
use Rattle.clap.specs.Words.{Row, Text}
use Rattle.clap.specs.declared.builder.value_parser.Reading.TheVariants.{AsWritten}
use Rattle.clap.specs.declared.parser.matches.ValueSource.TheVariants.{CommandLine}
use Rattle.clap.proofs.OnLiterals.{clap_on_literals}
use Rattle.iocm_values.specs.Reading.{◌>>=◌}
use Rattle.iocm_command.specs.CommandLine.{Stated, run, IsSizeText}
use Rattle.iocm_command.specs.Plain.{IsPlainName, Mean, RunsAreMeant, heap_meant, heap_words, plainly}
use Rattle.iocm_command.specs.Program.{command_app, run_row}
use Rattle.iocm_command.proofs.Plain.{heap_said, no_fault, size_is_plain}
use Rattle.iocm_command.proofs.PlainWalk.{ArePlain, Asks, Leaf, Said, is_read, plain, text_of}
use Rattle.iocm_command.proofs.Reading.{size_found, size_passes}

abbrev run_shape : Shape
run_shape = built_leaf (command_app run_row).top

run_leaf : Leaf run_shape
unfolding clap_on_literals
run_leaf = record { walks = refl; passes = refl; found = refl }

module _ (deck script : Text) where
  abbrev row : Text → List Text → Row
  row id values = record { id = id; values = values; count = None; source = Some CommandLine; reading = AsWritten }

  abbrev change_rows : List Text → List Row
  change_rows [] = []
  change_rows (c ∷ cs) = row (codes "CHANGE") (c ∷ cs) ∷ []

  -- the walk after these change decks and one more
  abbrev at_change : List Text → Text → Walk
  at_change seen last = record (walk_from (record {
    rows = row (codes "DECK") (deck ∷ []) ∷ row (codes "SCRIPT") (script ∷ []) ∷ change_rows seen;
    pending = Some (codes "CHANGE", last ∷ []);
    skip = 0;
  })) { waiting = positional; position = 3 }

  -- words from a place of the walk on have no mistake, and ask for a run with these change decks
  abbrev AsksFor : Walk → List Said → List Text → Option Text → Type 0
  AsksFor w words changes size = Asks run_shape w words (run deck script changes (heap_meant size))

  abbrev asked : List Text → Option ℕ → Option Stated
  asked changes size = ((size >>= λ n. Some (Some n)) >>= λ heap. Some (run deck script changes heap)) >>= λ command.
      Some (plainly command)

  -- after the last one
  last_asks : (seen : List Text) (last : Text) (size : Option Text) → IfSome size IsSizeText
      → AsksFor (at_change seen last) (heap_said size) (seen ++ last ∷ []) size
  unfolding clap_on_literals
  last_asks [] last None sized = (refl, refl)
  last_asks (c ∷ cs) last None sized = (refl, refl)
  last_asks [] last (Some size) sized = (
    ap (λ (kinds : Kinds). or_else (or_else kinds []) []) (no_fault size sized),
    ap (asked (last ∷ [])) (size_found size (size_passes size sized)),
  )
  last_asks (c ∷ cs) last (Some size) sized = (
    ap (λ (kinds : Kinds). or_else (or_else kinds []) []) (no_fault size sized),
    ap (asked (c ∷ (cs ++ last ∷ []))) (size_found size (size_passes size sized)),
  )

  -- and before more of them
  rest_asks : (changes : List Text) (seen : List Text) (last : Text) (size : Option Text) → IfSome size IsSizeText
      → AsksFor (at_change seen last) (map plain changes ++ heap_said size) (seen ++ last ∷ changes) size
  unfolding clap_on_literals
  rest_asks [] seen last size sized = last_asks seen last size sized
  rest_asks (c ∷ cs) [] last size sized = rest_asks cs (last ∷ []) c size sized
  rest_asks (c ∷ cs) (x ∷ xs) last size sized =
      subst (λ (changes : List Text). AsksFor (at_change (x ∷ (xs ++ last ∷ [])) c) (map plain cs ++ heap_said size)
      (x ∷ changes) size)
      (append_assoc xs (last ∷ []) (c ∷ cs)) (rest_asks cs (x ∷ (xs ++ last ∷ [])) c size sized)

  all_asks : (changes : List Text) (size : Option Text) → IfSome size IsSizeText
      → AsksFor (walk_from nothing_held) (plain deck ∷ plain script ∷ (map plain changes ++ heap_said size)) changes
      size
  unfolding clap_on_literals
  all_asks [] None sized = (refl, refl)
  all_asks [] (Some size) sized = (
    ap (λ (kinds : Kinds). or_else (or_else kinds []) []) (no_fault size sized),
    ap (asked []) (size_found size (size_passes size sized)),
  )
  all_asks (c ∷ cs) size sized = rest_asks cs [] c size sized

-- the words are these
are_plain : (changes : List Text) (size : Option Text) → ByRecursion IsPlainName changes → IfSome size IsSizeText
    → ArePlain (map plain changes ++ heap_said size)
are_plain [] None all sized = tt
are_plain [] (Some size) all sized = (size_is_plain size sized, tt)
are_plain (c ∷ cs) size all sized = (all.0, are_plain cs size all.1 sized)

texts_are : (changes : List Text) (size : Option Text)
    → map text_of (map plain changes ++ heap_said size) ≡ changes ++ heap_words size
texts_are [] None = refl
texts_are [] (Some size) = refl
texts_are (c ∷ cs) size = ap (λ (texts : List Text). c ∷ texts) (texts_are cs size)

pub runs_are_meant : RunsAreMeant
runs_are_meant program deck script changes size d s all sized =
    subst (λ (texts : List Text). Mean (program ∷ codes "run" ∷ deck ∷ script ∷ texts)
    (run deck script changes (heap_meant size))) (texts_are changes size)
    (is_read run_shape run_leaf program (plain deck ∷ plain script ∷ (map plain changes ++ heap_said size))
    (run deck script changes (heap_meant size))
    (d, (s, are_plain changes size (recursion_from_All IsPlainName changes all) sized))
    (all_asks deck script changes size sized))
