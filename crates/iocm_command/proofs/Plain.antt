-- Words that name a command and its files plainly, with options or none.
use Rattle.std.proofs.Common.{◌≡◌, ◌==◌, ◌++◌, ℕ, Bool, true, false, List, [], ◌∷◌, Option, Some, None, IfSome, arith}
use Rattle.std.proofs.Common.{ap, codes, map, refl, subst}
use Rattle.std.proofs.lemmas.Bool.{eqb-true}
use Rattle.std.specs.Str.Parse.{IsNumeral, without_leading_plus}
use Rattle.clap.specs.Kinds.{Kinds, or_else, value_kinds}
use Rattle.clap.specs.Simple.{Shape, built_leaf}
use Rattle.clap.specs.Walk.{nothing_held, walk_from}
use Rattle.clap.specs.Words.{Text}
use Rattle.clap.proofs.OnLiterals.{clap_on_literals}
use Rattle.iocm_filter.specs.Wanted.{nothing}
use Rattle.iocm_values.specs.Reading.{◌>>=◌, every}
use Rattle.iocm_command.specs.CommandLine.{Stated, check, show, write, apply, IsSizeText}
use Rattle.iocm_command.specs.Plain.{AppliesAreMeant, DecksAreMeant, IsPlainName, MeanApply, MeansApply, heap_meant}
use Rattle.iocm_command.specs.Plain.{plainly}
use Rattle.iocm_command.specs.Program.{apply_row, check_row, command_app, heap_parser, show_row, write_row}
use Rattle.iocm_command.specs.declared.report.Report.{Report}
use Rattle.iocm_command.specs.declared.report.Report.TheVariants.{Table, WayBack}
use Rattle.iocm_command.specs.declared.table.Breaches.TheVariants.{First}
use Rattle.iocm_command.proofs.PlainWalk.{ArePlain, Asks, Leaf, Said, is_read, option, plain, text_of}
use Rattle.iocm_command.proofs.Reading.{size_found, size_passes}

-- ---- a deck alone

pub decks_are_meant : DecksAreMeant
unfolding clap_on_literals every
decks_are_meant program deck is_plain = (
  is_read (built_leaf (command_app check_row).top) (record { walks = refl; passes = refl; found = refl })
      program (plain deck ∷ []) (check deck First) (is_plain, tt) (refl, refl),
  is_read (built_leaf (command_app show_row).top) (record { walks = refl; passes = refl; found = refl })
      program (plain deck ∷ []) (show deck nothing) (is_plain, tt) (refl, refl),
  is_read (built_leaf (command_app write_row).top) (record { walks = refl; passes = refl; found = refl })
      program (plain deck ∷ []) (write deck) (is_plain, tt) (refl, refl),
)

-- ---- the size of a heap

hyphen_is_no_digit : (bs : List ℕ) → IsNumeral 10 (without_leading_plus (45 ∷ bs)) → ⊥
hyphen_is_no_digit bs h = omega (arith, h.1.0)

-- a size doesn't begin with a hyphen
pub size_is_plain : (text : Text) → IsSizeText text → IsPlainName text
size_is_plain [] h = absurd (omega (arith, h.0.0))
size_is_plain (b ∷ bs) h = (b, bs, refl, go (b == 45) refl)
  where
    go : (t : Bool) → (b == 45) ≡ t → (b == 45) ≡ false
    go false e = e
    go true e = absurd (hyphen_is_no_digit bs
        (subst (λ (x : ℕ). IsNumeral 10 (without_leading_plus (x ∷ bs))) (eqb-true b 45 e) h.0))

-- and has no mistake
pub no_fault : (text : Text) → IsSizeText text → value_kinds false heap_parser text ≡ []
no_fault text sized = let passes = size_passes text sized in simp passes

-- the option with a size, if there is one
abbrev pub heap_said : Option Text → List Said
heap_said None = []
heap_said (Some size) = option (codes "--heap") ∷ plain size ∷ []

-- ---- a deck and a change deck

abbrev apply_shape : Shape
apply_shape = built_leaf (command_app apply_row).top

apply_leaf : Leaf apply_shape
unfolding clap_on_literals
apply_leaf = record { walks = refl; passes = refl; found = refl }

module _ (program deck change : Text) (d : IsPlainName deck) (c : IsPlainName change) where
  abbrev means : (options : List Said) (size : Option Text) (report : Report) → ArePlain options
      → Asks apply_shape (walk_from nothing_held) (plain deck ∷ plain change ∷ options)
      (apply deck change (heap_meant size) report nothing)
      → MeanApply program deck change (map text_of options) (heap_meant size) report
  means options size report are = is_read apply_shape apply_leaf program (plain deck ∷ plain change ∷ options)
      (apply deck change (heap_meant size) report nothing) (d, (c, are))

  -- what is asked for by a size that is read
  abbrev asked : Report → Option ℕ → Option Stated
  asked report size = ((size >>= λ n. Some (Some n)) >>= λ heap. Some (apply deck change heap report nothing))
      >>= λ command. Some (plainly command)

  all_mean : (size : Option Text) → IfSome size IsSizeText → MeansApply program deck change size
  unfolding clap_on_literals every
  all_mean None sized = (
    means [] None Table tt (refl, refl),
    means (option (codes "--undo") ∷ []) None WayBack tt (refl, refl),
    means (option (codes "--undo") ∷ []) None WayBack tt (refl, refl),
  )
  all_mean (Some size) sized =
      let z = size_is_plain size sized in
      let found = size_found size (size_passes size sized) in
      let last = ap (λ (kinds : Kinds). or_else (or_else kinds []) []) (no_fault size sized) in (
        means (heap_said (Some size)) (Some size) Table (z, tt) (last, ap (asked Table) found),
        means (heap_said (Some size) ++ option (codes "--undo") ∷ []) (Some size) WayBack (z, tt) (
          ap (λ (kinds : Kinds). or_else (or_else (or_else (or_else (or_else kinds []) []) []) []) [])
              (no_fault size sized),
          ap (asked WayBack) found,
        ),
        means (option (codes "--undo") ∷ heap_said (Some size)) (Some size) WayBack (z, tt)
            (last, ap (asked WayBack) found),
      )

pub applies_are_meant : AppliesAreMeant
applies_are_meant program deck change size d c = all_mean program deck change d c size
