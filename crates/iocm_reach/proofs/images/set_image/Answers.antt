-- One path more.
use Rattle.std.proofs.Common.{◌≡◌, ◌∙◌, ◌+◌, ◌*◌, ◌<◌, List, length, set, arith, ap, refl, get_or-set_other}
use Rattle.std.proofs.lemmas.List.{length-set}
use Rattle.iocm_model.specs.Machine.Configuration.{lookup_of}
use Rattle.iocm_reach.specs.Reached.{path_to}
use Rattle.iocm_reach.specs.Tabled.{row_of, neither, cell_of}
use Rattle.iocm_reach.specs.declared.image_path.ImagePath.{ImagePath}
use Rattle.iocm_reach.proofs.RangeRows.{image_apart, place_written, read_by_name}
use Rattle.iocm_reach.proofs.Written.{right_more}
use Rattle.iocm_reach.proofs.images.set_image.Goals as goal

pub loop-number-preserved : goal.loop-number-preserved
loop-number-preserved g c =
    let now = lookup_of c.args.config.now.records in
    let place : c.from-place.result ≡ c.args.mif = c.from-place.ensures ∙ c.number.ensures.value in
    let below : c.args.mif < 16 = omega arith in
    let wrote : c.set_place.new.table
    ≡ set c.loop-number.table (row_of c.args.css c.loop-number.number * 16 + c.args.mif)
    (path_to now c.args.css c.loop-number.number c.args.mif) =
    place_written c.loop-number.table c.set_place.new.table c.args.css c.new.result c.loop-number.number
    c.from-place.result c.args.mif _ _ c.set_place.ensures.table c.new.ensures place
    (read_by_name c.loop-number.paths c.args.config.now.records c.args.css c.new.result c.loop-number.number c.args.mif
    c.name_of_image-name.result
    c.loop-number.invariant.same_paths c.new.ensures c.name_of_image-name.ensures) in
    record {
      same_paths = c.set_place.ensures.paths ∙ c.loop-number.invariant.same_paths;
      same_online = c.set_place.ensures.online ∙ c.loop-number.invariant.same_online;
      so_far = λ path low. ap (λ (t : List ImagePath). cell_of t (row_of c.args.css path) c.args.mif) wrote
          ∙ right_more (λ _. Unit {0}) (λ p. row_of c.args.css p * 16 + c.args.mif)
          (λ p. path_to now c.args.css p c.args.mif) c.loop-number.table neither _ _ c.loop-number.number refl
          (omega arith)
          (λ m other alike. other (omega (arith, alike))) (λ m _ less. c.loop-number.invariant.so_far m less) refl path
          tt low;
      others = λ of path other within low differ. ap (λ (t : List ImagePath). cell_of t (row_of of path) other) wrote
          ∙ get_or-set_other c.loop-number.table _ _ _ neither
          (image_apart c.args.css c.loop-number.number c.args.mif of path other c.loop-number-test.true within below
          low differ)
          ∙ c.loop-number.invariant.others of path other within low differ;
      long = ap length wrote ∙ length-set c.loop-number.table _ _ ∙ c.loop-number.invariant.long;
    }
