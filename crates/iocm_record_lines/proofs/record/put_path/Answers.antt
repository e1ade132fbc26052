use Rattle.iocm_record.specs.Meaning.{path_of}
use Rattle.iocm_record_lines.proofs.Parts.{path_put}
use Rattle.iocm_record_lines.proofs.record.put_path.Goals as goal

pub returns : goal.returns
returns g c =
    rw (
      c.in_ok-put-2.ensures,
      c.in_ok-put_operands.ensures,
      c.as_slice-3.ensures.value,
      c.in_ok-put.ensures,
      c.in_ok-put_names-2.ensures,
      c.as_slice-2.ensures,
      c.in_ok-extend_from_slice-2.ensures.items,
      c.in_ok-put_names.ensures,
      c.as_slice.ensures,
      c.in_ok-extend_from_slice.ensures.items,
    ) (path_put c.args.text.now.items (path_of c.args.path.now))
