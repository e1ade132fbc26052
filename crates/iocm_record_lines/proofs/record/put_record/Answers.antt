use Rattle.json.specs.Print.{escape_byte}
use Rattle.iocm_record_lines.proofs.record.put_record.Goals as goal

pub returns-in-Id : goal.returns-in-Id
unfolding escape_byte
returns-in-Id g c = rw (← c.body.ensures, c.in-Id.is, ← c.deref.ensures.value) c.put_statement.ensures
