-- Each longer name, read byte by byte, is the verb's.
use Rattle.std.proofs.Common.{◌≡◌, codes, refl, arith}
use Rattle.std.proofs.lemmas.Slice.Eq.{text_from_reads}
use Rattle.iocm_change_records.proofs.verbs.verb_named.Goals as goal

pub returns-in-DELETE : goal.returns-in-DELETE
returns-in-DELETE c =
    let name : c.args.name.now ≡ codes "DELETE" = text_from_reads _ _ (omega arith)
    (omega arith, (omega arith, (omega arith, (omega arith, (omega arith, (omega arith, tt)))))) in
    rw name refl

pub returns-in-MODIFY : goal.returns-in-MODIFY
returns-in-MODIFY c =
    let name : c.args.name.now ≡ codes "MODIFY" = text_from_reads _ _ (omega arith)
    (omega arith, (omega arith, (omega arith, (omega arith, (omega arith, (omega arith, tt)))))) in
    rw name refl
