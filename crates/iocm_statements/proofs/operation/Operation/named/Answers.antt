-- Each longer name, read byte by byte, is the operation's.
use Rattle.std.proofs.Common.{◌≡◌, codes, refl, arith}
use Rattle.std.proofs.lemmas.Slice.Eq.{text_from_reads}
use Rattle.iocm_statements.proofs.operation.Operation.named.Goals as goal

pub returns-in-ONLINE : goal.returns-in-ONLINE
returns-in-ONLINE c =
    let name : c.args.name.now ≡ codes "ONLINE" = text_from_reads _ _ (omega arith)
    (omega arith, (omega arith, (omega arith, (omega arith, (omega arith, (omega arith, tt)))))) in
    rw name refl

pub returns-in-CHOOSE : goal.returns-in-CHOOSE
returns-in-CHOOSE c =
    let name : c.args.name.now ≡ codes "CHOOSE" = text_from_reads _ _ (omega arith)
    (omega arith, (omega arith, (omega arith, (omega arith, (omega arith, (omega arith, tt)))))) in
    rw name refl

pub returns-in-RESOURCE : goal.returns-in-RESOURCE
returns-in-RESOURCE c =
    let name : c.args.name.now ≡ codes "RESOURCE" = text_from_reads _ _ (omega arith) (
      omega arith,
      (
        omega arith,
        (omega arith, (omega arith, (omega arith, (omega arith, (omega arith, (omega arith, tt)))))),
      ),
    ) in
    rw name refl

pub returns-in-CNTLUNIT : goal.returns-in-CNTLUNIT
returns-in-CNTLUNIT c =
    let name : c.args.name.now ≡ codes "CNTLUNIT" = text_from_reads _ _ (omega arith) (
      omega arith,
      (
        omega arith,
        (omega arith, (omega arith, (omega arith, (omega arith, (omega arith, (omega arith, tt)))))),
      ),
    ) in
    rw name refl

pub returns-in-IODEVICE : goal.returns-in-IODEVICE
returns-in-IODEVICE c =
    let name : c.args.name.now ≡ codes "IODEVICE" = text_from_reads _ _ (omega arith) (
      omega arith,
      (
        omega arith,
        (omega arith, (omega arith, (omega arith, (omega arith, (omega arith, (omega arith, tt)))))),
      ),
    ) in
    rw name refl
