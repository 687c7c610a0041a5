use Rattle.std.proofs.Common.{◌∙◌, ap, map}
use Rattle.rf64_ds64.specs.Ds64.{row_of}
use Rattle.rf64_ds64.proofs.Rows.{read_is}
use Rattle.rf64_ds64.proofs.read_ds64.Goals as goal

pub returns : goal.returns
returns c =
    read_is c.args.body.now _ c.le32_in-count.result c.if-len-lt28.false c.if-len-end.false c.le32_in-count.ensures c.le64_in.ensures c.le64_in-2.ensures c.le64_in-3.ensures
    (ap (map row_of) c.new-2.ensures ∙ c.in_ok-rows.ensures) c.in_ok-extra.ensures
