use Rattle.std.proofs.Common.{◌<◌, arith}
use Rattle.std.specs.Prelude.{◌^◌}
use Rattle.opendml_index.proofs.Rows.{product_small}
use Rattle.opendml_index.proofs.check.entries_of.Goals as goal

pub overflow_add-end : goal.overflow_add-end
overflow_add-end c =
    let few : c.from.result < 2 ^ 32 = omega arith in
    omega (arith, product_small c.args.head.now.two_fields c.width_of.result c.from.result c.width_of.ensures few)
