use Rattle.std.proofs.Common.{refl}
use Rattle.part_tree.specs.declared.field.BextField.TheVariants.{CodingHistory}
use Rattle.wave_file.proofs.Grown.{range_added}
use Rattle.wave_file.proofs.Roles.{ok_map}
use Rattle.wave_file.proofs.fields.add_bext.Goals as goal

pub returns : goal.returns
returns c =
    ok_map c.add.result (range_added c.args.fields.now c.add_rows.new.fields c.add.new.self 14 CodingHistory c.in_ok-value.value c.args.body.now refl c.in_ok-value.ensures c.in_ok-add_rows.ensures) c.add.ensures.ok
