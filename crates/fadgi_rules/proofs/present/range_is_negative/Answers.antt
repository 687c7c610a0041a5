use Rattle.std.proofs.Common.{refl, arith}
use Rattle.part_tree.specs.declared.field.BextField.TheVariants.{Version, LoudnessRange}
use Rattle.part_tree.specs.Fields.{values}
use Rattle.fadgi_rules.proofs.Now.{two_bytes}
use Rattle.fadgi_rules.proofs.present.range_is_negative.Goals as goal

pub number-requires : goal.number-requires
number-requires c = two_bytes (values c.args.fields.now) Version refl (λ e. omega (arith, e)) c.requires.bext

pub number-requires-then-number-ge2 : goal.number-requires-then-number-ge2
number-requires-then-number-ge2 c = two_bytes (values c.args.fields.now) LoudnessRange refl (λ e. omega (arith, e)) c.requires.bext
