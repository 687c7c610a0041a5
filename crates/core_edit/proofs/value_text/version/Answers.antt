use Rattle.std.proofs.Common.{◌<◌, sym, ◌∙◌, ap, arith, length, ℕ, List}
use Rattle.me_bytes.specs.Bytes.{le}
use Rattle.part_tree.specs.Fields.{values}
use Rattle.field_model.specs.Fields.{first_raw}
use Rattle.core_edit.proofs.Lawful.{first_two, first_is}
use Rattle.core_edit.proofs.value_text.version.Goals as goal

pub number_2-requires : goal.number_2-requires
number_2-requires c =
    let some : 0 < length c.get-held.result.now = omega arith in
    ap (λ (xs : List ℕ). length xs) c.as_slice.ensures ∙ first_two (values c.args.fields.now) c.get-held.result.now _ c.requires.bext c.get-held.ensures some

pub returns : goal.returns
returns c =
    let some : 0 < length c.get-held.result.now = omega arith in
    c.number_2.ensures ∙ ap le (c.as_slice.ensures ∙ sym (first_is c.get-held.result.now _ some) ∙ ap first_raw c.get-held.ensures)
