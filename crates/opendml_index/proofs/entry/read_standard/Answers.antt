use Rattle.std.proofs.Common.{◌≡◌, ◌∙◌, ◌+◌, ◌-◌, ◌*◌, ℕ, length, ap, arith}
use Rattle.container_model.specs.Written.{slice}
use Rattle.opendml_index.proofs.Rows.{fits_row, standard_row}
use Rattle.opendml_index.proofs.entry.read_standard.Goals as goal

pub returns : goal.returns
returns c =
    let body = c.args.body.now in
    let two = c.args.head.now.two_fields in
    let w = c.width_of-width.result in
    let fits = fits_row two w (length body) c.args.k c.width_of-width.ensures c.if-body-lt24.false c.if-k-body.false in
    let at = 24 + w * c.args.k in
    let eight : at + 8 - at ≡ 8 = omega arith in (
      fits.0,
      c.if-k-head.false,
      standard_row body c.args.k w two c.copy_from_slice.new.self c.second_in-second.result c.standard_in.result c.width_of-width.ensures fits.1 (c.copy_from_slice.ensures.after ∙ ap (λ (n : ℕ). slice body at n) eight) c.second_in-second.ensures c.standard_in.ensures,
    )
