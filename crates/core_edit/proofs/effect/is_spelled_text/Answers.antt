use Rattle.std.proofs.Common.{sym, ◌∙◌, ap, ◌==◌, ℕ, List, length}
use Rattle.std.specs.Str.{bytes_eq}
use Rattle.core_edit.specs.Shown.{text_of}
use Rattle.core_edit.proofs.Effects.{unfit_shows, empty_shows, text_shows}
use Rattle.core_edit.proofs.effect.is_spelled_text.Goals as goal

pub returns-then-not-fits_width : goal.returns-then-not-fits_width
returns-then-not-fits_width c = λ version. unfit_shows c.args.field version (text_of c.args.found.now) c.args.text.now (sym c.if-not-fits_width.ensures)

pub returns-then-is_empty : goal.returns-then-is_empty
returns-then-is_empty c =
    λ version. empty_shows c.args.field version (text_of c.args.found.now) c.args.text.now (sym c.if-not-fits_width.ensures)
    (ap (λ (xs : List ℕ). length xs == 0) (sym c.before_zero-shown.ensures) ∙ sym c.if-is_empty.ensures)

pub returns : goal.returns
returns c =
    λ version. c.is.ensures ∙ ap (bytes_eq (text_of c.args.found.now)) c.before_zero-shown.ensures
    ∙ text_shows c.args.field version (text_of c.args.found.now) c.args.text.now (sym c.if-not-fits_width.ensures)
    (ap (λ (xs : List ℕ). length xs == 0) (sym c.before_zero-shown.ensures) ∙ sym c.if-is_empty.ensures)
