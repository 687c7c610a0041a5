use Rattle.std.proofs.Common.{◌∙◌, sym, subst, List, ℕ}
use Rattle.field_model.specs.Bext.{form_of}
use Rattle.core_edit.specs.Forms.{FormHasNumber}
use Rattle.core_edit.proofs.Effects.{spelled_number}
use Rattle.core_edit.proofs.effect.is_spelled_short.Goals as goal

pub shown_bext-requires : goal.shown_bext-requires
shown_bext-requires c =
    subst (λ (xs : List ℕ). FormHasNumber (form_of c.args.field) xs) (sym c.as_slice.ensures)
    (spelled_number c.args.field c.args.text.now c.in-Some.raw (sym c.in-Some.is ∙ c.short_raw.ensures))
