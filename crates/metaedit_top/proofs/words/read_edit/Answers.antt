use Rattle.std.proofs.Common.{ℕ, subst, sym, ap, ◌∙◌, Ok, Err}
use Rattle.core_edit.specs.Made.{MakesEdit}
use Rattle.core_edit.specs.declared.edit.EditFault.{EditFault}
use Rattle.metaedit_top.specs.declared.outcome.UsageFault.TheVariants as fault
use Rattle.metaedit_top.specs.Words.{items_in}
use Rattle.metaedit_top.proofs.ItemWords.{edit_twice, no_empty, edit_read, edit_stopped}
use Rattle.metaedit_top.proofs.words.read_edit.Goals as goal

pub returns-in-Err-Twice : goal.returns-in-Err-Twice
returns-in-Err-Twice c = edit_twice c.args.words.now (items_in c.in-Ok.field-0) c.in-Err-Twice.n c.in-Ok.ensures.items c.in-Ok.ensures.some (subst (λ (f : EditFault). MakesEdit c.in-Ok.field-0.items.items (Err f)) c.in-Err-Twice.field-0-is c.in-Err-Twice.ensures)
    ∙ ap (λ (n : ℕ). Err (fault.Twice n)) (sym c.in-Err-Twice.n-is)

pub returns-in-Err-Empty : goal.returns-in-Err-Empty
returns-in-Err-Empty c = absurd (no_empty (items_in c.in-Ok.field-0) c.in-Err-Empty.n c.in-Ok.ensures.some (subst (λ (f : EditFault). MakesEdit c.in-Ok.field-0.items.items (Err f)) c.in-Err-Empty.field-0-is c.in-Err-Empty.ensures))

pub returns-in-None : goal.returns-in-None
returns-in-None c = edit_read c.args.words.now (items_in c.in-Ok.field-0) c.in-Ok.ensures.items c.in-Ok.ensures.some c.in-Ok-new.ensures.1 c.in-None.is ∙ ap Ok (sym c.in-Ok-new.ensures.0)

pub returns-in-Some : goal.returns-in-Some
returns-in-Some c = edit_stopped c.args.words.now (items_in c.in-Ok.field-0) c.in-Some.fault c.in-Ok.ensures.items c.in-Ok.ensures.some c.in-Ok-new.ensures.1 c.in-Some.is
