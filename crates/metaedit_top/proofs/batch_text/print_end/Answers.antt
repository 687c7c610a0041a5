use Rattle.std.proofs.Common.{List, ℕ, sym, ◌∙◌, subst}
use Rattle.metaedit_top.specs.declared.batch_end.FileEnd.{FileEnd}
use Rattle.metaedit_top.specs.BatchText.{Printed, end_line}
use Rattle.metaedit_top.proofs.Prints.{fault_is}
use Rattle.metaedit_top.proofs.batch_text.print_end.Goals as goal

pub returns-in-Some : goal.returns-in-Some
returns-in-Some g c =
    let a = c.args.out.now in
    let b = c.print_fault.new.out in
    subst (λ (e : FileEnd). Printed (end_line e) (g.K.Sink.contents a) (g.K.Sink.contents b) (g.K.Sink.faults a) (g.K.Sink.faults b) c.print_fault.result)
    (sym (fault_is c.args.end c.in-Some.faults (sym c.in-Some.is ∙ c.fault_count.ensures))) c.print_fault.ensures

pub returns-in-None : goal.returns-in-None
returns-in-None g c =
    let a = c.args.out.now in
    let b = c.write_all.new.self in
    let e = c.write_all.ensures in
    subst (λ (x : List ℕ). Printed x (g.K.Sink.contents a) (g.K.Sink.contents b) (g.K.Sink.faults a) (g.K.Sink.faults b) c.write_all.result)
    (c.as_slice.ensures ∙ c.requires (sym c.fault_count.ensures ∙ c.in-None.is)) (record { ok = e.ok; err = e.err; silent = e.silent; cause = e.cause })
