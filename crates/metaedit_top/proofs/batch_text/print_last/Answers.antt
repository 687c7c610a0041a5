use Rattle.std.proofs.Common.{rules, ◌≡◌, ◌++◌, List, ℕ, Err, Ok, sym, subst, ap, ◌∙◌}
use Rattle.std.specs.Prelude.{codes, decimal}
use Rattle.metaedit_top.specs.BatchText.{Printed, last_line}
use Rattle.metaedit_top.proofs.Prints.{last_pieces, printed_as, printed_front, printed_more}
use Rattle.metaedit_top.proofs.batch_text.print_last.Goals as goal

pub returns-in_err-print_both : goal.returns-in_err-print_both
returns-in_err-print_both g c =
    let a = c.args.out.now in
    let b = c.print_both.new.out in
    let x = c.in_err-print_both.field-0.0 in
    let first : List ℕ = codes "files " ++ decimal c.args.files in
    let second : List ℕ = codes " done " ++ (decimal c.args.done ++ codes "\n") in
    let same : c.from_residual.result ≡ Err x = search rules in
    subst (Printed (last_line c.args.files c.args.done) (g.K.Sink.contents a) (g.K.Sink.contents b) (g.K.Sink.faults a) (g.K.Sink.faults b)) (sym same)
    (printed_as (first ++ second) (last_line c.args.files c.args.done) (g.K.Sink.contents a) (g.K.Sink.contents b) (g.K.Sink.faults a) (g.K.Sink.faults b) (Err x) (last_pieces c.args.files c.args.done)
    (printed_front first second (g.K.Sink.contents a) (g.K.Sink.contents b) (g.K.Sink.faults a) (g.K.Sink.faults b) x
    (printed_as (codes "files " ++ c.as_bytes.result.now) first (g.K.Sink.contents a) (g.K.Sink.contents b) (g.K.Sink.faults a) (g.K.Sink.faults b) (Err x)
    (ap (λ (t : List ℕ). codes "files " ++ t) (c.as_bytes.ensures.value ∙ c.format.ensures.text)) c.in_err-print_both.ensures)))

pub returns : goal.returns
returns g c =
    let a = c.args.out.now in
    let b = c.print_both.new.out in
    let d = c.print_three.new.out in
    let u = c.in_ok-print_both.field-0 in
    let first : List ℕ = codes "files " ++ decimal c.args.files in
    let second : List ℕ = codes " done " ++ (decimal c.args.done ++ codes "\n") in
    printed_as (first ++ second) (last_line c.args.files c.args.done) (g.K.Sink.contents a) (g.K.Sink.contents d) (g.K.Sink.faults a) (g.K.Sink.faults d) c.print_three.result (last_pieces c.args.files c.args.done)
    (printed_more first second (g.K.Sink.contents a) (g.K.Sink.contents b) (g.K.Sink.contents d) (g.K.Sink.faults a) (g.K.Sink.faults b) (g.K.Sink.faults d) u c.print_three.result
    (printed_as (codes "files " ++ c.as_bytes.result.now) first (g.K.Sink.contents a) (g.K.Sink.contents b) (g.K.Sink.faults a) (g.K.Sink.faults b) (Ok u)
    (ap (λ (t : List ℕ). codes "files " ++ t) (c.as_bytes.ensures.value ∙ c.format.ensures.text)) c.in_ok-print_both.ensures)
    (printed_as (codes " done " ++ (c.as_bytes-2.result.now ++ codes "\n")) second (g.K.Sink.contents b) (g.K.Sink.contents d) (g.K.Sink.faults b) (g.K.Sink.faults d) c.print_three.result
    (ap (λ (t : List ℕ). codes " done " ++ (t ++ codes "\n")) (c.as_bytes-2.ensures.value ∙ c.format-2.ensures.text)) c.print_three.ensures))
