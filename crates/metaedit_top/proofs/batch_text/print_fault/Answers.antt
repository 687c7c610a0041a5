use Rattle.std.proofs.Common.{◌++◌, ℕ, List, ◌∙◌, subst}
use Rattle.std.specs.Prelude.{codes}
use Rattle.metaedit_top.specs.BatchText.{Printed}
use Rattle.metaedit_top.proofs.batch_text.print_fault.Goals as goal

pub returns : goal.returns
returns g c =
    let a = c.args.out.now in
    let b = c.print_three.new.out in
    subst (λ (x : List ℕ). Printed (codes "refused 9 DepotFault " ++ (x ++ codes "\n")) (g.K.Sink.contents a) (g.K.Sink.contents b) (g.K.Sink.faults a) (g.K.Sink.faults b) c.print_three.result)
    (c.as_bytes.ensures.value ∙ c.format.ensures.text) c.print_three.ensures
