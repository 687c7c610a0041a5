use Rattle.std.proofs.Common.{rules, ◌≡◌, ◌∷◌, ◌-◌, min, length, sym, subst}
use Rattle.file_swap.specs.declared.rewrite.Stage.{Stage}
use Rattle.file_swap.specs.declared.rewrite.Stage.TheVariants.{Append, AppendRows}
use Rattle.file_swap.specs.Steps.{block}
use Rattle.file_swap.specs.Parts.{literal_at, step_of, left, IsStage}
use Rattle.file_swap.proofs.Copies.{read_next, rows_next, put_next}
use Rattle.file_swap.proofs.rewrite.Parts.next.Goals as goal

pub returns-in-Read-clause-left : goal.returns-in-Read-clause-left
returns-in-Read-clause-left c =
    let s = c.args.self.now in
    subst (λ (t : Stage). left s t ≡ step_of s t ∷ left s (Append c.in-Read.i c.in-Read.from)) (sym c.in-Read.is)
    (read_next s c.in-Read.i c.in-Read.from (subst (IsStage s) c.in-Read.is c.requires.stage))

pub returns-in-Put-clause-left : goal.returns-in-Put-clause-left
returns-in-Put-clause-left c =
    let s = c.args.self.now in
    let e : c.min.result ≡ min block (length (literal_at s c.in-Put.i) - c.in-Put.from) = search rules in
    subst (λ (t : Stage). left s t ≡ step_of s t ∷ left s c.put_more.result) (sym c.in-Put.is)
    (put_next s c.in-Put.i c.in-Put.from c.min.result c.put_more.result (subst (IsStage s) c.in-Put.is c.requires.stage) e c.put_more.ensures.left)

pub returns-in-ReadRows-clause-left : goal.returns-in-ReadRows-clause-left
returns-in-ReadRows-clause-left c =
    let s = c.args.self.now in
    subst (λ (t : Stage). left s t ≡ step_of s t ∷ left s (AppendRows c.in-ReadRows.i c.in-ReadRows.first)) (sym c.in-ReadRows.is)
    (rows_next s c.in-ReadRows.i c.in-ReadRows.first (subst (IsStage s) c.in-ReadRows.is c.requires.stage))
