use Rattle.std.proofs.Common.{subst, sym, ◌≡◌, Bool}
use Rattle.std.specs.Prelude.{IfOk}
use Rattle.container_model.specs.Written.{slice}
use Rattle.mov_file.proofs.Heads.{short_rows, short_sizes}
use Rattle.mov_file.proofs.tables.is_short.Goals as goal

pub returns-in-Some-clause-short : goal.returns-in-Some-clause-short
returns-in-Some-clause-short g c = λ b holds.
    subst (λ (t : Bool). IfOk c.lacks_rows.result (λ short. short ≡ t)) (short_rows c.args.kind.0 (slice b c.args.body.at c.args.body.len) c.in-Some.len c.in-Some.ensures.len) (c.lacks_rows.ensures.short b holds)

pub returns-then-is-clause-short : goal.returns-then-is-clause-short
returns-then-is-clause-short g c = λ b holds.
    subst (λ (t : Bool). IfOk c.lacks_sizes.result (λ short. short ≡ t)) (short_sizes c.args.kind.0 (slice b c.args.body.at c.args.body.len) c.in-None.ensures.len (sym c.if-is.ensures.is)) (c.lacks_sizes.ensures.short b holds)
