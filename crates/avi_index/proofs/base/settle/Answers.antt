use Rattle.std.proofs.Common.{◌<◌, ◌∙◌, ◌+◌, length, sym, refl, arith}
use Rattle.std.specs.declared.result.Result.TheVariants.{Ok, Err}
use Rattle.part_tree.specs.declared.table.Base.TheVariants.{Movi, FileStart}
use Rattle.part_tree.specs.declared.index.IndexFault.TheVariants.{NoBase}
use Rattle.avi_index.proofs.Judged.{at_row, settles_movi, settles_start, past_end}
use Rattle.avi_index.proofs.base.settle.Goals as goal
use Rattle.avi_index.proofs.base.settle.Goals.{then-len-lt4-via-then-len-lt4, then-len-lt4-via-else-len-lt4+then-offset-len}

pub returns-in-Ok-true-clause-base : goal.returns-in-Ok-true-clause-base
returns-in-Ok-true-clause-base g c b row held is =
    settles_movi b c.args.indexes.now c.args.movi row c.from-offset.result c.args.entry.now.len c.in-Ok-true.field-0 (Ok (Movi c.args.movi.at)) (at_row row c.args.entry.now c.from-offset.result c.args.entry.now.len is c.from-offset.ensures refl) c.if-offset-movi.true
    (sym c.lies_in.ensures ∙ c.if-not-lies_in.false) (c.in-Ok-true.ensures.stands b row held is.id) (c.in-Ok-true.field-0-test, refl)

pub returns-in-Ok-false-clause-base : goal.returns-in-Ok-false-clause-base
returns-in-Ok-false-clause-base g c b row held is =
    settles_movi b c.args.indexes.now c.args.movi row c.from-offset.result c.args.entry.now.len c.in-Ok-false.field-0 (Err NoBase) (at_row row c.args.entry.now c.from-offset.result c.args.entry.now.len is c.from-offset.ensures refl) c.if-offset-movi.true
    (sym c.lies_in.ensures ∙ c.if-not-lies_in.false) (c.in-Ok-false.ensures.stands b row held is.id) c.in-Ok-false.field-0-test

pub returns-then-len-lt4-clause-base : goal.returns-then-len-lt4-clause-base
returns-then-len-lt4-clause-base g c b row held is =
    let all = c.requires.whole b held in
    let short : length b < c.from-offset.result + 4 = elim c.then-len-lt4.branch [
      | then-len-lt4-via-then-len-lt4 w ↦ omega (arith, all)
      | then-len-lt4-via-else-len-lt4+then-offset-len w ↦ omega (arith, all)
    ] in
    past_end b c.args.indexes.now c.args.movi row c.from-offset.result c.args.entry.now.len (at_row row c.args.entry.now c.from-offset.result c.args.entry.now.len is c.from-offset.ensures refl) c.if-offset-movi.false short

pub returns-in-Ok-true-stands_at-clause-base : goal.returns-in-Ok-true-stands_at-clause-base
returns-in-Ok-true-stands_at-clause-base g c b row held is =
    settles_start b c.args.indexes.now c.args.movi row c.from-offset.result c.args.entry.now.len c.in-Ok-true-stands_at.field-0 (Ok FileStart) (at_row row c.args.entry.now c.from-offset.result c.args.entry.now.len is c.from-offset.ensures refl) c.if-offset-movi.false
    (c.in-Ok-true-stands_at.ensures.stands b row held is.id) (c.in-Ok-true-stands_at.field-0-test, refl)

pub returns-in-Ok-false-stands_at-clause-base : goal.returns-in-Ok-false-stands_at-clause-base
returns-in-Ok-false-stands_at-clause-base g c b row held is =
    settles_start b c.args.indexes.now c.args.movi row c.from-offset.result c.args.entry.now.len c.in-Ok-false-stands_at.field-0 (Err NoBase) (at_row row c.args.entry.now c.from-offset.result c.args.entry.now.len is c.from-offset.ensures refl) c.if-offset-movi.false
    (c.in-Ok-false-stands_at.ensures.stands b row held is.id) c.in-Ok-false-stands_at.field-0-test
