use Rattle.std.proofs.Common.{arith, rules, refl, sym, ap, ◌∙◌, ◌+◌, ℕ, List, drop}
use Rattle.container_model.specs.Chunk.{full_header}
use Rattle.container_model.specs.Windows.{window}
use Rattle.container_model.proofs.Windows.{length-window}
use Rattle.qt_atoms.specs.Walk.{InOrder, form_of, header_len, level_of}
use Rattle.qt_atoms.specs.declared.walker.AtomAt.{AtomAt}
use Rattle.qt_atoms.proofs.Steps.{bad_stuck, cut_stuck, few_stepped, past_stuck, stepped}
use Rattle.qt_atoms.proofs.walker.AtomWalker.pass.Goals as goal

pub returns-in-Rest-clause-row : goal.returns-in-Rest-clause-row
returns-in-Rest-clause-row c = λ b fits begins has.
    let at = c.args.self.now.at in
    let end = c.args.self.now.end in
    few_stepped (level_of c.args.self.now.parent) b at end (c.in-Rest.ensures.header (window b at end) (length-window b at end fits) has)

pub returns-in-Small-clause-stuck : goal.returns-in-Small-clause-stuck
returns-in-Small-clause-stuck c = λ b fits begins has.
    let at = c.args.self.now.at in
    let end = c.args.self.now.end in
    (bad_stuck (level_of c.args.self.now.parent) b at end (c.in-Small.ensures.header (window b at end) (length-window b at end fits) has), refl)

pub returns-in-PastEnd-clause-stuck : goal.returns-in-PastEnd-clause-stuck
returns-in-PastEnd-clause-stuck c = λ b fits begins has.
    let at = c.args.self.now.at in
    let end = c.args.self.now.end in
    (past_stuck (level_of c.args.self.now.parent) b at end (c.in-PastEnd.ensures.header (window b at end) (length-window b at end fits) has), refl)

pub returns-then-len-room-clause-stuck : goal.returns-then-len-room-clause-stuck
returns-then-len-room-clause-stuck c = λ b fits begins has.
    let at = c.args.self.now.at in
    let end = c.args.self.now.end in
    let room = c.in-Whole.ensures.room.0 in (
      cut_stuck (level_of c.args.self.now.parent) b at end c.in-Whole.form _ c.in-Whole.len fits room (omega (arith, room, c.header_len.ensures, c.if-len-room.true))
          (c.in-Whole.ensures.header (window b at end) (length-window b at end fits) has),
      refl,
    )

pub returns-else-len-room-clause-row : goal.returns-else-len-room-clause-row
returns-else-len-room-clause-row c = λ b fits begins has.
    let at = c.args.self.now.at in
    let end = c.args.self.now.end in
    let s = level_of c.args.self.now.parent in
    let k : AtomAt =
    record {
      kind = c.args.head.kind;
      at = at;
      body = record { at = at + c.header_len-in-Whole.result; len = c.in-Whole.len };
      form = c.in-Whole.form;
      next = at + c.header_len-in-Whole.result + c.in-Whole.len;
    }
    in
    let order : InOrder at end k = search rules in
    stepped s b at end k fits order
    (c.in-Whole.ensures.header (window b at end) (length-window b at end fits) has
    ∙ ap (λ (id : List ℕ). full_header (form_of k.form) id k.body.len (drop (header_len k.form) (window b at end)) s) (sym begins.kind))
