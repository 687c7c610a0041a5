use Rattle.std.proofs.Common.{sym, ◌∙◌, ap, arith, length, ◌<◌}
use Rattle.part_tree.specs.Names.{field_place}
use Rattle.part_tree.proofs.Entries.{removed_entry, absent_entry, absent_at, Absent, front_len}
use Rattle.part_tree.proofs.fields.Fields.take_away.Goals as goal
use Rattle.part_tree.proofs.fields.Fields.take_away.Goals.{else-k-len-via-then-k-len+else-is, else-k-len-via-else-k-len}

pub invariant_of-self : goal.invariant_of-self
invariant_of-self c =
    let at = c.entries_before-k.ensures.count ∙ ap (front_len (field_place c.args.name.now)) c.deref.ensures.value in
    let inside : c.entries_before-k.result < length c.self.inside.entries.items = omega (arith, c.if-k-len.true, c.len.ensures) in
    rw c.remove.ensures.items (removed_entry c.self.inside.entries.items c.entries_before-k.result c.args.name.now c.index.result.now c.self.invariant inside at c.index.ensures (sym c.is.ensures ∙ c.if-is.true)).0

pub returns-then-is : goal.returns-then-is
returns-then-is c =
    let at = c.entries_before-k.ensures.count ∙ ap (front_len (field_place c.args.name.now)) c.deref.ensures.value in
    let inside : c.entries_before-k.result < length c.self.inside.entries.items = omega (arith, c.if-k-len.true, c.len.ensures) in
    rw (← c.self.view_is, c.remove.ensures.items) (removed_entry c.self.inside.entries.items c.entries_before-k.result c.args.name.now c.index.result.now c.self.invariant inside at c.index.ensures (sym c.is.ensures ∙ c.if-is.true)).1

pub returns-else-k-len : goal.returns-else-k-len
returns-else-k-len c =
    let at = c.entries_before-k.ensures.count ∙ ap (front_len (field_place c.args.name.now)) c.deref.ensures.value in
    let absent : Absent c.self.inside.entries.items c.entries_before-k.result c.args.name.now =
    elim c.else-k-len.branch [
      | else-k-len-via-then-k-len+else-is w ↦ absent_at _ _ _ w.index.result.now w.index.ensures (sym w.is.ensures ∙ w.if-is.false)
      | else-k-len-via-else-k-len w ↦ λ d inside. absurd (omega (arith, w.if-k-len.false, c.len.ensures))
    ]
    in
    rw (← c.self.view_is) (absent_entry c.self.inside.entries.items c.entries_before-k.result c.args.name.now c.self.invariant c.requires at absent)
