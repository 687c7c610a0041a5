use Rattle.std.proofs.Common.{sym, ◌∙◌, ap, arith, length, ◌<◌}
use Rattle.part_tree.specs.Names.{field_place, same_name}
use Rattle.part_tree.specs.declared.fields.Entry.{Entry}
use Rattle.part_tree.proofs.Entries.{values_there, values_missing, absent_at, same_item, Absent, front_len}
use Rattle.part_tree.proofs.fields.Fields.get.Goals as goal
use Rattle.part_tree.proofs.fields.Fields.get.Goals.{else-k-len-via-then-k-len+else-is, else-k-len-via-else-k-len}

pub returns-then-is : goal.returns-then-is
returns-then-is c =
    let at = c.entries_before-k.ensures.count ∙ ap (front_len (field_place c.args.name.now)) c.deref.ensures.value in
    let inside : c.entries_before-k.result < length c.self.inside.entries.items = omega (arith, c.if-k-len.true, c.len.ensures) in
    let one = same_item c.self.inside.entries.items c.entries_before-k.result c.index-then-is.result.now c.index.result.now c.index-then-is.ensures c.index.ensures inside in
    let hit = ap (λ (e : Entry). same_name e.name c.args.name.now) one ∙ (sym c.is.ensures ∙ c.if-is.true) in
    rw (← c.self.view_is) (c.as_slice.ensures ∙ values_there c.self.inside.entries.items c.entries_before-k.result c.args.name.now c.index-then-is.result.now inside at c.index-then-is.ensures hit)

pub returns : goal.returns
returns c =
    let at = c.entries_before-k.ensures.count ∙ ap (front_len (field_place c.args.name.now)) c.deref.ensures.value in
    let absent : Absent c.self.inside.entries.items c.entries_before-k.result c.args.name.now =
    elim c.else-k-len.branch [
      | else-k-len-via-then-k-len+else-is w ↦ absent_at _ _ _ w.index.result.now w.index.ensures (sym w.is.ensures ∙ w.if-is.false)
      | else-k-len-via-else-k-len w ↦ λ d inside. absurd (omega (arith, w.if-k-len.false, c.len.ensures))
    ]
    in
    rw (← c.self.view_is) (values_missing c.self.inside.entries.items c.entries_before-k.result c.args.name.now c.self.invariant at absent)
