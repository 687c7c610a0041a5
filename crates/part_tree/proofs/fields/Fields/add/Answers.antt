use Rattle.std.proofs.Common.{sym, ◌∙◌, ap, arith, length, ◌<◌}
use Rattle.std.specs.Prelude.{is_ok}
use Rattle.part_tree.specs.Names.{field_place, same_name}
use Rattle.part_tree.specs.declared.fields.Entry.{Entry}
use Rattle.part_tree.proofs.Entries.{add_there, add_beside, absent_at, same_item, Absent, front_len}
use Rattle.part_tree.proofs.fields.Fields.add.Goals as goal
use Rattle.part_tree.proofs.fields.Fields.add.Goals.{else-k-len-via-then-k-len+else-is, else-k-len-via-else-k-len, in-Ok, in-Err}

pub invariant_of-self : goal.invariant_of-self
invariant_of-self c =
    let at = c.entries_before-k.ensures.count ∙ ap (front_len (field_place c.args.name)) c.deref.ensures.value in
    let inside : c.entries_before-k.result < length c.self.inside.entries.items = omega (arith, c.if-k-len.true, c.len.ensures) in
    let one = same_item c.self.inside.entries.items c.entries_before-k.result c.index_mut-entry.result.now c.index.result.now c.index_mut-entry.ensures.value c.index.ensures inside in
    let hit = ap (λ (e : Entry). same_name e.name c.args.name) one ∙ (sym c.is.ensures ∙ c.if-is.true) in
    (add_there c.self.inside.entries.items c.entries_before-k.result c.args.name c.args.value c.index_mut-entry.result.now c.push.new.self c.push.result
    c.self.invariant inside at c.index_mut-entry.ensures.value hit c.push.ensures).0

pub returns-then-is-clause-ok : goal.returns-then-is-clause-ok
returns-then-is-clause-ok c =
    let at = c.entries_before-k.ensures.count ∙ ap (front_len (field_place c.args.name)) c.deref.ensures.value in
    let inside : c.entries_before-k.result < length c.self.inside.entries.items = omega (arith, c.if-k-len.true, c.len.ensures) in
    let one = same_item c.self.inside.entries.items c.entries_before-k.result c.index_mut-entry.result.now c.index.result.now c.index_mut-entry.ensures.value c.index.ensures inside in
    let hit = ap (λ (e : Entry). same_name e.name c.args.name) one ∙ (sym c.is.ensures ∙ c.if-is.true) in
    rw (← c.self.view_is) (add_there c.self.inside.entries.items c.entries_before-k.result c.args.name c.args.value c.index_mut-entry.result.now c.push.new.self c.push.result
    c.self.invariant inside at c.index_mut-entry.ensures.value hit c.push.ensures).1

pub invariant_of-self-2 : goal.invariant_of-self-2
invariant_of-self-2 c =
    let at = c.entries_before-k.ensures.count ∙ ap (front_len (field_place c.args.name)) c.deref.ensures.value in
    let absent : Absent c.self.inside.entries.items c.entries_before-k.result c.args.name =
    elim c.else-k-len.branch [
      | else-k-len-via-then-k-len+else-is w ↦ absent_at _ _ _ w.index.result.now w.index.ensures (sym w.is.ensures ∙ w.if-is.false)
      | else-k-len-via-else-k-len w ↦ λ d inside. absurd (omega (arith, w.if-k-len.false, c.len.ensures))
    ]
    in
    (add_beside c.self.inside.entries.items c.entries_before-k.result c.args.name c.args.value c.in_ok-values.values c.insert.new.self.items (is_ok c.insert.result)
    c.self.invariant c.requires at absent c.in_ok-values.ensures c.insert.ensures.items).0

pub returns-clause-ok : goal.returns-clause-ok
returns-clause-ok c =
    let at = c.entries_before-k.ensures.count ∙ ap (front_len (field_place c.args.name)) c.deref.ensures.value in
    let absent : Absent c.self.inside.entries.items c.entries_before-k.result c.args.name =
    elim c.else-k-len.branch [
      | else-k-len-via-then-k-len+else-is w ↦ absent_at _ _ _ w.index.result.now w.index.ensures (sym w.is.ensures ∙ w.if-is.false)
      | else-k-len-via-else-k-len w ↦ λ d inside. absurd (omega (arith, w.if-k-len.false, c.len.ensures))
    ]
    in
    let told = (add_beside c.self.inside.entries.items c.entries_before-k.result c.args.name c.args.value c.in_ok-values.values c.insert.new.self.items (is_ok c.insert.result)
    c.self.invariant c.requires at absent c.in_ok-values.ensures c.insert.ensures.items).1 in
    elim c.match-insert.branch [ in-Ok w ↦ rw (w.result-is, ← c.self.view_is) (told (ap is_ok w.in-Ok.is)) | in-Err w ↦ rw w.result-is tt ]
